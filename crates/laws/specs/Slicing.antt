-- Slicing: what a selection is refused for, the grid that it leaves, and which tuple each of its tuples stands for.
use Rattle.std.specs.Prelude.{ℕ, suc, ◌-◌, cond, List, [], ◌∷◌, length, ℤ, pos, ◌+ℤ◌, ◌*ℤ◌, Some, None, Option, Result, ◌==◌, nat_le, nat_lt}
use Rattle.laws.specs.Space.{Seen}
use Rattle.laws.specs.Faults.{Fault, in_selection, unless}
use Rattle.laws.specs.Elements.{Elem, Slice, Index, NewAxis, in_count, out_count, resolved, upper, outside, outside_index, bad_step, entries, first, entry}

-- ---- refusals

-- the first faulty element from place k on: 14 outside its axis, then 15 for its step
abbrev pub first_fault : ℕ → List Elem → List ℕ → Option Fault
first_fault k [] ds = None
first_fault k (NewAxis ∷ es) ds = first_fault (suc k) es ds
first_fault k (Slice s e p ∷ es) [] = None
first_fault k (Slice s e p ∷ es) (d ∷ ds) =
    cond (outside d s e) (Some (in_selection 14 (Some k)))
    (cond (bad_step p) (Some (in_selection 15 (Some k))) (first_fault (suc k) es ds))
first_fault k (Index i ∷ es) [] = None
first_fault k (Index i ∷ es) (d ∷ ds) = cond (outside_index d i) (Some (in_selection 14 (Some k))) (first_fault (suc k) es ds)

-- 13 where it takes another count of axes than there are, 11 where it leaves more than 8, then the first faulty element
abbrev pub slice_fault : List Elem → List ℕ → Option Fault
slice_fault es ds =
    cond (in_count es == length ds)
    (cond (nat_lt 8 (out_count es)) (Some (in_selection 11 None)) (first_fault 0 es ds))
    (Some (in_selection 13 None))

-- ---- the grid after it

-- a range leaves as many as it has entries, an index drops its axis, and a new axis has length 1
abbrev pub sliced_lens : List Elem → List ℕ → List ℕ
sliced_lens [] ds = []
sliced_lens (NewAxis ∷ es) ds = 1 ∷ sliced_lens es ds
sliced_lens (Slice s e p ∷ es) [] = []
sliced_lens (Slice s e p ∷ es) (d ∷ ds) = entries (resolved d s) (upper d s e) p ∷ sliced_lens es ds
sliced_lens (Index i ∷ es) [] = []
sliced_lens (Index i ∷ es) (d ∷ ds) = sliced_lens es ds

-- the stride after a range from a to b on an axis of stride z: 0 for one entry or none, else multiplied by the step
abbrev pub cut_stride : ℕ → ℕ → ℤ → ℤ → ℤ
cut_stride a b p z = cond (nat_le (entries a b p) 1) (pos 0) (z *ℤ p)

-- how far such a range moves the start: as many strides as its first index says, or not at all where it is empty
abbrev pub cut_move : ℕ → ℕ → ℤ → ℤ → ℤ
cut_move a b p z = cond (b - a == 0) (pos 0) (pos (first a b p) *ℤ z)

-- the strides; a new axis has stride 0
abbrev pub sliced_strides : List Elem → List ℕ → List ℤ → List ℤ
sliced_strides [] ds zs = []
sliced_strides (NewAxis ∷ es) ds zs = pos 0 ∷ sliced_strides es ds zs
sliced_strides (Slice s e p ∷ es) [] zs = []
sliced_strides (Slice s e p ∷ es) (d ∷ ds) [] = []
sliced_strides (Slice s e p ∷ es) (d ∷ ds) (z ∷ zs) = cut_stride (resolved d s) (upper d s e) p z ∷ sliced_strides es ds zs
sliced_strides (Index i ∷ es) [] zs = []
sliced_strides (Index i ∷ es) (d ∷ ds) [] = []
sliced_strides (Index i ∷ es) (d ∷ ds) (z ∷ zs) = sliced_strides es ds zs

-- how far the start moves in all; an index moves it that many strides
abbrev pub sliced_move : List Elem → List ℕ → List ℤ → ℤ
sliced_move [] ds zs = pos 0
sliced_move (NewAxis ∷ es) ds zs = sliced_move es ds zs
sliced_move (Slice s e p ∷ es) [] zs = pos 0
sliced_move (Slice s e p ∷ es) (d ∷ ds) [] = pos 0
sliced_move (Slice s e p ∷ es) (d ∷ ds) (z ∷ zs) = cut_move (resolved d s) (upper d s e) p z +ℤ sliced_move es ds zs
sliced_move (Index i ∷ es) [] zs = pos 0
sliced_move (Index i ∷ es) (d ∷ ds) [] = pos 0
sliced_move (Index i ∷ es) (d ∷ ds) (z ∷ zs) = pos (resolved d i) *ℤ z +ℤ sliced_move es ds zs

abbrev pub sliced : List Elem → Seen → Seen
sliced es s = record {
  cells = s.cells;
  start = s.start +ℤ sliced_move es s.lens s.strides;
  lens = sliced_lens es s.lens;
  strides = sliced_strides es s.lens s.strides;
}

-- what slicing answers
abbrev pub slicing : List Elem → Seen → Result Seen Fault
slicing es s = unless (slice_fault es s.lens) (sliced es s)

-- ---- its tuples

-- the tuple that a tuple of the slice stands for
abbrev pub sliced_back : List Elem → List ℕ → List ℕ → List ℕ
sliced_back [] ds t = []
sliced_back (NewAxis ∷ es) ds [] = []
sliced_back (NewAxis ∷ es) ds (j ∷ t) = sliced_back es ds t
sliced_back (Slice s e p ∷ es) [] t = []
sliced_back (Slice s e p ∷ es) (d ∷ ds) [] = []
sliced_back (Slice s e p ∷ es) (d ∷ ds) (j ∷ t) = entry (resolved d s) (upper d s e) p j ∷ sliced_back es ds t
sliced_back (Index i ∷ es) [] t = []
sliced_back (Index i ∷ es) (d ∷ ds) t = resolved d i ∷ sliced_back es ds t
