-- Merging: one axis, take, is joined to another, into, where their cells lie in step.
use Rattle.std.specs.Prelude.{◌≡◌, ℕ, ◌*◌, ◌/◌, ◌%◌, Bool, true, false, cond, ◌||◌, List, [], ◌∷◌, ℤ, pos, negsuc, ◌*ℤ◌, Option, ◌==◌, nat_le, slice_index, slice_set, refl}
use Rattle.laws.specs.Space.{Seen}
use Rattle.laws.specs.Faults.{Fault, or_else}
use Rattle.laws.specs.Collapsing.{len_at, stride_at, axis_fault}

-- first take, then into
abbrev pub merge_fault : ℕ → ℕ → Seen → Option Fault
merge_fault take into s = or_else (axis_fault s take) (axis_fault s into)

-- whether two strides are one
abbrev pub same_stride : ℤ → ℤ → Bool
same_stride (pos a) (pos b) = a == b
same_stride (pos a) (negsuc b) = false
same_stride (negsuc a) (pos b) = false
same_stride (negsuc a) (negsuc b) = a == b

-- a merge is done where take or into is no longer than 1, or where take's stride is what length and stride of into multiply to;
-- an axis is merged with itself only where it is no longer than 1
abbrev pub mergeable : ℕ → ℕ → Seen → Bool
mergeable take into s =
    nat_le (len_at s take) 1
    || cond (take == into) false (nat_le (len_at s into) 1 || same_stride (stride_at s take) (pos (len_at s into) *ℤ stride_at s into))

-- the stride of into after a yes, which is take's where take is longer than 1 and into is not
abbrev pub merged_stride : ℕ → ℕ → Seen → ℤ
merged_stride take into s =
    cond (nat_le (len_at s take) 1) (stride_at s into) (cond (nat_le (len_at s into) 1) (stride_at s take) (stride_at s into))

-- the lengths after a yes: into has the product of both, and then take has 1, but 0 where that product is 0
abbrev pub merged_lens : ℕ → ℕ → List ℕ → List ℕ
merged_lens take into ds =
    slice_set (slice_set ds into (slice_index ds into * slice_index ds take)) take (cond ((slice_index ds into * slice_index ds take) == 0) 0 1)

-- the grid after a yes; after a no it is as it was
abbrev pub merged : ℕ → ℕ → Seen → Seen
merged take into s = record {
  cells = s.cells;
  start = s.start;
  lens = merged_lens take into s.lens;
  strides = slice_set s.strides into (merged_stride take into s);
}

-- the tuple that a tuple of the merged grid stands for
abbrev pub merged_back : ℕ → ℕ → List ℕ → List ℕ → List ℕ
merged_back take into ds t =
    cond (take == into) t (slice_set (slice_set t take (slice_index t into / slice_index ds into)) into (slice_index t into % slice_index ds into))

-- ---- examples

abbrev grid : List ℕ → List ℤ → Seen
grid ls zs = record { cells = 6; start = pos 0; lens = ls; strides = zs }

-- an axis no longer than 1 is merged with itself, a longer one is not, and nothing changes either way
pub one_axis_long : mergeable 1 1 (grid (0 ∷ 3 ∷ []) (pos 0 ∷ pos 0 ∷ [])) ≡ false
one_axis_long = refl

pub one_axis_short : mergeable 0 0 (grid (1 ∷ 3 ∷ []) (pos 3 ∷ pos 1 ∷ [])) ≡ true
one_axis_short = refl

pub one_axis_same : merged 0 0 (grid (1 ∷ 3 ∷ []) (pos 3 ∷ pos 1 ∷ [])) ≡ grid (1 ∷ 3 ∷ []) (pos 3 ∷ pos 1 ∷ [])
one_axis_same = refl

-- without cells take gets length 0, even from 1
pub none_left : (merged 1 0 (grid (0 ∷ 1 ∷ []) (pos 0 ∷ pos 0 ∷ []))).lens ≡ 0 ∷ 0 ∷ []
none_left = refl
