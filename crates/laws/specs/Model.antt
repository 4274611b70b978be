-- The plain model of a grid's history, which knows lengths and the tuple of the fresh grid that each tuple stands for.
use Rattle.std.specs.Prelude.{ℕ, zero, suc, ◌+◌, ◌*◌, ◌/◌, ◌%◌, Bool, true, false, cond, ◌&&◌, List, [], ◌∷◌, map, length, ℤ, pos, negsuc, ◌+ℤ◌, ◌-ℤ◌, ◌*ℤ◌, ◌==◌, nat_le, nat_lt, slice_index, slice_set, unsigned_abs}
use Rattle.std.specs.List.{range_with_len}
use Rattle.laws.specs.Elements.{Elem, Slice, Index, NewAxis, resolved, upper}
use Rattle.laws.specs.Calls.{Call, Slicing, Collapsing, Merging}

-- the lengths, and which fresh tuple each tuple stands for
pub record Model : Type 0 where
  pub lens : List ℕ
  pub fresh : List ℕ → List ℕ

-- before any call each tuple stands for itself
abbrev pub started : List ℕ → Model
started ds = record { lens = ds; fresh = λ t. t }

-- ---- slicing

-- the index of entry j in a range from a to b: j steps on from a, or from b − 1 where the step is below 0
abbrev pub stepped : ℕ → ℕ → ℤ → ℕ → ℤ
stepped a b (pos n) j = pos a +ℤ pos j *ℤ pos n
stepped a b (negsuc n) j = (pos b -ℤ pos 1) +ℤ pos j *ℤ negsuc n

-- whether an index lies from a up to b
abbrev pub between : ℕ → ℕ → ℤ → Bool
between a b (pos i) = nat_le a i && nat_lt i b
between a b (negsuc i) = false

-- how many of the numbers below n pass a test
abbrev pub how_many : ℕ → (ℕ → Bool) → ℕ
how_many zero f = 0
how_many (suc n) f = cond (f n) 1 0 + how_many n f

-- a range keeps as many as there are indices, step by step, that lie in it
abbrev pub kept_by : ℕ → ℕ → ℤ → ℕ
kept_by a b p = how_many b (λ j. between a b (stepped a b p j))

-- the lengths that a selection leaves: an index leaves none, and a new axis has length 1
abbrev pub lens_by : List Elem → List ℕ → List ℕ
lens_by [] ds = []
lens_by (NewAxis ∷ es) ds = 1 ∷ lens_by es ds
lens_by (Slice s e p ∷ es) [] = []
lens_by (Slice s e p ∷ es) (d ∷ ds) = kept_by (resolved d s) (upper d s e) p ∷ lens_by es ds
lens_by (Index i ∷ es) [] = []
lens_by (Index i ∷ es) (d ∷ ds) = lens_by es ds

-- an entry of a range turns to the index that it stands for, an index is put in again, and what belongs to a new axis is left out
abbrev pub back_by : List Elem → List ℕ → List ℕ → List ℕ
back_by [] ds t = []
back_by (NewAxis ∷ es) ds [] = []
back_by (NewAxis ∷ es) ds (j ∷ t) = back_by es ds t
back_by (Slice s e p ∷ es) [] t = []
back_by (Slice s e p ∷ es) (d ∷ ds) [] = []
back_by (Slice s e p ∷ es) (d ∷ ds) (j ∷ t) = unsigned_abs (stepped (resolved d s) (upper d s e) p j) ∷ back_by es ds t
back_by (Index i ∷ es) [] t = []
back_by (Index i ∷ es) (d ∷ ds) t = resolved d i ∷ back_by es ds t

-- ---- merging

-- a row with one number at take, one at into, and every other as it was
abbrev pub changed : ℕ → ℕ → ℕ → ℕ → List ℕ → List ℕ
changed take there into here ns =
    map (λ k. cond (k == take) there (cond (k == into) here (slice_index ns k))) (range_with_len 0 (length ns))

-- the lengths after a merge: the product of both at into, and at take 1, but 0 where that product is 0
abbrev pub lens_joined : ℕ → ℕ → List ℕ → List ℕ
lens_joined take into ds =
    changed take (cond ((slice_index ds into * slice_index ds take) == 0) 0 1) into (slice_index ds into * slice_index ds take) ds

-- an entry at into is divided by the length that into had, the quotient going to take and the rest staying; an axis merged with itself changes no tuple
abbrev pub back_joined : ℕ → ℕ → List ℕ → List ℕ → List ℕ
back_joined take into ds t =
    cond (take == into) t (changed take (slice_index t into / slice_index ds into) into (slice_index t into % slice_index ds into) t)

-- ---- any call

-- the lengths that an accepted call makes of these
abbrev pub new_lens : Call → List ℕ → List ℕ
new_lens (Slicing es) ds = lens_by es ds
new_lens (Collapsing axis index) ds = slice_set ds axis 1
new_lens (Merging take into) ds = lens_joined take into ds

-- the tuple before an accepted call that a tuple after it stands for; the lengths are those before the call
abbrev pub back : Call → List ℕ → List ℕ → List ℕ
back (Slicing es) ds t = back_by es ds t
back (Collapsing axis index) ds t = slice_set t axis index
back (Merging take into) ds t = back_joined take into ds t

-- only an accepted call changes the model
abbrev pub follow : Bool → Call → Model → Model
follow true c m = record { lens = new_lens c m.lens; fresh = λ t. m.fresh (back c m.lens t) }
follow false c m = m

-- what the model comes to by the calls' arguments, knowing no more of each answer than whether the call was accepted
abbrev pub followed : Model → List Call → List Bool → Model
followed m [] bs = m
followed m (c ∷ cs) [] = m
followed m (c ∷ cs) (b ∷ bs) = followed (follow b c m) cs bs
