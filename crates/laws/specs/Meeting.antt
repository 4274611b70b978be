-- Meeting: whether some tuple is chosen by two selections.
use Rattle.std.specs.Prelude.{◌≡◌, ℕ, suc, ◌+◌, ◌-◌, ◌*◌, ◌<◌, Bool, true, false, ◌&&◌, List, [], ◌∷◌, ℤ, pos, negsuc, ◌==◌, nat_eq}
use Rattle.laws.specs.Lengths.{some_below}
use Rattle.laws.specs.Tuples.{Within}
use Rattle.laws.specs.Space.{Seen}
use Rattle.laws.specs.Filling.{Lies}
use Rattle.laws.specs.Elements.{Elem, Slice, Index, NewAxis, resolved, upper, entries, entry}
use Rattle.laws.specs.Slicing.{sliced_lens, sliced_back}

-- ---- what it means

-- a tuple is chosen where some tuple of the slice stands for it
abbrev pub Chosen : List ℕ → List Elem → List ℕ → Type 0
Chosen ds es t = (u : List ℕ) × Within u (sliced_lens es ds) × (sliced_back es ds u ≡ t)

-- there is a tuple of these lengths that both selections choose
abbrev pub Meet : List ℕ → List Elem → List Elem → Type 0
Meet ds es us = (t : List ℕ) × Within t ds × Chosen ds es t × Chosen ds us t

-- the two grids have a cell in common
abbrev pub Shared : Seen → Seen → Type 0
Shared a b = (k : ℕ) × Lies a k × Lies b k

-- ---- how it is told, axis by axis

-- the elements without the new axes
abbrev pub axes_of : List Elem → List Elem
axes_of [] = []
axes_of (NewAxis ∷ es) = axes_of es
axes_of (Slice s e p ∷ es) = Slice s e p ∷ axes_of es
axes_of (Index i ∷ es) = Index i ∷ axes_of es

-- whether an element chooses index i of an axis of length d
abbrev pub picks : ℕ → Elem → ℕ → Bool
picks d (Slice s e p) i = some_below (entries (resolved d s) (upper d s e) p) (λ j. nat_eq (entry (resolved d s) (upper d s e) p j) i)
picks d (Index k) i = resolved d k == i
picks d NewAxis i = false

-- whether some index of an axis is chosen by both elements
abbrev pub axis_meets : ℕ → Elem → Elem → Bool
axis_meets d x y = some_below d (λ i. picks d x i && picks d y i)

-- whether that holds of each axis
abbrev pub axes_meet : List Elem → List Elem → List ℕ → Bool
axes_meet [] ys ds = true
axes_meet (x ∷ xs) [] ds = true
axes_meet (x ∷ xs) (y ∷ ys) [] = true
axes_meet (x ∷ xs) (y ∷ ys) (d ∷ ds) = axis_meets d x y && axes_meet xs ys ds

-- the verdict
abbrev pub meeting : List Elem → List Elem → List ℕ → Bool
meeting es us ds = axes_meet (axes_of es) (axes_of us) ds

-- ---- two ranges on one axis are two progressions

-- the least index that the range from a to b takes, if it takes any
abbrev pub lowest : ℕ → ℕ → ℤ → ℕ
lowest a b (pos n) = a
lowest a b (negsuc n) = b - 1 - (entries a b (negsuc n) - 1) * suc n

-- some number is m + a x for an x below n, and m' + b y for a y below n'
abbrev pub Common : (m a n m' b n' : ℕ) → Type 0
Common m a n m' b n' = (x : ℕ) × (y : ℕ) × (x < n) × (y < n') × (m + a * x ≡ m' + b * y)
