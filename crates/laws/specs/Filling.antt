-- Filling a grid's cells with one value, and reading the cell of a tuple.
use Rattle.std.specs.Prelude.{◌≡◌, ℕ, suc, ◌<◌, Bool, false, cond, not, List, [], ◌∷◌, length, ℤ, pos, negsuc, ◌-ℤ◌, ◌*ℤ◌, Some, None, Ok, Option, Result, ◌==◌, slice_index_or}
use Rattle.std.specs.List.{slice_get}
use Rattle.laws.specs.Lengths.{some_below}
use Rattle.laws.specs.Tuples.{Within, is_within}
use Rattle.laws.specs.Space.{Seen, cell}
use Rattle.laws.specs.Faults.{Fault, in_grid, refuse}

-- the tuple ix of the grid reaches cell k
pub record Reaches (s : Seen) (ix : List ℕ) (k : ℕ) : Type 0 where
  pub within : Within ix s.lens
  pub here : cell s ix ≡ pos k

-- the cells of a grid are those that its tuples reach
abbrev pub Lies : Seen → ℕ → Type 0
Lies s k = (ix : List ℕ) × Reaches s ix k

-- ---- filling

-- 4 where another count of cells is lent than the grid has
abbrev pub lent : Seen → ℕ → Result (Unit {0}) Fault
lent s n = refuse (not (n == s.cells)) (in_grid 4) (Ok tt)

-- whether some tuple within the lengths has this sum of index × stride
abbrev pub is_zero : ℤ → Bool
is_zero (pos k) = k == 0
is_zero (negsuc k) = false

abbrev pub sums : List ℕ → List ℤ → ℤ → Bool
sums [] zs t = is_zero t
sums (n ∷ ns) [] t = false
sums (n ∷ ns) (z ∷ zs) t = some_below n (λ i. sums ns zs (t -ℤ pos i *ℤ z))

-- whether some tuple reaches cell k
abbrev pub reaches : Seen → ℕ → Bool
reaches s k = sums s.lens s.strides (pos k -ℤ s.start)

-- the cells from place k on, each with the value where some tuple reaches it
abbrev pub filled_from : {X : Type 0} → Seen → X → ℕ → List X → List X
filled_from s v k [] = []
filled_from s v k (x ∷ xs) = cond (reaches s k) v x ∷ filled_from s v (suc k) xs

-- the lent cells after filling; another count of cells is left as it is
abbrev pub filled : {X : Type 0} → Seen → X → List X → List X
filled s v xs = cond (length xs == s.cells) (filled_from s v 0 xs) xs

-- what filling means: each cell of the grid holds the value, and every other what it held
pub record Filled {X : Type 0} (s : Seen) (value : X) (old new : List X) : Type 0 where
  pub long : length new ≡ length old
  pub hit : (k : ℕ) (d : X) → k < length old → Lies s k → slice_index_or new k d ≡ value
  pub miss : (k : ℕ) (d : X) → (Lies s k → ⊥) → slice_index_or new k d ≡ slice_index_or old k d

-- ---- reading

-- a cell by its number
abbrev pub numbered : ℤ → Option ℕ
numbered (pos k) = Some k
numbered (negsuc k) = None

-- the cell of a tuple, or none where the tuple is not within the lengths
abbrev pub cell_at : Seen → List ℕ → Option ℕ
cell_at s ix = cond (is_within ix s.lens) (numbered (cell s ix)) None

-- what a place of the lent cells holds, where there is such a place
abbrev pub held : {X : Type 0} → List X → Option ℕ → Option X
held xs None = None
held xs (Some k) = slice_get xs k

-- the value at a tuple
abbrev pub reading : {X : Type 0} → Seen → List X → List ℕ → Option X
reading s xs ix = held xs (cell_at s ix)

-- what reading means: none exactly where the tuple is not within the lengths, else what its cell holds
abbrev pub Read : {X : Type 0} → Seen → List X → List ℕ → Option X → Type 0
Read s xs ix None = Within ix s.lens → ⊥
Read {X} s xs ix (Some v) = (k : ℕ) × Reaches s ix k × (k < length xs) × ((d : X) → v ≡ slice_index_or xs k d)
