-- Where the cells of a grid lie, and what always holds of a grid.
use Rattle.std.specs.Prelude.{◌≡◌, ℕ, suc, ◌+◌, ◌-◌, ◌*◌, ◌≤◌, Bool, false, T, List, [], ◌∷◌, length, ℤ, pos, negsuc, ◌+ℤ◌, ◌*ℤ◌, ◌≤ℤ◌, nat_lt}
use Rattle.laws.specs.Lengths.{nonzeros}
use Rattle.laws.specs.Tuples.{Within}

-- a grid as the rules see it: how many cells are lent, the start, and for each axis a length and a stride
pub record Seen : Type 0 where
  pub cells : ℕ
  pub start : ℤ
  pub lens : List ℕ
  pub strides : List ℤ

-- the sum of index × stride
abbrev pub offset : List ℕ → List ℤ → ℤ
offset [] zs = pos 0
offset (i ∷ ix) [] = pos 0
offset (i ∷ ix) (z ∷ zs) = pos i *ℤ z +ℤ offset ix zs

-- where a tuple lies, which is that sum on from the start
abbrev pub cell_of : ℤ → List ℤ → List ℕ → ℤ
cell_of start zs ix = start +ℤ offset ix zs

abbrev pub cell : Seen → List ℕ → ℤ
cell s ix = cell_of s.start s.strides ix

-- at least 0 and below n
abbrev pub inside : ℕ → ℤ → Bool
inside n (pos k) = nat_lt k n
inside n (negsuc k) = false

-- each tuple has its cell among those that are lent
abbrev pub Bounds : ℕ → ℤ → List ℕ → List ℤ → Type 0
Bounds cells start ls zs = (ix : List ℕ) → Within ix ls → T (inside cells (cell_of start zs ix))

-- two tuples that have one cell
pub record Twins (ls : List ℕ) (zs : List ℤ) : Type 0 where
  pub one : List ℕ
  pub other : List ℕ
  pub one_within : Within one ls
  pub other_within : Within other ls
  pub meet : offset one zs ≡ offset other zs

-- different tuples have different cells
abbrev pub Distinct : List ℕ → List ℤ → Type 0
Distinct ls zs = (t : Twins ls zs) → t.one ≡ t.other

-- the sum of (length − 1) × what f sees of the stride; a length 0 adds nothing
abbrev pub reach : (ℤ → ℕ) → List ℕ → List ℤ → ℕ
reach f [] zs = 0
reach f (n ∷ ns) [] = 0
reach f (n ∷ ns) (z ∷ zs) = (n - 1) * f z + reach f ns zs

-- what a stride adds going up, and going down
abbrev pub plus : ℤ → ℕ
plus (pos k) = k
plus (negsuc k) = 0

abbrev pub minus : ℤ → ℕ
minus (pos k) = 0
minus (negsuc k) = suc k

-- how much of the reach comes from positive strides, and how much from negative ones
abbrev pub up : List ℕ → List ℤ → ℕ
up ls zs = reach plus ls zs

abbrev pub down : List ℕ → List ℤ → ℕ
down ls zs = reach minus ls zs

-- what always holds of a grid: its cells are lent, different tuples have different ones, and the limits are kept
pub record Sound (s : Seen) : Type 0 where
  pub bounds : Bounds s.cells s.start s.lens s.strides
  pub distinct : Distinct s.lens s.strides
  pub narrow : s.cells ≤ 1048576
  pub small : nonzeros s.lens ≤ 1048576
  pub low : pos (down s.lens s.strides) ≤ℤ s.start
  pub high : (s.start +ℤ pos (up s.lens s.strides)) ≤ℤ pos s.cells
  pub paired : length s.lens ≡ length s.strides
  pub few : length s.lens ≤ 8
