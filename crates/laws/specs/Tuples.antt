-- Tuples of indices: one index for each axis, each below the axis's length.
use Rattle.std.specs.Prelude.{ℕ, ◌+◌, ◌*◌, ◌<◌, Bool, true, false, ◌&&◌, List, [], ◌∷◌, nat_lt}
use Rattle.laws.specs.Lengths.{product}

-- a tuple within the lengths: as many entries, each below its length
abbrev pub Within : List ℕ → List ℕ → Type 0
Within [] [] = Unit {0}
Within [] (n ∷ ns) = ⊥
Within (i ∷ ix) [] = ⊥
Within (i ∷ ix) (n ∷ ns) = (i < n) × Within ix ns

-- the same as a test
abbrev pub is_within : List ℕ → List ℕ → Bool
is_within [] [] = true
is_within [] (n ∷ ns) = false
is_within (i ∷ ix) [] = false
is_within (i ∷ ix) (n ∷ ns) = nat_lt i n && is_within ix ns

-- how many tuples within the lengths come before this one in row-major order
abbrev pub place : List ℕ → List ℕ → ℕ
place [] ns = 0
place (i ∷ ix) [] = 0
place (i ∷ ix) (n ∷ ns) = i * product ns + place ix ns
