-- The strides of a shape: how many cells one step along each axis goes.
use Rattle.std.specs.Prelude.{ℕ, ◌+◌, ◌*◌, ◌%◌, ◌^◌, cond, List, [], ◌∷◌, map, length, replicate, ℤ}
use Rattle.std.specs.Int.{w64}
use Rattle.std.proofs.Common.{to_z}
use Rattle.laws.specs.Lengths.{product, some_zero}

-- a stride is the number that a word of 64 bits stands for in two's complement
abbrev pub signed : List ℕ → List ℤ
signed ws = map (λ w. to_z w64 w) ws

-- the word so many strides on from another, counted in 64 bits
abbrev pub onward : ℕ → ℕ → ℕ → ℕ
onward from index stride = (from + index * stride) % 2 ^ 64

-- for each axis, what the lengths after it multiply to
abbrev pub laters : List ℕ → List ℕ
laters [] = []
laters (n ∷ ns) = product ns ∷ laters ns

-- for each axis, what the lengths before it multiply to, a times
abbrev pub earliers : ℕ → List ℕ → List ℕ
earliers a [] = []
earliers a (n ∷ ns) = a ∷ earliers (a * n) ns

-- the strides of each order; a length 0 makes them all 0
abbrev pub row_major : List ℕ → List ℕ
row_major ns = cond (some_zero ns) (replicate (length ns) 0) (laters ns)

abbrev pub column_major : List ℕ → List ℕ
column_major ns = cond (some_zero ns) (replicate (length ns) 0) (earliers 1 ns)
