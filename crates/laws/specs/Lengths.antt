-- The lengths of a grid's axes, and their products.
use Rattle.std.specs.Prelude.{ℕ, zero, suc, ◌*◌, Bool, false, cond, ◌||◌, List, [], ◌∷◌, ◌==◌, nat_eq}

-- the size of a shape: the product of its lengths
abbrev pub product : List ℕ → ℕ
product [] = 1
product (n ∷ ns) = n * product ns

-- a length, or 1 in place of 0
abbrev pub nonzero : ℕ → ℕ
nonzero n = cond (n == 0) 1 n

-- the product of the lengths that are not 0
abbrev pub nonzeros : List ℕ → ℕ
nonzeros [] = 1
nonzeros (n ∷ ns) = nonzero n * nonzeros ns

-- whether one of a list passes a test
abbrev pub some_of : {A : Type 0} → (A → Bool) → List A → Bool
some_of f [] = false
some_of f (x ∷ xs) = f x || some_of f xs

-- whether some length is 0, so that the grid has no cells
abbrev pub some_zero : List ℕ → Bool
some_zero ns = some_of (λ n. nat_eq n 0) ns

-- whether one of the numbers below n passes a test
abbrev pub some_below : ℕ → (ℕ → Bool) → Bool
some_below zero f = false
some_below (suc n) f = f n || some_below n f
