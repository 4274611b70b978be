-- A counted front, and a reversed list, read and written by place; and a test of each element, as a loop makes it.
use Rattle.std.proofs.Common.{ℕ, zero, suc, ◌<◌, List, [], ◌∷◌, length, get_or, arith}

-- an element that is not 0 stands within the list
pub get_or-within : (xs : List ℕ) (i : ℕ) → 0 < get_or xs i 0 → i < length xs
get_or-within [] i h = absurd (omega arith)
get_or-within (x ∷ xs) zero h = omega arith
get_or-within (x ∷ xs) (suc i) h = let l = get_or-within xs i h in omega arith
