-- A number that is kept only where it is a word, and the size of a shape by its nonzero lengths.
use Rattle.std.proofs.Common.{◌≡◌, ℕ, ◌^◌, ◌<◌, ◌≤◌, min, false, cond, eqb, List, [], ◌∷◌, Some, None, sym, ap, refl, inl, inr, arith}
use Rattle.std.specs.Option.{unwrap_or}
use Rattle.std.proofs.lemmas.Bool.{lt-ltb, le-ltb, cases_lt, cases_Bool, or_parts}
use Rattle.std.proofs.lemmas.Bool.Decides.{nat_tests}
use Rattle.laws.specs.Lengths.{product, nonzeros, some_zero}
use Rattle.laws.proofs.Zeros.{some-zero-product, no-zero-product}
use Rattle.dimension.specs.Reach.{worded}

pub worded_over : (n : ℕ) → 2 ^ 64 ≤ n → None ≡ worded n
worded_over n h = ap (λ b. cond b (Some n) None) (sym (le-ltb n (2 ^ 64) h))

-- a product or a sum that is no word is too great
pub past_word : (n : ℕ) → (n < 2 ^ 64 → ⊥) → 2 ^ 64 ≤ n
past_word n h = elim (cases_lt n (2 ^ 64)) [
  | inl under ↦ absurd (h under)
  | inr over ↦ over
]

-- what is kept of a number, or the greatest word, is the number where it is small
pub kept_small : (n w : ℕ) → w ≡ unwrap_or (worded n) 18446744073709551615 → w ≤ 9223372036854775807 → w ≡ n
kept_small n w e h = elim (cases_lt n (2 ^ 64)) [
  | inl under ↦ rw (lt-ltb n (2 ^ 64) under) at e
  | inr over ↦ absurd (omega (arith, h, rw (le-ltb n (2 ^ 64) over) at e))
]

-- ---- the size of a shape

pub no-zero-nonzeros : (ls : List ℕ) → some_zero ls ≡ false → nonzeros ls ≡ product ls
no-zero-nonzeros [] e = refl
no-zero-nonzeros (n ∷ ls) e =
    let both = or_parts (eqb n 0) (some_zero ls) e in
    rw (both.0, no-zero-nonzeros ls both.1)

-- the last axis's stride
pub first_step : (ls : List ℕ) → min (product ls) 1 ≡ cond (some_zero ls) 0 1
first_step ls = elim (cases_Bool (some_zero ls)) [
  | inl on ↦ rw (on, some-zero-product ls on)
  | inr off ↦ rw (off) (grind (arith, nat_tests, no-zero-product ls off))
]
