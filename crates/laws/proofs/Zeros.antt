-- What the tests on lengths say.
use Rattle.std.proofs.Common.{◌≡◌, ℕ, ◌<◌, Bool, true, false, eqb, List, [], ◌∷◌, Decides, refl, inl, inr, mul-zero, zero-mul, arith}
use Rattle.std.proofs.lemmas.Bool.{both_ways, eqb-true, eqb-false, or_cases, or_parts, cases_Bool}
use Rattle.std.proofs.lemmas.Bool.Decides.{Decides-below_or}
use Rattle.laws.specs.Lengths.{product, some_zero, some_below}
use Rattle.laws.specs.Tuples.{Within}
use Rattle.laws.proofs.Tuples.{mul-pos, product-pos}

-- ---- whether one of the numbers below n passes a test

below_decides : (n : ℕ) (f : ℕ → Bool) → Decides (some_below n f) ((i : ℕ) × (i < n) × (f i ≡ true))
below_decides n f = Decides-below_or f (λ i. f i ≡ true) (λ m. some_below m f) (λ i. ((λ e. e), (λ e. e))) refl (λ _. refl) n

pub below_some : (n : ℕ) (f : ℕ → Bool) → some_below n f ≡ true → (i : ℕ) × (i < n) × (f i ≡ true)
below_some n f = (below_decides n f).0

pub below_none : (n : ℕ) (f : ℕ → Bool) → some_below n f ≡ false → (i : ℕ) → i < n → f i ≡ false
below_none n f e i h =
    elim (cases_Bool (f i)) [
      | inl on ↦ absurd (both_ways (some_below n f) e ((below_decides n f).1 (i, h, on)))
      | inr off ↦ off
    ]

pub below_at : (n i : ℕ) (f : ℕ → Bool) → i < n → f i ≡ true → some_below n f ≡ true
below_at n i f h e = (below_decides n f).1 (i, h, e)

-- ---- whether some length is 0

pub some-zero-product : (ls : List ℕ) → some_zero ls ≡ true → product ls ≡ 0
some-zero-product [] e = absurd (both_ways false refl e)
some-zero-product (n ∷ ls) e =
    elim (or_cases (eqb n 0) (some_zero ls) e) [
      | inl here ↦ rw (eqb-true n 0 here) (zero-mul (product ls))
      | inr later ↦ rw (some-zero-product ls later) (mul-zero n)
    ]

pub no-zero-product : (ls : List ℕ) → some_zero ls ≡ false → 0 < product ls
no-zero-product [] e = omega arith
no-zero-product (n ∷ ls) e =
    let both = or_parts (eqb n 0) (some_zero ls) e in
    mul-pos n (product ls) (omega (arith, eqb-false n 0 both.0)) (no-zero-product ls both.1)

-- where there is a tuple, no length is 0
pub within-no-zero : (ix ls : List ℕ) → Within ix ls → some_zero ls ≡ false
within-no-zero ix ls w =
    elim (cases_Bool (some_zero ls)) [
      | inl on ↦ absurd (omega (arith, product-pos ix ls w, some-zero-product ls on))
      | inr off ↦ off
    ]
