-- What one more digit does, and what the digits of a whole word come to.
use Rattle.std.proofs.Common.{◌≡◌, ℕ, ◌+◌, ◌-◌, ◌*◌, ◌^◌, ◌<◌, ◌≤◌, List, [], ◌∷◌, fold, Some, None, sym, refl, ap, ◌∙◌, ⊎_elim, arith, le-ltb, lt-ltb}
use Rattle.std.proofs.lemmas.Bool.{cases_lt, cond-true, cond-false}
use Rattle.script.specs.Numerals.{behind, extended, fitted, spelled}

fits : (n : ℕ) → n < 2 ^ 64 → fitted n ≡ Some n
fits n h = cond-true _ _ _ (lt-ltb n (2 ^ 64) h)

passes : (n : ℕ) → 2 ^ 64 ≤ n → fitted n ≡ None
passes n h = cond-false _ _ _ (le-ltb n (2 ^ 64) h)

-- what does not fit fits no better with one more digit
pub extended-fitted : (n d : ℕ) → extended (fitted n) d ≡ fitted (n * 10 + d)
extended-fitted n d =
    ⊎_elim
    (λ h. ap (λ o. extended o d) (fits n h))
    (λ h. ap (λ o. extended o d) (passes n h) ∙ sym (passes (n * 10 + d) (omega arith)))
    (cases_lt n (2 ^ 64))

-- digit by digit, a number is had as long as it fits
fold-extended : (word : List ℕ) (n : ℕ) → fold (λ o b. extended o (b - 48)) (fitted n) word ≡ fitted (fold behind n word)
fold-extended [] n = refl
fold-extended (b ∷ bs) n = ap (λ o. fold (λ o b. extended o (b - 48)) o bs) (extended-fitted n (b - 48)) ∙ fold-extended bs (behind n b)

pub fold-fitted : (word : List ℕ) → fold (λ o b. extended o (b - 48)) (Some 0) word ≡ fitted (spelled word)
fold-fitted word = ap (λ o. fold (λ o b. extended o (b - 48)) o word) (sym (fits 0 (omega arith))) ∙ fold-extended word 0
