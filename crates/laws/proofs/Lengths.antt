-- Products of lengths as a loop multiplies them up, and a factor that passes a limit.
use Rattle.std.proofs.Common.{◌≡◌, ℕ, zero, suc, ◌+◌, ◌*◌, ◌/◌, ◌<◌, ◌≤◌, List, [], ◌∷◌, ◌++◌, reverse, length, get_or, drop, sym, refl, ap, ◌∙◌, subst, inl, inr, mul_assoc, mul_comm, mul-le-mul, mul-le-mul_left, le-div_iff_mul-le, mul-one, le-mul_of_pos_right, mul_left_comm, arith}
use native.Mathlib.Nat.{one-le-mul}
use Rattle.std.proofs.lemmas.List.{at_drop_more, at_drop_all, reverse-append}
use Rattle.std.proofs.lemmas.Bool.{cases_lt}
use Rattle.std.proofs.lemmas.Bool.Decides.{nat_tests}
use Rattle.laws.specs.Lengths.{product, nonzero, nonzeros}

pub nonzero-pos : (n : ℕ) → 0 < nonzero n
nonzero-pos n = grind (arith, nat_tests)

pub nonzero_above : (n : ℕ) → n ≤ nonzero n
nonzero_above n = grind (arith, nat_tests)

pub nonzeros-pos : (ws : List ℕ) → 0 < nonzeros ws
nonzeros-pos [] = omega arith
nonzeros-pos (x ∷ xs) = one-le-mul (nonzero-pos x) (nonzeros-pos xs)

-- one factor more of what is left
pub nonzeros_more : (ws : List ℕ) (i a t : ℕ) → i < length ws → a * nonzeros (drop i ws) ≡ t → (a * nonzero (get_or ws i 0)) * nonzeros (drop (i + 1) ws) ≡ t
nonzeros_more ws i a t l e =
    let step : nonzeros (drop i ws) ≡ nonzero (get_or ws i 0) * nonzeros (drop (i + 1) ws) = at_drop_more nonzeros ws i 0 l in
    mul_assoc a (nonzero (get_or ws i 0)) (nonzeros (drop (i + 1) ws)) ∙ ap (λ n. a * n) (sym step) ∙ e

pub product_more : (ws : List ℕ) (i a t : ℕ) → i < length ws → a * product (drop i ws) ≡ t → (a * get_or ws i 0) * product (drop (i + 1) ws) ≡ t
product_more ws i a t l e =
    let step : product (drop i ws) ≡ get_or ws i 0 * product (drop (i + 1) ws) = at_drop_more product ws i 0 l in
    mul_assoc a (get_or ws i 0) (product (drop (i + 1) ws)) ∙ ap (λ n. a * n) (sym step) ∙ e

pub product-all : (ws : List ℕ) (i a t : ℕ) → length ws ≤ i → a * product (drop i ws) ≡ t → a ≡ t
product-all ws i a t l e =
    let end : product (drop i ws) ≡ 1 = at_drop_all product ws i l in
    sym (mul-one a) ∙ ap (λ n. a * n) (sym end) ∙ e

-- ---- a product tested beforehand, by a quotient

pub within : (a by m : ℕ) → 0 < by → a ≤ m / by → a * by ≤ m
within a by m p h = (le-div_iff_mul-le p).0 h

pub past : (a by m : ℕ) → 0 < by → m / by < a → m < a * by
past a by m p h = elim (cases_lt m (a * by)) [
  | inl l ↦ l
  | inr le ↦ let b : a ≤ m / by = (le-div_iff_mul-le p).1 le in absurd (omega arith)
]

-- a part of a product of positive factors is at most the whole
pub part_below : (a r t : ℕ) → 0 < r → a * r ≡ t → a ≤ t
part_below a r t p e = subst (λ (n : ℕ). a ≤ n) e (le-mul_of_pos_right a p)

-- ---- the product of all lengths is at most that of the nonzero ones, and so is what is left of it

pub product_below : (ws : List ℕ) → product ws ≤ nonzeros ws
product_below [] = omega arith
product_below (x ∷ xs) = mul-le-mul (nonzero_above x) (product_below xs)

pub drop_below : (i : ℕ) (ws : List ℕ) → nonzeros (drop i ws) ≤ nonzeros ws
drop_below zero ws = omega arith
drop_below (suc i) [] = omega arith
drop_below (suc i) (x ∷ xs) =
    let below = drop_below i xs in
    let grown : nonzeros xs ≤ nonzeros xs * nonzero x = le-mul_of_pos_right (nonzeros xs) (nonzero-pos x) in
    let turned = mul_comm (nonzero x) (nonzeros xs) in
    omega arith

-- ---- products do not depend on the order of the lengths

pub reverse-cons : (x : ℕ) (xs : List ℕ) → reverse (x ∷ xs) ≡ reverse xs ++ x ∷ []
reverse-cons x xs = reverse-append (x ∷ []) xs

nonzeros_push : (xs : List ℕ) (y : ℕ) → nonzeros (xs ++ y ∷ []) ≡ nonzero y * nonzeros xs
nonzeros_push [] y = refl
nonzeros_push (x ∷ xs) y = ap (λ n. nonzero x * n) (nonzeros_push xs y) ∙ mul_left_comm (nonzero x) (nonzero y) (nonzeros xs)

pub nonzeros-reverse : (ws : List ℕ) → nonzeros (reverse ws) ≡ nonzeros ws
nonzeros-reverse [] = refl
nonzeros-reverse (x ∷ xs) = ap nonzeros (reverse-cons x xs) ∙ nonzeros_push (reverse xs) x ∙ ap (λ n. nonzero x * n) (nonzeros-reverse xs)

-- ---- a product so far, times the nonzero lengths that are left, stays within a bound

pub part_more : (ws : List ℕ) (i a n t : ℕ) → i < length ws → n ≡ get_or ws i 0 → a * nonzeros (drop i ws) ≤ t → a * n * nonzeros (drop (i + 1) ws) ≤ t
part_more ws i a n t l e h =
    let step : nonzeros (drop i ws) ≡ nonzero (get_or ws i 0) * nonzeros (drop (i + 1) ws) = at_drop_more nonzeros ws i 0 l in
    let above : n * nonzeros (drop (i + 1) ws) ≤ nonzero (get_or ws i 0) * nonzeros (drop (i + 1) ws) =
    mul-le-mul (subst (λ (k : ℕ). k ≤ nonzero (get_or ws i 0)) (sym e) (nonzero_above (get_or ws i 0))) (omega arith) in
    let less = mul-le-mul_left a above in
    let turn = mul_assoc a n (nonzeros (drop (i + 1) ws)) in
    let whole = ap (λ k. a * k) step in
    omega arith

pub part_fits : (ws : List ℕ) (i a n t : ℕ) → i < length ws → n ≡ get_or ws i 0 → a * nonzeros (drop i ws) ≤ t → a * n ≤ t
part_fits ws i a n t l e h =
    omega (arith, part_more ws i a n t l e h, le-mul_of_pos_right (a * n) (nonzeros-pos (drop (i + 1) ws)))
