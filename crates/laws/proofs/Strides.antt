-- Strides as a loop from the last axis makes them, and in the other order.
use Rattle.std.proofs.Common.{◌≡◌, ℕ, zero, suc, ◌+◌, ◌-◌, ◌*◌, ◌<◌, ◌≤◌, Bool, true, false, cond, ◌||◌, eqb, List, [], ◌∷◌, ◌++◌, reverse, length, get_or, drop, set, replicate, sym, refl, ap, ◌∙◌, subst, mul_assoc, mul_comm, one-mul, zero-mul, mul-one, mul_left_comm, add-one, arith}
use Rattle.std.proofs.lemmas.List.{at_drop_more, drop-set, reverse-append, length-reverse, replicate_more}
use Rattle.laws.specs.Lengths.{product, nonzeros, some_zero}
use Rattle.laws.specs.Strides.{laters, earliers, row_major, column_major}
use Rattle.laws.proofs.Lengths.{product_below, drop_below, reverse-cons}

-- `laters`, a times
abbrev pub scaled : ℕ → List ℕ → List ℕ
scaled a [] = []
scaled a (x ∷ xs) = a * product xs ∷ scaled a xs

pub scaled_one : (ws : List ℕ) → scaled 1 ws ≡ laters ws
scaled_one [] = refl
scaled_one (x ∷ xs) = rw (one-mul (product xs), scaled_one xs)

pub scaled_zero : (ws : List ℕ) → scaled 0 ws ≡ replicate (length ws) 0
scaled_zero [] = refl
scaled_zero (x ∷ xs) = rw (zero-mul (product xs), scaled_zero xs)

pub scaled_row_major : (ws : List ℕ) → scaled (cond (some_zero ws) 0 1) ws ≡ row_major ws
scaled_row_major ws = by (some_zero ws) refl where
  by : (b : Bool) → b ≡ some_zero ws → scaled (cond b 0 1) ws ≡ cond b (replicate (length ws) 0) (laters ws)
  by true e = scaled_zero ws
  by false e = scaled_one ws

-- ---- a product of what is left is within the limit

pub step_fits : (b : Bool) (i : ℕ) (ws : List ℕ) → cond b 0 1 * product (drop i ws) ≤ nonzeros ws
step_fits true i ws = let z = zero-mul (product (drop i ws)) in omega arith
step_fits false i ws =
    let z = one-mul (product (drop i ws)) in
    let p = product_below (drop i ws) in
    let q = drop_below i ws in
    omega arith

-- ---- one axis more, from the last
pub step_more : (a i : ℕ) (ws : List ℕ) → i < length ws → (a * product (drop (i + 1) ws)) * get_or ws i 0 ≡ a * product (drop i ws)
step_more a i ws l =
    let e : product (drop i ws) ≡ get_or ws i 0 * product (drop (i + 1) ws) = at_drop_more product ws i 0 l in
    mul_assoc a (product (drop (i + 1) ws)) (get_or ws i 0) ∙ ap (λ n. a * n) (mul_comm (product (drop (i + 1) ws)) (get_or ws i 0) ∙ sym e)

pub write_more : (a i : ℕ) (ws out : List ℕ) → i < length ws → i < length out → drop (i + 1) out ≡ scaled a (drop (i + 1) ws) → drop i (set out i (a * product (drop (i + 1) ws))) ≡ scaled a (drop i ws)
write_more a i ws out l m e =
    let here : scaled a (drop i ws) ≡ a * product (drop (i + 1) ws) ∷ scaled a (drop (i + 1) ws) = at_drop_more (scaled a) ws i 0 l in
    drop-set out i (a * product (drop (i + 1) ws)) m ∙ ap (λ r. a * product (drop (i + 1) ws) ∷ r) e ∙ sym here

-- the same from a counter that goes down
pub step_less : (a p : ℕ) (ws : List ℕ) → 0 < p → p ≤ length ws → (a * product (drop p ws)) * get_or ws (p - 1) 0 ≡ a * product (drop (p - 1) ws)
step_less a p ws h l =
    let e : p - 1 + 1 ≡ p = omega arith in
    subst (λ (n : ℕ). (a * product (drop n ws)) * get_or ws (p - 1) 0 ≡ a * product (drop (p - 1) ws)) e (step_more a (p - 1) ws (omega arith))

-- ---- the other order
product_push : (xs : List ℕ) (y : ℕ) → product (xs ++ y ∷ []) ≡ y * product xs
product_push [] y = refl
product_push (x ∷ xs) y = ap (λ n. x * n) (product_push xs y) ∙ mul_left_comm x y (product xs)

scaled_push : (a : ℕ) (xs : List ℕ) (y : ℕ) → scaled a (xs ++ y ∷ []) ≡ scaled (a * y) xs ++ a ∷ []
scaled_push a [] y = rw (mul-one a)
scaled_push a (x ∷ xs) y = rw (product_push xs y, ← mul_assoc a y (product xs), scaled_push a xs y)

reverse_push : (xs : List ℕ) (y : ℕ) → reverse (xs ++ y ∷ []) ≡ y ∷ reverse xs
reverse_push xs y = reverse-append xs (y ∷ [])

turned : (a : ℕ) (ws : List ℕ) → reverse (scaled a (reverse ws)) ≡ earliers a ws
turned a [] = refl
turned a (x ∷ xs) =
    ap (λ r. reverse (scaled a r)) (reverse-cons x xs)
    ∙ ap reverse (scaled_push a (reverse xs) x)
    ∙ reverse_push (scaled (a * x) (reverse xs)) a
    ∙ ap (λ r. a ∷ r) (turned (a * x) xs)

or_comm : (a b : Bool) → (a || b) ≡ (b || a)
or_comm true true = refl
or_comm true false = refl
or_comm false true = refl
or_comm false false = refl

or_assoc : (a b c : Bool) → ((a || b) || c) ≡ (a || (b || c))
or_assoc true b c = refl
or_assoc false b c = refl

zero-append : (xs ys : List ℕ) → some_zero (xs ++ ys) ≡ (some_zero xs || some_zero ys)
zero-append [] ys = refl
zero-append (n ∷ xs) ys = ap (λ b. eqb n 0 || b) (zero-append xs ys) ∙ sym (or_assoc (eqb n 0) (some_zero xs) (some_zero ys))

zero-reverse : (ws : List ℕ) → some_zero (reverse ws) ≡ some_zero ws
zero-reverse [] = refl
zero-reverse (x ∷ xs) =
    ap some_zero (reverse-cons x xs)
    ∙ zero-append (reverse xs) (x ∷ [])
    ∙ ap (λ b. b || some_zero (x ∷ [])) (zero-reverse xs)
    ∙ or_comm (some_zero xs) (some_zero (x ∷ []))
    ∙ sym (zero-append (x ∷ []) xs)

reverse-zeros : (n : ℕ) → reverse {A = ℕ} (replicate n 0) ≡ replicate n 0
reverse-zeros zero = refl
reverse-zeros (suc n) =
    reverse-cons 0 (replicate n 0)
    ∙ ap (λ r. r ++ 0 ∷ []) (reverse-zeros n)
    ∙ replicate_more n 0
    ∙ ap (λ k. replicate k 0) (add-one n)

pub other-order : (ws : List ℕ) → reverse (row_major (reverse ws)) ≡ column_major ws
other-order ws =
    ap (λ b. reverse (cond b (replicate (length (reverse ws)) 0) (laters (reverse ws)))) (zero-reverse ws)
    ∙ by (some_zero ws)
  where
    by : (b : Bool) → reverse (cond b (replicate (length (reverse ws)) 0) (laters (reverse ws))) ≡ cond b (replicate (length ws) 0) (earliers 1 ws)
    by true = reverse-zeros (length (reverse ws)) ∙ ap (λ k. replicate k 0) (length-reverse ws)
    by false = ap reverse (sym (scaled_one (reverse ws))) ∙ turned 1 ws
