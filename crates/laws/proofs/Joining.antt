-- Two axes joined to one: the cell of each entry, and how far the joined axis reaches.
use Rattle.std.proofs.Common.{◌≡◌, ℕ, zero, suc, ◌+◌, ◌-◌, ◌*◌, ◌/◌, ◌%◌, ◌<◌, ◌≤◌, ℤ, pos, negsuc, ◌+ℤ◌, ◌*ℤ◌, neg_ℤ, sym, refl, ap, ◌∙◌, subst, mul-le-mul_right, mod-eq_of_lt, mul_comm, mul-le-mul_left, one-mul, mul-zero, div-add-mod', mul-one, div-one, arith}
use native.Mathlib.Nat.{div-eq_of_lt, mod-one}
use lib.Arith.{mul_pred}
use lib.IntN.{zero-*ℤ}
use Rattle.std.proofs.lemmas.Int.{ints}
use Rattle.laws.specs.Space.{plus, minus}
use Rattle.laws.proofs.Tuples.{factor_left, factor_right}
use Rattle.laws.proofs.Integers.{rows}

-- why take, of length m and stride x, joins into, of length n and stride z, with the stride y
pub data Joins (m n : ℕ) (x z y : ℤ) : Type 0 where
  take_short : m ≤ 1 → y ≡ z → Joins m n x z y
  into_short : n ≤ 1 → y ≡ x → Joins m n x z y
  in_step : 1 < m → 1 < n → x ≡ pos n *ℤ z → y ≡ z → Joins m n x z y

sum_left : (a b : ℤ) → b ≡ pos 0 → a ≡ a +ℤ b
sum_left a b e = omega (arith, ints)

sum_right : (a b : ℤ) → a ≡ pos 0 → b ≡ a +ℤ b
sum_right a b e = omega (arith, ints)

-- the cell of entry i of the joined axis
pub joined_cell : (m n i : ℕ) (x z y : ℤ) → Joins m n x z y → i < n * m → pos i *ℤ y ≡ pos (i % n) *ℤ z +ℤ pos (i / n) *ℤ x
joined_cell m n i x z y (take_short h e) l =
    let one : m ≡ 1 = omega (arith, factor_right n m (omega arith)) in
    let lt : i < n = subst (λ k. i < k) (ap (λ k. n * k) one ∙ mul-one n) l in
    ap (λ (w : ℤ). pos i *ℤ w) e
    ∙ sum_left (pos i *ℤ z) (pos 0 *ℤ x) (zero-*ℤ x)
    ∙ sym (ap (λ k. pos k *ℤ z +ℤ pos (i / n) *ℤ x) (mod-eq_of_lt lt) ∙ ap (λ k. pos i *ℤ z +ℤ pos k *ℤ x) (div-eq_of_lt lt))
joined_cell m n i x z y (into_short h e) l =
    let one : n ≡ 1 = omega (arith, factor_left n m (omega arith)) in
    ap (λ (w : ℤ). pos i *ℤ w) e
    ∙ sum_right (pos 0 *ℤ z) (pos i *ℤ x) (zero-*ℤ z)
    ∙ sym (ap (λ k. pos (i % k) *ℤ z +ℤ pos (i / k) *ℤ x) one ∙ ap (λ k. pos k *ℤ z +ℤ pos (i / 1) *ℤ x) (mod-one i) ∙ ap (λ k. pos 0 *ℤ z +ℤ pos k *ℤ x) (div-one i))
joined_cell m n i x z y (in_step h k s e) l =
    ap (λ (w : ℤ). pos i *ℤ w) e
    ∙ ap (λ j. pos j *ℤ z) (sym (div-add-mod' i n))
    ∙ rows (i / n) n (i % n) z
    ∙ ap (λ (w : ℤ). pos (i % n) *ℤ z +ℤ pos (i / n) *ℤ w) (sym s)

-- its reach, by a measure of strides that takes n times a stride to n times its measure
pub joined_reach : (f : ℤ → ℕ) → ((n : ℕ) (z : ℤ) → f (pos n *ℤ z) ≡ n * f z) → (m n : ℕ) (x z y : ℤ) → Joins m n x z y
    → (n * m - 1) * f y ≤ (n - 1) * f z + (m - 1) * f x
joined_reach f times m n x z y (take_short h e) =
    let k : n * m ≤ n = subst (λ j. n * m ≤ j) (mul-one n) (mul-le-mul_left n h) in
    omega (arith, subst (λ (w : ℤ). (n * m - 1) * f w ≤ (n - 1) * f z) (sym e) (mul-le-mul_right {m = n * m - 1} {n = n - 1} (f z) (omega arith)))
joined_reach f times m n x z y (into_short h e) =
    let k : n * m ≤ m = subst (λ j. n * m ≤ j) (one-mul m) (mul-le-mul_right m h) in
    omega (arith, subst (λ (w : ℤ). (n * m - 1) * f w ≤ (m - 1) * f x) (sym e) (mul-le-mul_right {m = n * m - 1} {n = m - 1} (f x) (omega arith)))
joined_reach f times m n x z y (in_step h k s e) =
    let a : f x ≡ n * f z = ap f s ∙ times n z in
    let b : n * m - 1 ≡ (m - 1) * n + (n - 1) = ap (λ j. j - 1) (mul_comm n m) ∙ mul_pred {p = m} {c = n} (omega arith) (omega arith) in
    subst (λ (w : ℤ). (n * m - 1) * f w ≤ (n - 1) * f z + (m - 1) * f x) (sym e)
    (subst (λ j. (n * m - 1) * f z ≤ (n - 1) * f z + (m - 1) * j) (sym a)
    (subst (λ j. j * f z ≤ (n - 1) * f z + (m - 1) * (n * f z)) (sym b) (go (m - 1) (n - 1) n (f z))))
  where
    go : (a b n g : ℕ) → (a * n + b) * g ≤ b * g + a * (n * g)
    go a b n g = omega arith

-- the two measures of the reach
plus_neg : (k : ℕ) → plus (neg_ℤ (pos k)) ≡ 0
plus_neg zero = refl
plus_neg (suc k) = refl

minus_neg : (k : ℕ) → minus (neg_ℤ (pos k)) ≡ k
minus_neg zero = refl
minus_neg (suc k) = refl

pub plus_times : (n : ℕ) (z : ℤ) → plus (pos n *ℤ z) ≡ n * plus z
plus_times n (pos k) = refl
plus_times n (negsuc k) = plus_neg (n * suc k) ∙ sym (mul-zero n)

pub minus_times : (n : ℕ) (z : ℤ) → minus (pos n *ℤ z) ≡ n * minus z
minus_times n (pos k) = sym (mul-zero n)
minus_times n (negsuc k) = minus_neg (n * suc k)
