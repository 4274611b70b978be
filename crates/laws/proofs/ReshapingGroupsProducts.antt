-- Lengths that are not 0, their products, and what is left of them past some axes.
use Rattle.std.proofs.Common.{◌≡◌, ℕ, zero, suc, ◌+◌, ◌-◌, ◌*◌, ◌<◌, ◌≤◌, List, [], ◌∷◌, ◌++◌, length, get_or, take, drop, ℤ, pos, nat_abs, sym, refl, ap, ◌∙◌, subst, mul-le-mul_right, mul_assoc, mul_comm, one-mul, le-mul_of_pos_right, arith}
use native.Mathlib.Nat.{one-le-mul, eq_of_mul-eq-mul_left}
use Rattle.std.proofs.lemmas.List.{at_drop_more, at_drop_all, take-append-drop}
use Rattle.laws.specs.Lengths.{product}
use Rattle.laws.specs.Reshaping.{Positive, Near, Ready}
use Rattle.laws.proofs.Lengths.{part_below}

pub product-append : (ks ls : List ℕ) → product (ks ++ ls) ≡ product ks * product ls
product-append [] ls = sym (one-mul (product ls))
product-append (k ∷ ks) ls = ap (λ (n : ℕ). k * n) (product-append ks ls) ∙ sym (mul_assoc k (product ks) (product ls))

pub product-pos : (ls : List ℕ) → Positive ls → 0 < product ls
product-pos [] p = omega arith
product-pos (l ∷ ls) p = one-le-mul p.0 (product-pos ls p.1)

pub positive-drop : (i : ℕ) (ls : List ℕ) → Positive ls → Positive (drop i ls)
positive-drop zero ls p = p
positive-drop (suc i) [] p = tt
positive-drop (suc i) (l ∷ ls) p = positive-drop i ls p.1

pub positive-take : (i : ℕ) (ls : List ℕ) → Positive ls → Positive (take i ls)
positive-take zero ls p = tt
positive-take (suc i) [] p = tt
positive-take (suc i) (l ∷ ls) p = (p.0, positive-take i ls p.1)

pub near-drop : (i : ℕ) (ls : List ℕ) (ss : List ℤ) → Near ls ss → Near (drop i ls) (drop i ss)
near-drop zero ls ss p = p
near-drop (suc i) [] [] p = tt
near-drop (suc i) [] (s ∷ ss) p = absurd p
near-drop (suc i) (l ∷ ls) [] p = absurd p
near-drop (suc i) (l ∷ ls) (s ∷ ss) p = near-drop i ls ss p.1

pub near-length : (ls : List ℕ) (ss : List ℤ) → Near ls ss → length ss ≡ length ls
near-length [] [] p = refl
near-length [] (s ∷ ss) p = absurd p
near-length (l ∷ ls) [] p = absurd p
near-length (l ∷ ls) (s ∷ ss) p = ap suc (near-length ls ss p.1)

pub positive_at : (ls : List ℕ) (i : ℕ) → Positive ls → i < length ls → 0 < get_or ls i 0
positive_at [] i p h = absurd (omega arith)
positive_at (l ∷ ls) zero p h = p.0
positive_at (l ∷ ls) (suc i) p h = positive_at ls i p.1 (omega arith)

pub near_at : (ls : List ℕ) (ss : List ℤ) (i : ℕ) → Near ls ss → i < length ls → (get_or ls i 0 - 1) * nat_abs (get_or ss i (pos 0)) ≤ 1048576
near_at [] ss i p h = absurd (omega arith)
near_at (l ∷ ls) [] i p h = absurd p
near_at (l ∷ ls) (s ∷ ss) zero p h = p.0
near_at (l ∷ ls) (s ∷ ss) (suc i) p h = near_at ls ss i p.1 (omega arith)

pub product_more : (ls : List ℕ) (i : ℕ) → i < length ls → product (drop i ls) ≡ get_or ls i 0 * product (drop (i + 1) ls)
product_more ls i h = at_drop_more product ls i 0 h

pub product-all : (ls : List ℕ) (i : ℕ) → length ls ≤ i → product (drop i ls) ≡ 1
product-all ls i h = at_drop_all product ls i h

pub part_above : (a r t : ℕ) → 0 < a → a * r ≡ t → r ≤ t
part_above a r t p e = part_below r a t p (mul_comm r a ∙ e)

-- a length is at most the product
pub length_below : (ls : List ℕ) (i : ℕ) → Positive ls → i < length ls → get_or ls i 0 ≤ product ls
length_below [] i p h = absurd (omega arith)
length_below (l ∷ ls) zero p h = le-mul_of_pos_right l (product-pos ls p.1)
length_below (l ∷ ls) (suc i) p h = let k = length_below ls i p.1 (omega arith) in let m = part_above l (product ls) (l * product ls) p.0 refl in omega arith

pub product-cut : (i : ℕ) (ls : List ℕ) → product (take i ls) * product (drop i ls) ≡ product ls
product-cut i ls = sym (product-append (take i ls) (drop i ls)) ∙ ap product (take-append-drop i ls)

-- twice the reach of an axis longer than 1 bounds length × magnitude
pub near_twice : (l k : ℕ) → 0 < l → (l ≡ 1 → ⊥) → (l - 1) * k ≤ 1048576 → l * k ≤ 2097152
near_twice zero k p n h = absurd (omega arith)
near_twice (suc zero) k p n h = absurd (n refl)
near_twice (suc (suc l)) k p n h =
    let e : suc (suc l) - 1 ≡ suc l = omega arith in
    let h' : suc l * k ≤ 1048576 = subst (λ (n : ℕ). n * k ≤ 1048576) e h in
    let m : suc (suc l) * k ≤ (2 * suc l) * k = mul-le-mul_right k (omega arith) in
    omega (arith, mul_assoc 2 (suc l) k)

-- cancelling equal parts of equal products
pub same_left : (a b x y : ℕ) → 0 < a → a ≡ b → a * x ≡ b * y → x ≡ y
same_left a b x y p e f = eq_of_mul-eq-mul_left a p x y (f ∙ ap (λ (n : ℕ). n * y) (sym e))

pub ready-cut : (ls : List ℕ) (ss : List ℤ) (ms : List ℕ) (a b : ℕ) → Ready ls ss ms → product (take a ls) ≡ product (take b ms) → Ready (drop a ls) (drop a ss) (drop b ms)
ready-cut ls ss ms a b r e = record {
  olds = positive-drop a ls r.olds;
  news = positive-drop b ms r.news;
  near = near-drop a ls ss r.near;
  same = same_left (product (take a ls)) (product (take b ms)) (product (drop a ls)) (product (drop b ms)) (product-pos (take a ls) (positive-take a ls r.olds)) e (product-cut a ls ∙ r.same ∙ sym (product-cut b ms));
  small = let k = part_above (product (take a ls)) (product (drop a ls)) (product ls) (product-pos (take a ls) (positive-take a ls r.olds)) (product-cut a ls) in let h = r.small in omega arith;
}
