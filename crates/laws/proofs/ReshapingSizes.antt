-- Lengths above 0 and their products, and what stays of them where the lists are cut or reversed.
use Rattle.std.proofs.Common.{◌≡◌, ℕ, zero, suc, ◌-◌, ◌*◌, ◌<◌, ◌≤◌, List, [], ◌∷◌, ◌++◌, reverse, length, take, drop, ℤ, nat_abs, sym, refl, ap, ◌∙◌, ap₂, mul_assoc, mul_comm, one-mul, mul-one, arith}
use mathlib.Core.List.{reverse-cons}
use native.Mathlib.Nat.{eq_of_mul-eq-mul_left}
use Rattle.std.proofs.lemmas.List.{take-append-drop}
use Rattle.laws.specs.Lengths.{product}
use Rattle.laws.specs.Reshaping.{Positive, Near, Ready}
use Rattle.laws.proofs.Lengths.{part_below}
use Rattle.laws.proofs.Tuples.{mul-pos, factor_left, factor_right}

-- ---- products

pub product-append : (ks ls : List ℕ) → product (ks ++ ls) ≡ product ks * product ls
product-append [] ls = sym (one-mul (product ls))
product-append (k ∷ ks) ls = ap (λ (n : ℕ). k * n) (product-append ks ls) ∙ sym (mul_assoc k (product ks) (product ls))

pub product-cut : (i : ℕ) (ls : List ℕ) → product (take i ls) * product (drop i ls) ≡ product ls
product-cut i ls = sym (product-append (take i ls) (drop i ls)) ∙ ap product (take-append-drop i ls)

pub product-reverse : (ls : List ℕ) → product (reverse ls) ≡ product ls
product-reverse [] = refl
product-reverse (l ∷ ls) =
    ap product (reverse-cons l ls) ∙ product-append (reverse ls) (l ∷ []) ∙ ap₂ ◌*◌ (product-reverse ls) (mul-one l) ∙ mul_comm (product ls) l

pub positive-product : (ls : List ℕ) → Positive ls → 0 < product ls
positive-product [] p = omega arith
positive-product (l ∷ ls) p = mul-pos l (product ls) p.0 (positive-product ls p.1)

pub product-positive : (ls : List ℕ) → 0 < product ls → Positive ls
product-positive [] h = tt
product-positive (l ∷ ls) h = (factor_left l (product ls) h, product-positive ls (factor_right l (product ls) h))

-- ---- the lists cut

pub positive-drop : (i : ℕ) (ls : List ℕ) → Positive ls → Positive (drop i ls)
positive-drop zero ls p = p
positive-drop (suc i) [] p = tt
positive-drop (suc i) (l ∷ ls) p = positive-drop i ls p.1

pub positive-take : (i : ℕ) (ls : List ℕ) → Positive ls → Positive (take i ls)
positive-take zero ls p = tt
positive-take (suc i) [] p = tt
positive-take (suc i) (l ∷ ls) p = (p.0, positive-take i ls p.1)

pub near-drop : (i : ℕ) (ls : List ℕ) (zs : List ℤ) → Near ls zs → Near (drop i ls) (drop i zs)
near-drop zero ls zs p = p
near-drop (suc i) [] [] p = tt
near-drop (suc i) [] (z ∷ zs) p = absurd p
near-drop (suc i) (l ∷ ls) [] p = absurd p
near-drop (suc i) (l ∷ ls) (z ∷ zs) p = near-drop i ls zs p.1

pub near-length : (ls : List ℕ) (zs : List ℤ) → Near ls zs → length zs ≡ length ls
near-length [] [] p = refl
near-length [] (z ∷ zs) p = absurd p
near-length (l ∷ ls) [] p = absurd p
near-length (l ∷ ls) (z ∷ zs) p = ap suc (near-length ls zs p.1)

-- equal first parts of equal products leave equal rests
same_rest : (a b x y : ℕ) → 0 < a → a ≡ b → a * x ≡ b * y → x ≡ y
same_rest a b x y p e f = eq_of_mul-eq-mul_left a p x y (f ∙ ap (λ (n : ℕ). n * y) (sym e))

pub ready-cut : (ls : List ℕ) (zs : List ℤ) (ms : List ℕ) (a b : ℕ) → Ready ls zs ms → product (take a ls) ≡ product (take b ms)
    → Ready (drop a ls) (drop a zs) (drop b ms)
ready-cut ls zs ms a b r e =
    let first = positive-product (take a ls) (positive-take a ls r.olds) in
    let part = part_below (product (drop a ls)) (product (take a ls)) (product ls) first (mul_comm (product (drop a ls)) (product (take a ls)) ∙ product-cut a ls) in
    record {
      olds = positive-drop a ls r.olds;
      news = positive-drop b ms r.news;
      near = near-drop a ls zs r.near;
      same = same_rest (product (take a ls)) (product (take b ms)) (product (drop a ls)) (product (drop b ms)) first e (product-cut a ls ∙ r.same ∙ sym (product-cut b ms));
      small = omega (arith, part, r.small);
    }

-- ---- the lists reversed

positive_push : (ls : List ℕ) (l : ℕ) → Positive ls → 0 < l → Positive (ls ++ l ∷ [])
positive_push [] l p h = (h, tt)
positive_push (k ∷ ks) l p h = (p.0, positive_push ks l p.1 h)

positive-reverse : (ls : List ℕ) → Positive ls → Positive (reverse ls)
positive-reverse [] p = tt
positive-reverse (l ∷ ls) p = rw (reverse-cons l ls) (positive_push (reverse ls) l (positive-reverse ls p.1) p.0)

near_push : (ls : List ℕ) (zs : List ℤ) (l : ℕ) (z : ℤ) → Near ls zs → (l - 1) * nat_abs z ≤ 1048576 → Near (ls ++ l ∷ []) (zs ++ z ∷ [])
near_push [] [] l z p h = (h, tt)
near_push [] (y ∷ ys) l z p h = absurd p
near_push (k ∷ ks) [] l z p h = absurd p
near_push (k ∷ ks) (y ∷ ys) l z p h = (p.0, near_push ks ys l z p.1 h)

near-reverse : (ls : List ℕ) (zs : List ℤ) → Near ls zs → Near (reverse ls) (reverse zs)
near-reverse [] [] p = tt
near-reverse [] (z ∷ zs) p = absurd p
near-reverse (l ∷ ls) [] p = absurd p
near-reverse (l ∷ ls) (z ∷ zs) p = rw (reverse-cons l ls, reverse-cons z zs) (near_push (reverse ls) (reverse zs) l z (near-reverse ls zs p.1) p.0)

pub ready-reverse : (ls : List ℕ) (zs : List ℤ) (ms : List ℕ) → Ready ls zs ms → Ready (reverse ls) (reverse zs) (reverse ms)
ready-reverse ls zs ms r = record {
  olds = positive-reverse ls r.olds;
  news = positive-reverse ms r.news;
  near = near-reverse ls zs r.near;
  same = product-reverse ls ∙ r.same ∙ sym (product-reverse ms);
  small = omega (arith, product-reverse ls, r.small);
}
