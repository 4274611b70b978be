-- What the lists reversed keep.
use Rattle.std.proofs.Common.{◌≡◌, ℕ, ◌-◌, ◌*◌, ◌<◌, ◌≤◌, List, [], ◌∷◌, ◌++◌, reverse, ℤ, nat_abs, sym, refl, ap, ◌∙◌, ap₂, mul_comm, mul-one, arith, w64, to_z}
use mathlib.Core.List.{reverse-cons}
use Rattle.std.proofs.lemmas.List.{map-append}
use Rattle.laws.specs.Lengths.{product}
use Rattle.laws.specs.Strides.{signed}
use Rattle.laws.specs.Reshaping.{Positive, Near, Ready}
use Rattle.laws.proofs.ReshapingGroupsProducts.{product-append}

pub product-reverse : (ls : List ℕ) → product (reverse ls) ≡ product ls
product-reverse [] = refl
product-reverse (l ∷ ls) = ap product (reverse-cons l ls) ∙ product-append (reverse ls) (l ∷ []) ∙ ap₂ ◌*◌ (product-reverse ls) (mul-one l) ∙ mul_comm (product ls) l

positive_snoc : (ls : List ℕ) (l : ℕ) → Positive ls → 0 < l → Positive (ls ++ (l ∷ []))
positive_snoc [] l p h = (h, tt)
positive_snoc (k ∷ ks) l p h = (p.0, positive_snoc ks l p.1 h)

pub positive-reverse : (ls : List ℕ) → Positive ls → Positive (reverse ls)
positive-reverse [] p = tt
positive-reverse (l ∷ ls) p = rw (reverse-cons l ls) (positive_snoc (reverse ls) l (positive-reverse ls p.1) p.0)

near_snoc : (ls : List ℕ) (ss : List ℤ) (l : ℕ) (s : ℤ) → Near ls ss → (l - 1) * nat_abs s ≤ 1048576 → Near (ls ++ (l ∷ [])) (ss ++ (s ∷ []))
near_snoc [] [] l s p h = (h, tt)
near_snoc [] (t ∷ ts) l s p h = absurd p
near_snoc (k ∷ ks) [] l s p h = absurd p
near_snoc (k ∷ ks) (t ∷ ts) l s p h = (p.0, near_snoc ks ts l s p.1 h)

pub near-reverse : (ls : List ℕ) (ss : List ℤ) → Near ls ss → Near (reverse ls) (reverse ss)
near-reverse [] [] p = tt
near-reverse [] (s ∷ ss) p = absurd p
near-reverse (l ∷ ls) [] p = absurd p
near-reverse (l ∷ ls) (s ∷ ss) p = rw (reverse-cons l ls, reverse-cons s ss) (near_snoc (reverse ls) (reverse ss) l s (near-reverse ls ss p.1) p.0)

pub ready-reverse : (ls : List ℕ) (ss : List ℤ) (ms : List ℕ) → Ready ls ss ms → Ready (reverse ls) (reverse ss) (reverse ms)
ready-reverse ls ss ms r = record {
  olds = positive-reverse ls r.olds;
  news = positive-reverse ms r.news;
  near = near-reverse ls ss r.near;
  same = product-reverse ls ∙ r.same ∙ sym (product-reverse ms);
  small = let e = product-reverse ls in let h = r.small in omega arith;
}

pub signed-reverse : (ws : List ℕ) → signed (reverse ws) ≡ reverse (signed ws)
signed-reverse [] = refl
signed-reverse (w ∷ ws) =
    ap signed (reverse-cons w ws) ∙ map-append (λ w. to_z w64 w) (reverse ws) (w ∷ []) ∙ ap (λ x. x ++ to_z w64 w ∷ []) (signed-reverse ws) ∙ sym (reverse-cons (to_z w64 w) (signed ws))
