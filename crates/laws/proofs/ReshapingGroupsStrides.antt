-- The strides of a group of axes that lie in step, and the quotients of its whole stride.
use Rattle.std.proofs.Common.{◌≡◌, ℕ, zero, suc, ◌*◌, ◌/◌, ◌<◌, ◌⊎◌, List, [], ◌∷◌, ◌++◌, ℤ, pos, negsuc, ◌*ℤ◌, neg_ℤ, sym, refl, ap, ◌∙◌, ap₂, inl, inr, mul-one}
use native.Mathlib.Nat.{zero-div, mul-div_cancel_left}
use lib.Signed.{quot_z}
use Rattle.laws.specs.Lengths.{product}
use Rattle.laws.specs.Reshaping.{whole, chain, Positive}
use Rattle.laws.specs.ReshapingSteps.{quotients}
use Rattle.laws.proofs.Integers.{times_assoc, once}
use Rattle.laws.proofs.ReshapingGroupsProducts.{product-append}

-- a group of axes as one axis of stride e, where an axis of length 1 may have any stride
abbrev pub Linear : ℤ → List ℕ → List ℤ → Type 0
Linear e [] [] = Unit {0}
Linear e [] (s ∷ ss) = ⊥
Linear e (l ∷ ls) [] = ⊥
Linear e (l ∷ ls) (s ∷ ss) = ((l ≡ 1) ⊎ (s ≡ pos (product ls) *ℤ e)) × Linear e ls ss

-- ---- one axis more

pub linear_snoc : (e e' : ℤ) (d : ℕ) (ls : List ℕ) (ss : List ℤ) → e ≡ pos d *ℤ e' → Linear e ls ss → Linear e' (ls ++ (d ∷ [])) (ss ++ (e' ∷ []))
linear_snoc e e' d [] [] h c = (inr (sym (once e')), tt)
linear_snoc e e' d [] (s ∷ ss) h c = absurd c
linear_snoc e e' d (l ∷ ls) [] h c = absurd c
linear_snoc e e' d (l ∷ ls) (s ∷ ss) h c = (axis c.0, linear_snoc e e' d ls ss h c.1)
  where
    axis : (l ≡ 1) ⊎ (s ≡ pos (product ls) *ℤ e) → (l ≡ 1) ⊎ (s ≡ pos (product (ls ++ (d ∷ []))) *ℤ e')
    axis (inl o) = inl o
    axis (inr f) = inr (f ∙ rw (product-append ls (d ∷ []), mul-one d, h) (sym (times_assoc (pos (product ls)) (pos d) e')))

-- an axis of length 1, of any stride
pub linear_one : (e s' : ℤ) (ls : List ℕ) (ss : List ℤ) → Linear e ls ss → Linear e (ls ++ (1 ∷ [])) (ss ++ (s' ∷ []))
linear_one e s' [] [] c = (inl refl, tt)
linear_one e s' [] (s ∷ ss) c = absurd c
linear_one e s' (l ∷ ls) [] c = absurd c
linear_one e s' (l ∷ ls) (s ∷ ss) c = (axis c.0, linear_one e s' ls ss c.1)
  where
    axis : (l ≡ 1) ⊎ (s ≡ pos (product ls) *ℤ e) → (l ≡ 1) ⊎ (s ≡ pos (product (ls ++ (1 ∷ []))) *ℤ e)
    axis (inl o) = inl o
    axis (inr f) = inr (rw (product-append ls (1 ∷ []), mul-one (product ls)) f)

-- ---- the whole stride, divided by one length after another

quot_neg : (x m : ℕ) → quot_z (neg_ℤ (pos x)) (pos m) ≡ neg_ℤ (pos (x / m))
quot_neg zero m = rw (zero-div m)
quot_neg (suc x) m = refl

quot_times : (m : ℕ) (k : ℤ) → 0 < m → quot_z (pos m *ℤ k) (pos m) ≡ k
quot_times m (pos n) h = ap pos (mul-div_cancel_left n h)
quot_times m (negsuc n) h = quot_neg (m * suc n) m ∙ ap (λ (x : ℕ). neg_ℤ (pos x)) (mul-div_cancel_left (suc n) h)

whole-chain : (e : ℤ) (ms : List ℕ) → whole e ms (chain e ms) ≡ pos (product ms) *ℤ e
whole-chain e [] = sym (once e)
whole-chain e (m ∷ ms) = ap (λ (x : ℤ). pos m *ℤ x) (whole-chain e ms) ∙ sym (times_assoc (pos m) (pos (product ms)) e)

pub quotients-chain : (e w : ℤ) (ms : List ℕ) → Positive ms → w ≡ pos (product ms) *ℤ e → quotients w ms ≡ chain e ms
quotients-chain e w [] p h = refl
quotients-chain e w (m ∷ ms) p h =
    let q : quot_z w (pos m) ≡ pos (product ms) *ℤ e =
    ap (λ (x : ℤ). quot_z x (pos m)) (h ∙ times_assoc (pos m) (pos (product ms)) e) ∙ quot_times m (pos (product ms) *ℤ e) p.0 in
    ap₂ ◌∷◌ (q ∙ sym (whole-chain e ms)) (quotients-chain e (quot_z w (pos m)) ms p.1 q)
