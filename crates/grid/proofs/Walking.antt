-- A list gone through from its front, as a loop over two lists side by side does it.
use Rattle.std.proofs.Common.{◌≡◌, ℕ, zero, suc, ◌+◌, ◌<◌, Bool, true, false, ◌&&◌, ltb, refl, List, [], ◌∷◌, length, get_or, drop, sym, ap, ◌∙◌, arith}
use Rattle.std.specs.List.{list_all, zip}
use Rattle.laws.specs.Tuples.{is_within}

-- what is left after i elements begins with element i
pub drop_first : {A : Type 0} (xs rest tail : List A) (i : ℕ) (x d : A) → rest ≡ drop i xs → rest ≡ x ∷ tail → (tail ≡ drop (i + 1) xs) × (x ≡ get_or xs i d) × (i < length xs)
drop_first [] rest tail zero x d left split = let z : ◌≡◌ {A = ℕ} 0 1 = cc in absurd (omega arith)
drop_first [] rest tail (suc i) x d left split = let z : ◌≡◌ {A = ℕ} 0 1 = cc in absurd (omega arith)
drop_first (y ∷ ys) rest tail zero x d left split = (cc, cc, omega arith)
drop_first (y ∷ ys) rest tail (suc i) x d left split =
    let on = drop_first ys rest tail i x d left split in
    let next : suc i + 1 ≡ suc (i + 1) = omega arith in
    (on.0 ∙ ap (λ n. drop n (y ∷ ys)) (sym next), on.1, omega (arith, on.2))

-- the test of a tuple, index beside length
pub within_beside : (ix ls : List ℕ) → length ix ≡ length ls → list_all (λ (p : ℕ × ℕ). ltb p.0 p.1) (zip ix ls) ≡ is_within ix ls
within_beside [] [] h = refl
within_beside [] (n ∷ ls) h = absurd (omega arith)
within_beside (i ∷ ix) [] h = absurd (omega arith)
within_beside (i ∷ ix) (n ∷ ls) h = ap (λ b. ltb i n && b) (within_beside ix ls (omega arith))

pub other_rank : (ix ls : List ℕ) → (length ix ≡ length ls → ⊥) → false ≡ is_within ix ls
other_rank [] [] h = absurd (h refl)
other_rank [] (n ∷ ls) h = refl
other_rank (i ∷ ix) [] h = refl
other_rank (i ∷ ix) (n ∷ ls) h = sym (ap (λ b. ltb i n && b) (sym (other_rank ix ls (λ e. h (ap suc e)))) ∙ none (ltb i n))
  where
    none : (b : Bool) → (b && false) ≡ false
    none true = refl
    none false = refl
