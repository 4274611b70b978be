-- Lists of elements read by place: from a place on, and one among equal ones.
use Rattle.std.proofs.Common.{◌≡◌, ℕ, zero, suc, ◌+◌, ◌/◌, ◌%◌, ◌<◌, min, List, ◌∷◌, length, get_or, drop, set, replicate, ℤ, Some, None, Option, sym, refl, ap, ◌∙◌, inl, inr, mod-lt, div-add-mod', arith}
use native.Mathlib.Nat.{div-eq_of_lt-le}
use Rattle.std.specs.List.{slice_get}
use Rattle.std.proofs.lemmas.List.{drop_more}
use Rattle.std.proofs.lemmas.Option.{slice_get-get_or}
use Rattle.std.proofs.lemmas.Bool.{cases_eq}
use Rattle.laws.specs.Elements.{Slice, in_count, out_count, rounded_up}

-- what is left of a list from the element at a place on
pub drop_at : {X : Type 0} (xs : List X) (k : ℕ) (x : X) → k < length xs → Some x ≡ slice_get xs k → drop k xs ≡ x ∷ drop (k + 1) xs
drop_at xs k x h e =
    let told = slice_get-get_or xs k x h in
    let is : get_or xs k x ≡ x = cc in
    drop_more xs k x h ∙ ap (λ y. y ∷ drop (k + 1) xs) is

-- a place within a list has an element
pub never_past : {X : Type 0} (xs : List X) (k : ℕ) (d : X) → k < length xs → None ≡ slice_get xs k → ⊥
never_past xs k d h e = let told = slice_get-get_or xs k d h in let z : ◌≡◌ {A = ℕ} 0 1 = cc in omega arith

-- a range among n ranges: each takes an axis and leaves one
module _ (a : ℤ) (b : Option ℤ) (c : ℤ) where
  takes_all : (n : ℕ) → in_count (replicate n (Slice a b c)) ≡ n
  takes_all zero = refl
  takes_all (suc n) = ap suc (takes_all n)

  leaves_all : (n : ℕ) → out_count (replicate n (Slice a b c)) ≡ n
  leaves_all zero = refl
  leaves_all (suc n) = ap suc (leaves_all n)

pub takes_among : (n axis : ℕ) (a : ℤ) (b : Option ℤ) (c s : ℤ) (e : Option ℤ) (p : ℤ) → in_count (set (replicate n (Slice a b c)) axis (Slice s e p)) ≡ n
takes_among zero axis a b c s e p = refl
takes_among (suc n) zero a b c s e p = ap suc (takes_all a b c n)
takes_among (suc n) (suc axis) a b c s e p = ap suc (takes_among n axis a b c s e p)

pub leaves_among : (n axis : ℕ) (a : ℤ) (b : Option ℤ) (c s : ℤ) (e : Option ℤ) (p : ℤ) → out_count (set (replicate n (Slice a b c)) axis (Slice s e p)) ≡ n
leaves_among zero axis a b c s e p = refl
leaves_among (suc n) zero a b c s e p = ap suc (leaves_all a b c n)
leaves_among (suc n) (suc axis) a b c s e p = ap suc (leaves_among n axis a b c s e p)

-- rounding up by a quotient and a rest
pub rounds_up : (m q : ℕ) → 0 < q → m / q + min 1 (m % q) ≡ rounded_up m q
rounds_up m q h =
    let whole = div-add-mod' m q in
    let rest = mod-lt m h in
    elim (cases_eq (m % q) 0) [
      | inl none ↦
          ap (λ r. m / q + min 1 r) none ∙ sym (div-eq_of_lt-le {k = m / q + 0} q (omega arith) (omega arith))
      | inr some ↦
          let one : min 1 (m % q) ≡ 1 = omega (arith, some) in
          ap (λ r. m / q + r) one ∙ sym (div-eq_of_lt-le {k = m / q + 1} q (omega (arith, some)) (omega (arith, some)))
    ]
