-- Strides as words of 64 bits, and the word so many strides on from another.
use Rattle.std.proofs.Common.{◌≡◌, ℕ, suc, ◌+◌, ◌-◌, ◌*◌, ◌%◌, ◌^◌, ◌<◌, ◌≤◌, true, false, T, ltb, List, length, get_or, ℤ, pos, negsuc, ◌+ℤ◌, ◌*ℤ◌, sym, refl, ap, ◌∙◌, subst, inl, inr, mod-eq_of_lt, mul-add, arith, w64, to_z}
use native.Mathlib.Nat.{add-mul-mod_self_right}
use Rattle.std.proofs.lemmas.List.{length-map, get_or-map}
use Rattle.std.proofs.lemmas.Int.{to_z_pos, ints}
use Rattle.std.proofs.lemmas.Bool.{ltb-true, lt-ltb, le-ltb, cases_Bool}
use Rattle.std.proofs.lemmas.Bool.Decides.{nat_tests}
use Rattle.laws.specs.Strides.{signed, onward}
use Rattle.laws.specs.Space.{inside}
use Rattle.laws.specs.Opening.{is_negative}

-- ---- a row of strides

pub length-signed : (ws : List ℕ) → length (signed ws) ≡ length ws
length-signed ws = length-map ws (λ w. to_z w64 w)

pub signed_at : (ws : List ℕ) (i : ℕ) → i < length ws → get_or (signed ws) i (pos 0) ≡ to_z w64 (get_or ws i 0)
signed_at ws i l = get_or-map (λ w. to_z w64 w) ws i 0 (pos 0) l

-- a stride as code reads it from its row
pub stride_read : (ws : List ℕ) (axis stride : ℕ) → axis < length ws → stride ≡ get_or ws axis 0 → to_z w64 stride ≡ get_or (signed ws) axis (pos 0)
stride_read ws axis stride h e = ap (to_z w64) e ∙ sym (signed_at ws axis h)

-- which words read as negative
pub negative_word : (w : ℕ) → 2 ^ 63 ≤ w → is_negative (to_z w64 w) ≡ true
negative_word w h = rw (le-ltb w (2 ^ 63) h)

pub positive_word : (w : ℕ) → w < 2 ^ 63 → is_negative (to_z w64 w) ≡ false
positive_word w h = rw (lt-ltb w (2 ^ 63) h)

-- ---- at least 0 and below n

pub inside-pos : (n : ℕ) (z : ℤ) → T (inside n z) → (k : ℕ) × (k < n) × (z ≡ pos k)
inside-pos n (pos k) h = (k, search (arith, nat_tests), refl)
inside-pos n (negsuc k) h = absurd h

pub pos-inside : (n k : ℕ) → k < n → T (inside n (pos k))
pos-inside n k h = search (arith, nat_tests)

-- ---- so many strides on, where that is a word

module _ (s i w : ℕ) (fits : w < 2 ^ 64) (h : T (inside (2 ^ 64) (pos s +ℤ pos i *ℤ to_z w64 w))) where
  wraps_up : ltb w (2 ^ 63) ≡ true → pos (onward s i w) ≡ pos s +ℤ pos i *ℤ to_z w64 w
  wraps_up small =
      let read : to_z w64 w ≡ pos w = to_z_pos w64 w (ltb-true w (2 ^ 63) small) in
      let lt : s + i * w < 2 ^ 64 = search (arith, nat_tests, subst (λ (z : ℤ). T (inside (2 ^ 64) (pos s +ℤ pos i *ℤ z))) read h) in
      ap pos (mod-eq_of_lt lt) ∙ sym (ap (λ (z : ℤ). pos s +ℤ pos i *ℤ z) read)

  wraps_down : ltb w (2 ^ 63) ≡ false → pos (onward s i w) ≡ pos s +ℤ pos i *ℤ to_z w64 w
  wraps_down large =
      let m = 2 ^ 64 - suc w in
      let read : to_z w64 w ≡ negsuc m = rw large in
      let k = inside-pos (2 ^ 64) _ h in
      let e : pos s +ℤ pos i *ℤ negsuc m ≡ pos k.0 = sym (ap (λ (z : ℤ). pos s +ℤ pos i *ℤ z) read) ∙ k.2 in
      let is : s ≡ k.0 + i * suc m = omega (arith, ints, e) in
      let whole : suc m + w ≡ 2 ^ 64 = omega arith in
      let sum : i * suc m + i * w ≡ i * 2 ^ 64 = sym (mul-add i (suc m) w) ∙ ap (λ n. i * n) whole in
      let all : s + i * w ≡ k.0 + i * 2 ^ 64 = omega (arith, sum, is) in
      ap pos (ap (λ n. n % 2 ^ 64) all ∙ add-mul-mod_self_right k.0 i (2 ^ 64) ∙ mod-eq_of_lt k.1) ∙ sym k.2

  pub wraps : pos (onward s i w) ≡ pos s +ℤ pos i *ℤ to_z w64 w
  wraps = elim (cases_Bool (ltb w (2 ^ 63))) [ inl e ↦ wraps_up e | inr e ↦ wraps_down e ]
