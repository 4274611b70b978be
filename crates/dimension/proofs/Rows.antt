-- A test of each stride of a row, made on its words, and the reach of two rows.
use Rattle.std.proofs.Common.{◌≡◌, ℕ, ◌-◌, ◌^◌, length, Bool, true, false, not, ◌||◌, ◌&&◌, ltb, leb, List, [], ◌∷◌, ℤ, nat_abs, sym, refl, ap, ◌∙◌, inl, inr, arith, w64, to_z}
use Rattle.std.specs.List.{list_any, list_all}
use Rattle.std.proofs.lemmas.Bool.{cases_lt, lt-ltb, le-ltb}
use Rattle.std.proofs.lemmas.Bool.Decides.{nat_tests}
use Rattle.laws.specs.Lengths.{some_of}
use Rattle.laws.specs.Strides.{signed}
use Rattle.laws.specs.Opening.{is_negative, some_negative, some_above, span}
use Rattle.laws.proofs.Words.{negative_word, positive_word}

some_word : (f : ℤ → Bool) (g : ℕ → Bool) → ((w : ℕ) → f (to_z w64 w) ≡ g w) → (ws : List ℕ) → some_of f (signed ws) ≡ list_any g ws
some_word f g same [] = refl
some_word f g same (w ∷ ws) = ap (λ b. b || some_of f (signed ws)) (same w) ∙ ap (λ b. g w || b) (some_word f g same ws)

no_word : (f : ℤ → Bool) (g : ℕ → Bool) → ((w : ℕ) → not (f (to_z w64 w)) ≡ g w) → (ws : List ℕ) → not (some_of f (signed ws)) ≡ list_all g ws
no_word f g same [] = refl
no_word f g same (w ∷ ws) = not_or (f (to_z w64 w)) (some_of f (signed ws)) ∙ ap (λ b. b && not (some_of f (signed ws))) (same w) ∙ ap (λ b. g w && b) (no_word f g same ws)
  where
    not_or : (a b : Bool) → not (a || b) ≡ (not a && not b)
    not_or true b = refl
    not_or false b = refl

negative : (w : ℕ) → is_negative (to_z w64 w) ≡ ltb (2 ^ 63 - 1) w
negative w = elim (cases_lt (2 ^ 63 - 1) w) [
  | inl over ↦ negative_word w (omega arith) ∙ sym (lt-ltb _ _ over)
  | inr under ↦ positive_word w (omega arith) ∙ sym (le-ltb _ _ under)
]

-- a stride is negative where its word is above 2^63 − 1
pub some_negative_word : (ws : List ℕ) → some_negative (signed ws) ≡ list_any (ltb (2 ^ 63 - 1)) ws
some_negative_word ws = some_word is_negative (ltb (2 ^ 63 - 1)) negative ws

not_ltb : (m n : ℕ) → not (ltb m n) ≡ leb n m
not_ltb m n = grind (arith, nat_tests)

-- no magnitude is above m
none_above : (m : ℕ) (ws : List ℕ) → not (some_above m (signed ws)) ≡ list_all (λ w. leb (nat_abs (to_z w64 w)) m) ws
none_above m ws = no_word (λ z. ltb m (nat_abs z)) (λ w. leb (nat_abs (to_z w64 w)) m) (λ w. not_ltb m (nat_abs (to_z w64 w))) ws

-- what a test of a row's words within m answers, m being the limit
pub within_limit : {m limit : ℕ} {b : Bool} {rs ws : List ℕ} → b ≡ list_all (λ w. leb (nat_abs (to_z w64 w)) m) rs → rs ≡ ws → m ≡ limit → b ≡ not (some_above limit (signed ws))
within_limit {m} {limit} {b} {rs} {ws} told row same =
    told
    ∙ ap (list_all (λ w. leb (nat_abs (to_z w64 w)) m)) row
    ∙ ap (λ n. list_all (λ w. leb (nat_abs (to_z w64 w)) n) ws) same
    ∙ sym (none_above limit ws)

-- ---- the reach, axis by axis

pub no_axes : (ls ws : List ℕ) → length ls ≡ 0 → span ls (signed ws) ≡ 0
no_axes [] ws e = refl
no_axes (n ∷ ls) ws e = absurd (omega arith)
