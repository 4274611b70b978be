-- The indices that a range takes, upwards from the least: two ranges meet on an axis exactly where two progressions have a common number.
use Rattle.std.proofs.Common.{◌≡◌, ℕ, suc, ◌+◌, ◌-◌, ◌*◌, ◌<◌, true, false, ◌&&◌, eqb, ℤ, pos, negsuc, nat_abs, Decides, Option, sym, refl, ap, ◌∙◌, mul_comm, add-mul, arith}
use Rattle.std.proofs.lemmas.Bool.{and_parts, and_from, eqb-true, eq-eqb}
use Rattle.laws.specs.Elements.{Slice, resolved, upper, outside, bad_step, entries, entry}
use Rattle.laws.specs.Meeting.{picks, axis_meets, lowest, Common}
use Rattle.laws.proofs.Zeros.{below_some, below_at}
use Rattle.laws.proofs.Resolving.{step_some, entries-within, range_axis}

turned : (b q n j : ℕ) → j < n → (n - 1) * q < b → b - 1 - (n - 1) * q + q * (n - 1 - j) ≡ b - 1 - j * q
turned b q n j h k =
    let e : (n - 1 - j + j) * q ≡ (n - 1 - j) * q + j * q = add-mul (n - 1 - j) j q in
    let f : n - 1 - j + j ≡ n - 1 = omega arith in
    let g : (n - 1) * q ≡ (n - 1 - j) * q + j * q = ap (λ m. m * q) (sym f) ∙ e in
    go ((n - 1) * q) ((n - 1 - j) * q) (j * q) (q * (n - 1 - j)) g (mul_comm q (n - 1 - j)) k
  where
    go : (all rest past part : ℕ) → all ≡ rest + past → part ≡ rest → all < b → b - 1 - all + part ≡ b - 1 - past
    go all rest past part p r s = omega arith

-- entry j counted from the least, and back: the same for a step up, reversed for a step down
abbrev turn : ℤ → ℕ → ℕ → ℕ
turn (pos q) n j = j
turn (negsuc q) n j = n - 1 - j

turn_below : (p : ℤ) (n j : ℕ) → j < n → turn p n j < n
turn_below (pos q) n j h = h
turn_below (negsuc q) n j h = omega arith

turn_turn : (p : ℤ) (n j : ℕ) → j < n → turn p n (turn p n j) ≡ j
turn_turn (pos q) n j h = refl
turn_turn (negsuc q) n j h = omega arith

from_least : (a b : ℕ) (p : ℤ) (j : ℕ) → 0 < nat_abs p → j < entries a b p → lowest a b p + nat_abs p * turn p (entries a b p) j ≡ entry a b p j
from_least a b (pos q) j s h = ap (λ m. a + m) (mul_comm q j)
from_least a b (negsuc q) j s h =
    let n = entries a b (negsuc q) in
    turned b (suc q) n j h (omega (arith, entries-within a b (negsuc q) s (n - 1) (omega arith)))

module _ (d : ℕ) (s : ℤ) (e : Option ℤ) (p : ℤ) (s' : ℤ) (e' : Option ℤ) (p' : ℤ) (inner : outside d s e ≡ false) (step : bad_step p ≡ false) (step' : bad_step p' ≡ false) where
  abbrev lo : ℕ
  lo = resolved d s

  abbrev hi : ℕ
  hi = upper d s e

  abbrev n : ℕ
  n = entries lo hi p

  abbrev lo' : ℕ
  lo' = resolved d s'

  abbrev hi' : ℕ
  hi' = upper d s' e'

  abbrev n' : ℕ
  n' = entries lo' hi' p'

  abbrev Both : Type 0
  Both = Common (lowest lo hi p) (nat_abs p) n (lowest lo' hi' p') (nat_abs p') n'

  there : axis_meets d (Slice s e p) (Slice s' e' p') ≡ true → Both
  there t =
      let i = below_some d (λ i. picks d (Slice s e p) i && picks d (Slice s' e' p') i) t in
      let c = and_parts (picks d (Slice s e p) i.0) (picks d (Slice s' e' p') i.0) i.2 in
      let j = below_some n (λ k. eqb (entry lo hi p k) i.0) c.0 in
      let k = below_some n' (λ k. eqb (entry lo' hi' p' k) i.0) c.1 in (
        turn p n j.0,
        turn p' n' k.0,
        turn_below p n j.0 j.1,
        turn_below p' n' k.0 k.1,
        from_least lo hi p j.0 (step_some p step) j.1 ∙ eqb-true (entry lo hi p j.0) i.0 j.2
            ∙ sym (eqb-true (entry lo' hi' p' k.0) i.0 k.2) ∙ sym (from_least lo' hi' p' k.0 (step_some p' step') k.1),
      )

  here : Both → axis_meets d (Slice s e p) (Slice s' e' p') ≡ true
  here (x, y, h, k, q) =
      let j = turn p n x in
      let j' = turn p' n' y in
      let jh = turn_below p n x h in
      let jk = turn_below p' n' y k in
      let a : entry lo hi p j ≡ lowest lo hi p + nat_abs p * x = sym (from_least lo hi p j (step_some p step) jh) ∙ ap (λ m. lowest lo hi p + nat_abs p * m) (turn_turn p n x h) in
      let c : entry lo' hi' p' j' ≡ lowest lo' hi' p' + nat_abs p' * y = sym (from_least lo' hi' p' j' (step_some p' step') jk) ∙ ap (λ m. lowest lo' hi' p' + nat_abs p' * m) (turn_turn p' n' y k) in
      let i = entry lo hi p j in
      below_at d i (λ i. picks d (Slice s e p) i && picks d (Slice s' e' p') i) ((range_axis d s e p (pos 0) inner step).within j jh)
      (and_from (picks d (Slice s e p) i) (picks d (Slice s' e' p') i)
      (below_at n j (λ m. eqb (entry lo hi p m) i) jh (eq-eqb (entry lo hi p j) i refl))
      (below_at n' j' (λ m. eqb (entry lo' hi' p' m) i) jk (eq-eqb (entry lo' hi' p' j') i (c ∙ sym q ∙ sym a))))

  -- what code computes of one axis decides what the definition searches
  pub ranges_meet : Decides (axis_meets d (Slice s e p) (Slice s' e' p')) Both
  ranges_meet = (there, here)
