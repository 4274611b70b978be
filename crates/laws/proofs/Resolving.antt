-- The laws of one element on an axis: where a range or an index that is not refused lies, how many entries a range has, and which index each of them is.
use Rattle.std.proofs.Common.{◌≡◌, ℕ, zero, suc, ◌+◌, ◌-◌, ◌*◌, ◌/◌, ◌%◌, ◌<◌, ◌≤◌, Bool, true, false, cond, ◌||◌, eqb, ltb, leb, ℤ, pos, negsuc, ◌+ℤ◌, ◌*ℤ◌, nat_abs, Option, sym, refl, ap, ◌∙◌, subst, inl, inr, mod-lt, mul-le-mul_left, div-add-mod', le-div_iff_mul-le, zero-mul, arith}
use native.Mathlib.Nat.{div-eq_of_lt-le, eq_of_mul-eq-mul_right}
use lib.IntN.{zero-*ℤ}
use Rattle.std.proofs.lemmas.Int.{ints}
use Rattle.std.proofs.lemmas.Bool.{cases_lt, cases_Bool, or_parts, eqb-true, leb-true, ne_eqb, eqb-false, ltb-false}
use Rattle.laws.specs.Elements.{resolved, before, ending_before, upper, outside, outside_index, bad_step, rounded_up, entries, first, entry}
use Rattle.laws.specs.Slicing.{cut_stride, cut_move}
use Rattle.laws.proofs.Axes.{Axis}
use Rattle.laws.proofs.Integers.{along}

-- ---- where an element that is not refused lies

pub index_below : (d : ℕ) (i : ℤ) → outside_index d i ≡ false → resolved d i < d
index_below d i h = ltb-false d (suc (resolved d i)) (or_parts (before d i) (ltb d (suc (resolved d i))) h).1

-- a range's start lies at or before its end, and its end on the axis
pub range_ends : (d : ℕ) (s : ℤ) (e : Option ℤ) → outside d s e ≡ false → (resolved d s ≤ upper d s e) × (upper d s e ≤ d)
range_ends d s e h =
    let a = (or_parts (before d s) (ending_before d e || ltb d (upper d s e)) h).1 in
    let b = (or_parts (ending_before d e) (ltb d (upper d s e)) a).1 in
    (omega arith, ltb-false d (upper d s e) b)

pub step_small : (p : ℤ) → bad_step p ≡ false → nat_abs p ≤ 1048576
step_small p h = ltb-false 1048576 (nat_abs p) (or_parts (eqb (nat_abs p) 0) (ltb 1048576 (nat_abs p)) h).1

pub step_some : (p : ℤ) → bad_step p ≡ false → 0 < nat_abs p
step_some p h =
    let n = eqb-false (nat_abs p) 0 (or_parts (eqb (nat_abs p) 0) (ltb 1048576 (nat_abs p)) h).0 in
    omega (arith, n)

-- ---- how many entries a range from a to b has

module _ (a b : ℕ) (p : ℤ) (s : 0 < nat_abs p) where
  -- those whose steps end before the range does
  pub entries-within : (j : ℕ) → j < entries a b p → j * nat_abs p < b - a
  entries-within j h =
      let e : suc j * nat_abs p ≤ b - a + (nat_abs p - 1) = (le-div_iff_mul-le {k = nat_abs p} s).0 h in
      omega arith

  pub entries_past : (j : ℕ) → entries a b p ≤ j → b - a ≤ j * nat_abs p
  entries_past j h =
      elim (cases_lt (j * nat_abs p) (b - a)) [
        | inl l ↦
            let more : suc j ≤ entries a b p = (le-div_iff_mul-le {k = nat_abs p} s).1 (omega arith) in
            absurd (omega arith)
        | inr l ↦ l
      ]

  entries_none : entries a b p ≡ 0 → b - a ≡ 0
  entries_none e = omega (arith, zero-mul (nat_abs p), entries_past 0 (omega arith))

  pub entries-few : entries a b p ≤ b
  entries-few = go (entries a b p) entries-within
    where
      go : (n : ℕ) → ((k : ℕ) → k < n → k * nat_abs p < b - a) → n ≤ b
      go zero f = omega arith
      go (suc k) f = omega (arith, f k (omega arith), mul-le-mul_left {m = 1} {n = nat_abs p} k s)

-- a quotient, and one more where something is left over
pub rounded_up_lem : (m q : ℕ) → 0 < q → m / q + cond (eqb (m % q) 0) 0 1 ≡ rounded_up m q
rounded_up_lem m q s =
    let whole = div-add-mod' m q in
    let rest = mod-lt m s in
    elim (cases_Bool (eqb (m % q) 0)) [
      | inl e ↦ let none = eqb-true (m % q) 0 e in rw e (sym (div-eq_of_lt-le {k = m / q + 0} q (omega arith) (omega arith)))
      | inr e ↦ let some = eqb-false (m % q) 0 e in rw e (sym (div-eq_of_lt-le {k = m / q + 1} q (omega arith) (omega arith)))
    ]

-- ---- which index each of them is

module _ (a b : ℕ) where
  entry_is : (j : ℕ) (p : ℤ) → j * nat_abs p < b - a → pos (first a b p) +ℤ pos j *ℤ p ≡ pos (entry a b p j)
  entry_is j (pos n) k = refl
  entry_is j (negsuc n) k = omega (arith, ints)

  pub entry-low : (j : ℕ) (p : ℤ) → j * nat_abs p < b - a → a ≤ entry a b p j
  entry-low j (pos n) k = omega arith
  entry-low j (negsuc n) k = omega arith

  pub entry-high : (j : ℕ) (p : ℤ) → j * nat_abs p < b - a → entry a b p j < b
  entry-high j (pos n) k = omega arith
  entry-high j (negsuc n) k = omega arith

  entry_apart : (i j : ℕ) (p : ℤ) → 0 < nat_abs p → i * nat_abs p < b - a → j * nat_abs p < b - a → entry a b p i ≡ entry a b p j → i ≡ j
  entry_apart i j (pos n) s h k e = eq_of_mul-eq-mul_right n s i j (omega arith)
  entry_apart i j (negsuc n) s h k e = eq_of_mul-eq-mul_right (suc n) s i j (omega arith)

stride_cases : (t : Bool) (n j : ℕ) (w : ℤ) → leb n 1 ≡ t → j < n → pos j *ℤ cond t (pos 0) w ≡ pos j *ℤ w
stride_cases true n j w e h =
    let o : 0 ≡ j = omega (arith, leb-true n 1 e) in
    subst (λ m. pos m *ℤ pos 0 ≡ pos m *ℤ w) o (sym (zero-*ℤ w))
stride_cases false n j w e h = refl

module _ (d a b : ℕ) (p : ℤ) (h : b ≤ d) (s : 0 < nat_abs p) where
  cell_of_lem : (z : ℤ) (j : ℕ) → j < entries a b p → cut_move a b p z +ℤ pos j *ℤ cut_stride a b p z ≡ pos (entry a b p j) *ℤ z
  cell_of_lem z j k =
      let l = entries-within a b p s j k in
      let off : eqb (b - a) 0 ≡ false = ne_eqb (b - a) 0 (omega arith) in
      let moves : cut_move a b p z ≡ pos (first a b p) *ℤ z = ap (λ t. cond t (pos 0) (pos (first a b p) *ℤ z)) off in
      let steps : pos j *ℤ cut_stride a b p z ≡ pos j *ℤ (z *ℤ p) = stride_cases (leb (entries a b p) 1) (entries a b p) j (z *ℤ p) refl k in
      ap (λ (m : ℤ). m +ℤ pos j *ℤ cut_stride a b p z) moves
      ∙ ap (λ (m : ℤ). pos (first a b p) *ℤ z +ℤ m) steps
      ∙ along (pos (first a b p)) (pos j) p z
      ∙ ap (λ (m : ℤ). m *ℤ z) (entry_is a b j p l)

  cut_axis : (z : ℤ) → Axis d z (entries a b p) (cut_stride a b p z) (cut_move a b p z) (entry a b p)
  cut_axis z = record {
    within = λ j k. omega (arith, entry-high a b j p (entries-within a b p s j k));
    cell = cell_of_lem z;
    apart = λ i j k l e. entry_apart a b i j p s (entries-within a b p s i k) (entries-within a b p s j l) e;
    empty = λ e. ap (λ m. cond (eqb m 0) (pos 0) (pos (first a b p) *ℤ z)) (entries_none a b p s e);
    fewer = omega (arith, entries-few a b p s);
  }

-- ---- a range that is not refused

-- it stands for entries of its axis, each once, and reaches no further
pub range_axis : (d : ℕ) (s : ℤ) (e : Option ℤ) (p z : ℤ) → outside d s e ≡ false → bad_step p ≡ false
    → Axis d z (entries (resolved d s) (upper d s e) p) (cut_stride (resolved d s) (upper d s e) p z) (cut_move (resolved d s) (upper d s e) p z) (entry (resolved d s) (upper d s e) p)
range_axis d s e p z h t = cut_axis d (resolved d s) (upper d s e) p (range_ends d s e h).1 (step_some p t) z
