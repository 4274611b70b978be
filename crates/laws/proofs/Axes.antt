-- One axis that stands for entries of another, and how far it reaches.
use Rattle.std.proofs.Common.{◌≡◌, ℕ, zero, suc, ◌-◌, ◌*◌, ◌<◌, ◌≤◌, ℤ, pos, negsuc, ◌+ℤ◌, ◌*ℤ◌, ◌≤ℤ◌, sym, refl, subst, mul-le-mul_right, arith}
use lib.IntN.{zero-*ℤ}
use Rattle.std.proofs.lemmas.Int.{ints}
use Rattle.laws.specs.Space.{plus, minus}

-- an axis of length n and stride y stands for entries of one of length d and stride z, once the start has moved
pub record Axis (d : ℕ) (z : ℤ) (n : ℕ) (y move : ℤ) (index : ℕ → ℕ) : Type 0 where
  pub within : (j : ℕ) → j < n → index j < d
  pub cell : (j : ℕ) → j < n → move +ℤ pos j *ℤ y ≡ pos (index j) *ℤ z
  pub apart : (i j : ℕ) → i < n → j < n → index i ≡ index j → i ≡ j
  pub empty : n ≡ 0 → move ≡ pos 0
  pub fewer : n ≤ d

-- ---- how far one index leads

pub index-high : (i d : ℕ) (z : ℤ) → i < d → (pos i *ℤ z) ≤ℤ pos ((d - 1) * plus z)
index-high i d (pos m) h = omega (arith, ints, mul-le-mul_right {m = i} {n = d - 1} m (omega arith))
index-high i d (negsuc m) h = omega (arith, ints)

pub index-low : (i d : ℕ) (z : ℤ) → i < d → pos 0 ≤ℤ (pos i *ℤ z +ℤ pos ((d - 1) * minus z))
index-low i d (pos m) h = omega (arith, ints)
index-low i d (negsuc m) h = omega (arith, ints, mul-le-mul_right {m = i} {n = d - 1} (suc m) (omega arith))

-- ---- such an axis reaches no further than the other

module _ (d : ℕ) (z : ℤ) where
  first_cell : (k : ℕ) (y move : ℤ) (index : ℕ → ℕ) → Axis d z (suc k) y move index → move ≡ pos (index 0) *ℤ z
  first_cell k y move index a =
      let e : move +ℤ pos 0 *ℤ y ≡ pos (index 0) *ℤ z = a.cell 0 (omega arith) in
      let o : pos 0 *ℤ y ≡ pos 0 = zero-*ℤ y in
      omega (arith, ints, rw o at e)

  high_at : (k : ℕ) (y move : ℤ) (index : ℕ → ℕ) → Axis d z (suc k) y move index → (move +ℤ pos (k * plus y)) ≤ℤ pos ((d - 1) * plus z)
  high_at k (pos m) move index a = omega (arith, ints, a.cell k (omega arith), index-high (index k) d z (a.within k (omega arith)))
  high_at k (negsuc m) move index a = omega (arith, ints, first_cell k (negsuc m) move index a, index-high (index 0) d z (a.within 0 (omega arith)))

  low_at : (k : ℕ) (y move : ℤ) (index : ℕ → ℕ) → Axis d z (suc k) y move index → pos (k * minus y) ≤ℤ (move +ℤ pos ((d - 1) * minus z))
  low_at k (pos m) move index a = omega (arith, ints, first_cell k (pos m) move index a, index-low (index 0) d z (a.within 0 (omega arith)))
  low_at k (negsuc m) move index a = omega (arith, ints, a.cell k (omega arith), index-low (index k) d z (a.within k (omega arith)))

  pub axis_high : (n : ℕ) (y move : ℤ) (index : ℕ → ℕ) → Axis d z n y move index → (move +ℤ pos ((n - 1) * plus y)) ≤ℤ pos ((d - 1) * plus z)
  axis_high zero y move index a = omega (arith, ints, a.empty refl)
  axis_high (suc k) y move index a =
      let e : k ≡ suc k - 1 = omega arith in
      subst (λ m. (move +ℤ pos (m * plus y)) ≤ℤ pos ((d - 1) * plus z)) e (high_at k y move index a)

  pub axis_low : (n : ℕ) (y move : ℤ) (index : ℕ → ℕ) → Axis d z n y move index → pos ((n - 1) * minus y) ≤ℤ (move +ℤ pos ((d - 1) * minus z))
  axis_low zero y move index a = omega (arith, ints, a.empty refl)
  axis_low (suc k) y move index a =
      let e : k ≡ suc k - 1 = omega arith in
      subst (λ m. pos (m * minus y) ≤ℤ (move +ℤ pos ((d - 1) * minus z))) e (low_at k y move index a)

  -- nor does the start

  move_top : (m : ℤ) (x y : ℕ) → (m +ℤ pos x) ≤ℤ pos y → m ≤ℤ pos y
  move_top m x y h = omega (arith, ints)

  move_bottom : (m : ℤ) (x y : ℕ) → pos x ≤ℤ (m +ℤ pos y) → pos 0 ≤ℤ (m +ℤ pos y)
  move_bottom m x y h = omega (arith, ints)

  pub move_high : (n : ℕ) (y move : ℤ) (index : ℕ → ℕ) → Axis d z n y move index → move ≤ℤ pos ((d - 1) * plus z)
  move_high n y move index a = move_top move ((n - 1) * plus y) ((d - 1) * plus z) (axis_high n y move index a)

  pub move_low : (n : ℕ) (y move : ℤ) (index : ℕ → ℕ) → Axis d z n y move index → pos 0 ≤ℤ (move +ℤ pos ((d - 1) * minus z))
  move_low n y move index a = move_bottom move ((n - 1) * minus y) ((d - 1) * minus z) (axis_low n y move index a)

  -- ---- an axis that is left as it is, and one taken at an index

  pub left_as : Axis d z d z (pos 0) (λ j. j)
  left_as = record { within = λ j h. h; cell = λ j h. omega (arith, ints); apart = λ i j h k e. e; empty = λ e. refl; fewer = omega arith }

  pub taken_at : (i : ℕ) → i < d → Axis d z 1 z (pos i *ℤ z) (λ j. i)
  taken_at i h = record {
    within = λ j k. h;
    cell = λ j k.
        let e : j ≡ 0 = omega arith in
        let o : pos 0 *ℤ z ≡ pos 0 = zero-*ℤ z in
        subst (λ m. pos i *ℤ z +ℤ pos m *ℤ z ≡ pos i *ℤ z) (sym e) (rw o (omega (arith, ints)));
    apart = λ j k p q e. omega arith;
    empty = λ e. absurd (omega arith);
    fewer = omega arith;
  }
