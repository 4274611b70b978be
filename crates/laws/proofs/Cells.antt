-- The cell of a tuple, as a loop adds it up axis by axis.
use Rattle.std.proofs.Common.{◌≡◌, ℕ, suc, ◌+◌, ◌-◌, ◌*◌, ◌^◌, ◌<◌, ◌≤◌, T, List, length, get_or, drop, ℤ, pos, negsuc, ◌+ℤ◌, ◌*ℤ◌, sym, refl, ap, ◌∙◌, subst, mul-le-mul_right, mul-zero, arith, w64, to_z}
use lib.IntN.{+ℤ_assoc, +ℤ_idr}
use Rattle.std.proofs.lemmas.List.{drop_more, at_drop_all}
use Rattle.std.proofs.lemmas.Int.{ints}
use Rattle.laws.specs.Tuples.{Within}
use Rattle.laws.specs.Space.{Seen, Sound, offset, cell_of, cell, inside, plus, minus, up, down}
use Rattle.laws.proofs.Reach.{reach_more}
use Rattle.laws.proofs.Words.{inside-pos, pos-inside}

-- ---- the cell as a number

pub cell-number : (s : Seen) → Sound s → (ix : List ℕ) → Within ix s.lens → (k : ℕ) × (k < s.cells) × (cell s ix ≡ pos k)
cell-number s sound ix w = inside-pos s.cells (cell s ix) (sound.bounds ix w)

pub cell_below : (s : Seen) → Sound s → (ix : List ℕ) (k : ℕ) → Within ix s.lens → cell s ix ≡ pos k → k < s.cells
cell_below s sound ix k w e =
    let n = cell-number s sound ix w in
    let there = n.2 in
    let same : k ≡ n.0 = cc in
    omega (arith, n.1)

-- ---- one axis

-- how far an index below n leads
pub moves : (at index n : ℕ) (z : ℤ) → index < n → (n - 1) * minus z ≤ at → (k : ℕ) × (pos at +ℤ pos index *ℤ z ≡ pos k) × (k ≤ at + (n - 1) * plus z) × (at ≤ k + (n - 1) * minus z)
moves at index n (pos m) h low =
    (at + index * m, refl, omega (arith, mul-le-mul_right {m = index} {n = n - 1} m (omega arith)), omega (arith, mul-zero (n - 1)))
moves at index n (negsuc m) h low =
    let fit : index * suc m ≤ (n - 1) * suc m = mul-le-mul_right {m = index} {n = n - 1} (suc m) (omega arith) in
    (at - index * suc m, omega (arith, ints), omega arith, omega arith)

-- ---- the loop

-- after i axes the word leads on to the tuple's cell, and no later axis leaves the cells
pub record Adding (s : Seen) (ix : List ℕ) (i at : ℕ) : Type 0 where
  pub rest : cell_of (pos at) (drop i s.strides) (drop i ix) ≡ cell s ix
  pub low : down (drop i s.lens) (drop i s.strides) ≤ at
  pub high : at + up (drop i s.lens) (drop i s.strides) ≤ s.cells

pub cell-all : (s : Seen) (ix : List ℕ) (i at : ℕ) → length ix ≤ i → Adding s ix i at → cell s ix ≡ pos at
cell-all s ix i at h a = sym a.rest ∙ at_drop_all (cell_of (pos at) (drop i s.strides)) ix i h ∙ +ℤ_idr (pos at)

module _ (s : Seen) (sound : Sound s) (ix : List ℕ) (i at : ℕ) (a : Adding s ix i at)
    (long : length ix ≡ length s.lens) (h : i < length ix) (below : get_or ix i 0 < get_or s.lens i 0) where
  lower : down (drop i s.lens) (drop i s.strides) ≡ (get_or s.lens i 0 - 1) * minus (get_or s.strides i (pos 0)) + down (drop (i + 1) s.lens) (drop (i + 1) s.strides)
  lower = let p = sound.paired in reach_more minus s.lens s.strides i (omega arith) (omega arith)

  higher : up (drop i s.lens) (drop i s.strides) ≡ (get_or s.lens i 0 - 1) * plus (get_or s.strides i (pos 0)) + up (drop (i + 1) s.lens) (drop (i + 1) s.strides)
  higher = let p = sound.paired in reach_more plus s.lens s.strides i (omega arith) (omega arith)

  cell-moves : (k : ℕ) × (pos at +ℤ pos (get_or ix i 0) *ℤ get_or s.strides i (pos 0) ≡ pos k) × (down (drop (i + 1) s.lens) (drop (i + 1) s.strides) ≤ k) × (k + up (drop (i + 1) s.lens) (drop (i + 1) s.strides) ≤ s.cells)
  cell-moves =
      let low = a.low in
      let high = a.high in
      let m = moves at (get_or ix i 0) (get_or s.lens i 0) (get_or s.strides i (pos 0)) below (omega (arith, lower)) in
      (m.0, m.1, omega (arith, m.3, lower), omega (arith, m.2, higher))

  -- the step leads to a word
  pub cell_fits : T (inside (2 ^ 64) (pos at +ℤ pos (get_or ix i 0) *ℤ get_or s.strides i (pos 0)))
  cell_fits =
      let few = sound.narrow in
      let m = cell-moves in
      subst (λ (z : ℤ). T (inside (2 ^ 64) z)) (sym m.1) (pos-inside (2 ^ 64) m.0 (omega (arith, m.3)))

  -- and from that word the loop goes on
  pub cell_more : (after : ℕ) → pos after ≡ pos at +ℤ pos (get_or ix i 0) *ℤ get_or s.strides i (pos 0) → Adding s ix (i + 1) after
  cell_more after e =
      let m = cell-moves in
      let there = m.1 in
      let same : after ≡ m.0 = cc in
      let p = sound.paired in
      let x = get_or ix i 0 in
      let z = get_or s.strides i (pos 0) in
      let rest = offset (drop (i + 1) ix) (drop (i + 1) s.strides) in
      let f = drop_more ix i 0 h in
      let g = drop_more s.strides i (pos 0) (omega arith) in
      let sum : offset (drop i ix) (drop i s.strides) ≡ pos x *ℤ z +ℤ rest = rw (f, g) in
      record {
        rest = ap (λ (c : ℤ). c +ℤ rest) e ∙ +ℤ_assoc (pos at) (pos x *ℤ z) rest ∙ sym (ap (λ (c : ℤ). pos at +ℤ c) sum) ∙ a.rest;
        low = omega (arith, m.2);
        high = omega (arith, m.3);
      }

  -- the same for the index and the stride as code reads them, and a step that is exact where it leads to a word
  pub cell_step : (index stride after : ℕ) → index ≡ get_or ix i 0 → to_z w64 stride ≡ get_or s.strides i (pos 0)
      → (T (inside (2 ^ 64) (pos at +ℤ pos index *ℤ to_z w64 stride)) → pos after ≡ pos at +ℤ pos index *ℤ to_z w64 stride) → Adding s ix (i + 1) after
  cell_step index stride after x z law =
      let same : pos at +ℤ pos index *ℤ to_z w64 stride ≡ pos at +ℤ pos (get_or ix i 0) *ℤ get_or s.strides i (pos 0) = cc in
      cell_more after (law (subst (λ (c : ℤ). T (inside (2 ^ 64) c)) (sym same) cell_fits) ∙ same)
