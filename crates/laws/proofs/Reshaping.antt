-- Reshaping leaves a grid whose tuples stand for tuples of the reshaped one, with as many before them.
use Rattle.std.proofs.Common.{◌≡◌, ℕ, ◌+◌, ◌-◌, ◌*◌, ◌<◌, ◌≤◌, cond, not, eqb, ltb, List, [], ◌∷◌, reverse, length, replicate, ℤ, pos, negsuc, ◌+ℤ◌, neg_ℤ, ◌≤ℤ◌, None, Ok, Err, Result, sym, refl, ap, ◌∙◌, subst, inl, inr, mul-zero, arith}
use Rattle.std.proofs.lemmas.List.{length-reverse, length-replicate, reverse-reverse}
use Rattle.std.proofs.lemmas.Int.{ints}
use Rattle.std.proofs.lemmas.Bool.{cases_eq, eq-eqb, ne_eqb, eqb-true, ltb-false, cond-true, cond-false, not-false}
use Rattle.laws.specs.Lengths.{product, nonzeros}
use Rattle.laws.specs.Tuples.{Within}
use Rattle.laws.specs.Space.{Seen, Sound, offset, reach, plus, minus, up, down}
use Rattle.laws.specs.Faults.{Fault, in_rows}
use Rattle.laws.specs.Opening.{most, limit}
use Rattle.laws.specs.Reshaping.{Order, RowMajor, ColumnMajor, count_before, regrouped, backward, regrouped_in, restrided, refusal_of, strides_of, reshape_fault, reshaped, reshaped_back, Near, Ready}
use Rattle.laws.proofs.Faults.{passed_on}
use Rattle.laws.proofs.Lengths.{product_below}
use Rattle.laws.proofs.Tuples.{within-length, product-pos}
use Rattle.laws.proofs.Refining.{Refined}
use Rattle.laws.proofs.Extremes.{offset-high, offset-low, top, bottom}
use Rattle.laws.proofs.Orders.{within-reverse, column_reverse, before_lt, before_inj, tuple_within, before_tuple}
use Rattle.laws.proofs.ReshapingSizes.{product-positive, near-length, ready-reverse}
use Rattle.laws.proofs.ReshapingGroups.{groups_length, groups_offset, offset-reverse}
use Rattle.laws.proofs.ReshapingWalk.{regrouped_groups}

-- ---- what a sound grid gives

near-reach : (ls : List ℕ) (zs : List ℤ) → length ls ≡ length zs → up ls zs + down ls zs ≤ 1048576 → Near ls zs
near-reach [] [] e h = tt
near-reach [] (z ∷ zs) e h = absurd (omega arith)
near-reach (l ∷ ls) [] e h = absurd (omega arith)
near-reach (l ∷ ls) (pos k ∷ zs) e h = let none = mul-zero (l - 1) in (omega arith, near-reach ls zs (omega arith) (omega arith))
near-reach (l ∷ ls) (negsuc k ∷ zs) e h = let none = mul-zero (l - 1) in (omega arith, near-reach ls zs (omega arith) (omega arith))

pub reshape_ready : (s : Seen) → Sound s → (ms : List ℕ) → product ms ≡ product s.lens → 0 < product ms → Ready s.lens s.strides ms
reshape_ready s h ms e some = record {
  olds = product-positive s.lens (omega arith);
  news = product-positive ms some;
  near = near-reach s.lens s.strides h.paired (spans s.start s.cells (up s.lens s.strides) (down s.lens s.strides) h.low h.high h.narrow);
  same = sym e;
  small = omega (arith, product_below s.lens, h.small);
}
  where
    spans : (start : ℤ) (cells u d : ℕ) → pos d ≤ℤ start → (start +ℤ pos u) ≤ℤ pos cells → cells ≤ 1048576 → u + d ≤ 1048576
    spans start cells u d low high narrow = omega (arith, ints)

-- ---- new strides that keep the cells

-- an old and a new tuple with as many before them have one cell
abbrev pub Keeping : Order → List ℕ → List ℤ → List ℕ → List ℤ → Type 0
Keeping o ls zs ms ts = (ix jx : List ℕ) → Within ix ls → Within jx ms → count_before o ix ls ≡ count_before o jx ms → offset jx ts ≡ offset ix zs

backward_ok : (r : Result (List ℤ) Fault) (ts : List ℤ) → backward r ≡ Ok ts → r ≡ Ok (reverse ts)
backward_ok (Ok xs) ts e = let f : reverse xs ≡ ts = cc in ap Ok (sym (reverse-reverse xs) ∙ ap reverse f)
backward_ok (Err f) ts e = let z : ◌≡◌ {A = ℕ} 0 1 = cc in absurd (omega arith)

regrouped-keeps : (o : Order) (ls : List ℕ) (zs : List ℤ) (ms : List ℕ) (ts : List ℤ) → Ready ls zs ms → regrouped_in o ls zs ms ≡ Ok ts
    → (length ts ≡ length ms) × Keeping o ls zs ms ts
regrouped-keeps RowMajor ls zs ms ts r e =
    let g = regrouped_groups ls zs ms ts r e in
    (groups_length g, λ ix jx v w p. sym (groups_offset g ix jx v w p))
regrouped-keeps ColumnMajor ls zs ms ts r e =
    let g = regrouped_groups (reverse ls) (reverse zs) (reverse ms) (reverse ts) (ready-reverse ls zs ms r) (backward_ok (regrouped (reverse ls) (reverse zs) (reverse ms)) ts e) in
    let long : length ts ≡ length ms = sym (length-reverse ts) ∙ groups_length g ∙ length-reverse ms in (
      long,
      λ ix jx v w p.
          sym (offset-reverse jx ts (omega (arith, within-length jx ms w)))
          ∙ sym (groups_offset g (reverse ix) (reverse jx) (within-reverse ix ls v) (within-reverse jx ms w) (column_reverse ix ls v ∙ p ∙ sym (column_reverse jx ms w)))
          ∙ offset-reverse ix zs (omega (arith, near-length ls zs r.near, within-length ix ls v)),
    )

-- ---- the grid with other lengths and strides

abbrev with_axes : Seen → List ℕ → List ℤ → Seen
with_axes s ms ts = record { cells = s.cells; start = s.start; lens = ms; strides = ts }

raise : (a : ℤ) (u v : ℕ) → v ≤ u → (a +ℤ pos v) ≤ℤ (a +ℤ pos u)
raise a u v h = omega (arith, ints)

-- where there are cells
module _ (s : Seen) (o : Order) (ms : List ℕ) (ts : List ℤ) (r : Ready s.lens s.strides ms) (long : length ts ≡ length ms) (k : Keeping o s.lens s.strides ms ts) where
  abbrev work : List ℕ → List ℕ
  work ix = reshaped_back o ms s.lens ix

  work_within : (ix : List ℕ) → Within ix ms → Within (work ix) s.lens
  work_within ix w = tuple_within o s.lens (count_before o ix ms) (omega (arith, before_lt o ix ms w, r.same))

  work_before : (ix : List ℕ) → Within ix ms → count_before o (work ix) s.lens ≡ count_before o ix ms
  work_before ix w = before_tuple o s.lens (count_before o ix ms) (omega (arith, before_lt o ix ms w, r.same))

  work_offset : (ix : List ℕ) → Within ix ms → offset ix ts ≡ offset (work ix) s.strides
  work_offset ix w = k (work ix) ix (work_within ix w) w (work_before ix w)

  up_less : up ms ts ≤ up s.lens s.strides
  up_less =
      let t = top ms ts r.news long in
      go (up ms ts) (up s.lens s.strides) _ (sym t.2 ∙ work_offset t.0 t.1) (offset-high _ s.lens s.strides (work_within t.0 t.1))
    where
      go : (a b : ℕ) (z : ℤ) → pos a ≡ z → z ≤ℤ pos b → a ≤ b
      go a b z e h = omega (arith, ints)

  down_less : down ms ts ≤ down s.lens s.strides
  down_less =
      let t = bottom ms ts r.news long in
      go (down ms ts) (down s.lens s.strides) _ (sym t.2 ∙ work_offset t.0 t.1) (offset-low _ s.lens s.strides (work_within t.0 t.1))
    where
      go : (a b : ℕ) (z : ℤ) → neg_ℤ (pos a) ≡ z → pos 0 ≤ℤ (z +ℤ pos b) → a ≤ b
      go a b z e h = omega (arith, ints)

  kept_refined : length ms ≤ 8 → nonzeros ms ≤ 1048576 → Refined s (with_axes s ms ts) (reshaped_back o ms s.lens)
  kept_refined few small = record {
    cells = refl;
    within = work_within;
    same_cell = λ ix w. ap (λ (z : ℤ). s.start +ℤ z) (work_offset ix w);
    apart = λ ix jx w u e.
        before_inj o ix jx ms w u (sym (work_before ix w) ∙ ap (λ t. count_before o t s.lens) e ∙ work_before jx u);
    top = raise s.start (up s.lens s.strides) (up ms ts) up_less;
    bottom = raise s.start (down s.lens s.strides) (down ms ts) down_less;
    paired = sym long;
    few = few;
    small = small;
  }

-- where there are none
reach_none : (f : ℤ → ℕ) → f (pos 0) ≡ 0 → (ms : List ℕ) → reach f ms (replicate (length ms) (pos 0)) ≡ 0
reach_none f e [] = refl
reach_none f e (m ∷ ms) = omega (arith, ap (λ n. (m - 1) * n) e, mul-zero (m - 1), reach_none f e ms)

none_refined : (s : Seen) (ms : List ℕ) (work : List ℕ → List ℕ) → product ms ≡ 0 → length ms ≤ 8 → nonzeros ms ≤ 1048576
    → Refined s (with_axes s ms (replicate (length ms) (pos 0))) work
none_refined s ms work e few small = record {
  cells = refl;
  within = λ ix w. absurd (no_tuple ix w);
  same_cell = λ ix w. absurd (no_tuple ix w);
  apart = λ ix jx w u p. absurd (no_tuple ix w);
  top = raise s.start (up s.lens s.strides) (up ms (replicate (length ms) (pos 0))) (omega (arith, reach_none plus refl ms));
  bottom = raise s.start (down s.lens s.strides) (down ms (replicate (length ms) (pos 0))) (omega (arith, reach_none minus refl ms));
  paired = sym (length-replicate (length ms) (pos 0));
  few = few;
  small = small;
}
  where
    no_tuple : (ix : List ℕ) → Within ix ms → ⊥
    no_tuple ix w = omega (arith, product-pos ix ms w)

-- ---- what is not refused

not_refused : (r : Result (List ℤ) Fault) → refusal_of r ≡ None → Ok (strides_of r) ≡ r
not_refused (Ok ts) e = refl
not_refused (Err f) e = let z : ◌≡◌ {A = ℕ} 0 1 = cc in absurd (omega arith)

module _ (s : Seen) (h : Sound s) (o : Order) (ms : List ℕ) where
  made_refined : (ts : List ℤ) → length ms ≤ 8 → nonzeros ms ≤ 1048576 → product ms ≡ product s.lens
      → Ok ts ≡ cond (eqb (product ms) 0) (Ok (replicate (length ms) (pos 0))) (regrouped_in o s.lens s.strides ms)
      → Refined s (with_axes s ms ts) (reshaped_back o ms s.lens)
  made_refined ts few small same e =
      elim (cases_eq (product ms) 0) [
        | inl none ↦
            let f : Ok ts ≡ Ok (replicate (length ms) (pos 0)) = e ∙ cond-true (eqb (product ms) 0) _ _ (eq-eqb (product ms) 0 none) in
            let is : replicate (length ms) (pos 0) ≡ ts = cc in
            subst (λ (y : List ℤ). Refined s (with_axes s ms y) (reshaped_back o ms s.lens)) is (none_refined s ms (reshaped_back o ms s.lens) none few small)
        | inr some ↦
            let r = reshape_ready s h ms same (omega arith) in
            let kept = regrouped-keeps o s.lens s.strides ms ts r (sym (e ∙ cond-false (eqb (product ms) 0) _ _ (ne_eqb (product ms) 0 some))) in
            kept_refined s o ms ts r kept.0 kept.1 few small
      ]

  pub reshaped_refined : reshape_fault o ms s ≡ None → Refined s (reshaped o ms s) (reshaped_back o ms s.lens)
  reshaped_refined e =
      let r = restrided o s.lens s.strides ms in
      let few = passed_on (ltb 8 (length ms)) (in_rows 11) (strides_of r) _ (not_refused r e) in
      let large = passed_on (ltb most (nonzeros ms)) (in_rows 6) (strides_of r) _ few.1 in
      let small = passed_on (ltb limit (nonzeros ms)) (in_rows 12) (strides_of r) _ large.1 in
      let same = passed_on (not (eqb (product ms) (product s.lens))) (in_rows 1) (strides_of r) _ small.1 in
      made_refined (strides_of r) (ltb-false 8 (length ms) few.0) (ltb-false limit (nonzeros ms) small.0)
      (eqb-true (product ms) (product s.lens) (not-false (eqb (product ms) (product s.lens)) same.0)) same.1
