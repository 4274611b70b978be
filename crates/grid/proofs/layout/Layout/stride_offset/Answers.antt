use Rattle.std.proofs.Common.{◌≡◌, ℕ, ◌+◌, ◌^◌, ◌≤◌, T, refl, List, ◌++◌, ◌∷◌, [], length, ◌⊎◌, drop, ℤ, pos, ◌+ℤ◌, sym, ap, ◌∙◌, subst, inl, inr, arith}
use Rattle.std.proofs.lemmas.List.{length-append, length-drop}
use Rattle.laws.specs.Space.{inside}
use Rattle.laws.specs.Strides.{onward}
use Rattle.laws.specs.Tuples.{Within}
use Rattle.laws.proofs.Tuples.{within-length, within_at}
use Rattle.laws.proofs.Words.{length-signed, stride_read}
use Rattle.laws.proofs.Cells.{Adding, cell_step, cell-all, cell_below}
use Rattle.dimension.specs.Rows.{listed}
use Rattle.grid.specs.Layouts.{seen, onwards}
use Rattle.grid.proofs.Layouts.{sound}
use Rattle.grid.proofs.Walking.{drop_first}
use Rattle.grid.proofs.layout.Layout.stride_offset.Goals as goal

-- the item in front of each row is one turn of the loop
counted_more : (at after : ℕ) (ix ws : List ℕ) (i w : ℕ) (jx vs : List ℕ) (from : ℕ) → ix ≡ i ∷ jx → ws ≡ w ∷ vs → after ≡ onward from i w → from ≡ at → onwards at ix ws ≡ onwards after jx vs
counted_more at after ix ws i w jx vs from p q e same = rw p (rw q (rw e (rw same refl)))

-- of two words that are the same, what is known of a step from one is known of it from the other
step_from : (after from at : ℕ) (by : ℤ) → (T (inside (2 ^ 64) (pos from +ℤ by)) → pos after ≡ pos from +ℤ by) → from ≡ at → T (inside (2 ^ 64) (pos at +ℤ by)) → pos after ≡ pos at +ℤ by
step_from after from at by law same = subst (λ (n : ℕ). T (inside (2 ^ 64) (pos n +ℤ by)) → pos after ≡ pos n +ℤ by) same law

-- where either row is at its end, so is the count
counted_end : (at : ℕ) (ix ws : List ℕ) → (length ix ≡ 0) ⊎ (length ws ≡ 0) → at ≡ onwards at ix ws
counted_end at [] ws h = refl
counted_end at (i ∷ ix) [] h = refl
counted_end at (i ∷ ix) (w ∷ ws) h = absurd (elim h [ inl e ↦ omega (arith, e) | inr e ↦ omega (arith, e) ])

pub loop-word-preserved : goal.loop-word-preserved
loop-word-preserved c =
    let s = c.args.self.now in
    let ix = c.args.index.now in
    let ws = listed s.strides in
    let i = length c.loop-word.yielded in
    let inv = c.loop-word.invariant in
    let steps = c.in-Some.ensures.steps in
    let here = drop_first ix _ _ i c.in-Some.word.now 0 inv.2 steps.0 in
    let stride = drop_first ws _ _ i c.in-Some.stride.now 0 inv.3 steps.1 in
    let on : (w : Within ix (listed s.lens)) → Adding (seen s) ix (i + 1) c.stride_offset-at.result = λ w.
    cell_step (seen s) (sound s) ix i c.loop-word.at (inv.4 w) (within-length ix (listed s.lens) w) here.2 (within_at ix (listed s.lens) i w (omega (arith, here.2, within-length ix (listed s.lens) w)))
    c.in-Some.word.now c.in-Some.stride.now c.stride_offset-at.result here.1 (stride_read ws i c.in-Some.stride.now stride.2 stride.1) (step_from c.stride_offset-at.result _ c.loop-word.at _ c.stride_offset-at.ensures.law (let high = (inv.4 w).high in omega arith)) in
    let long : length (c.loop-word.yielded ++ _ ∷ []) ≡ i + 1 = length-append c.loop-word.yielded _ in (
      (tt, tt),
      tt,
      here.0 ∙ ap (λ n. drop n ix) (sym long),
      stride.0 ∙ ap (λ n. drop n ws) (sym long),
      λ w. subst (λ n. Adding (seen s) ix n c.stride_offset-at.result) (sym long) (on w),
      inv.5 ∙ counted_more c.loop-word.at c.stride_offset-at.result _ _ c.in-Some.word.now c.in-Some.stride.now _ _ _ steps.0 steps.1 c.stride_offset-at.ensures.answer (omega arith),
    )

pub returns : goal.returns
returns c =
    let s = c.args.self.now in
    let ws = listed s.strides in
    let n = length c.loop-word.yielded in
    let ix = c.args.index.now in
    let inv = c.loop-word.invariant in
    let end : (w : Within ix (listed s.lens)) → length ix ≤ length c.loop-word.yielded = λ w.
    elim c.in-None.ensures.steps [
      | inl x ↦ omega (arith, x.1.0, ap length inv.2, length-drop n ix)
      | inr x ↦ omega (arith, x.1.0, ap length inv.3, length-drop n ws, length-signed ws, s.paired, within-length ix (listed s.lens) w)
    ] in
    record {
      answer = counted_end c.loop-word.at c.loop-word.word-iterator.a.rest.now c.loop-word.word-iterator.b.rest.now (elim c.in-None.ensures.steps [ inl x ↦ inl x.1.0 | inr x ↦ inr x.1.0 ]) ∙ sym inv.5;
      here = λ w. cell-all (seen s) ix (length c.loop-word.yielded) c.loop-word.at (end w) (inv.4 w);
      within = λ w. cell_below (seen s) (sound s) ix c.loop-word.at w (cell-all (seen s) ix (length c.loop-word.yielded) c.loop-word.at (end w) (inv.4 w));
    }
