-- Slicing leaves a grid whose tuples stand for tuples of the sliced one.
use Rattle.std.proofs.Common.{◌≡◌, ℕ, suc, ◌≤◌, eqb, ltb, List, [], ◌∷◌, length, ℤ, None, refl, arith}
use Rattle.std.proofs.lemmas.Bool.{eqb-true, ltb-false}
use Rattle.laws.specs.Space.{Seen, Sound}
use Rattle.laws.specs.Elements.{Elem, Slice, Index, NewAxis, in_count, out_count, outside, outside_index, bad_step}
use Rattle.laws.specs.Slicing.{first_fault, slice_fault, sliced, sliced_lens, sliced_strides, sliced_move, sliced_back}
use Rattle.laws.proofs.Faults.{none_unless, none_where}
use Rattle.laws.proofs.Resolving.{index_below, range_axis}
use Rattle.laws.proofs.Cuts.{Cut, cut_none, cut_more, cut-taken, cut_new}
use Rattle.laws.proofs.Refining.{Refined, cut_refined, sound_refined}

sliced-cut : (k : ℕ) (es : List Elem) (ds : List ℕ) (zs : List ℤ) → in_count es ≡ length ds → length ds ≡ length zs → first_fault k es ds ≡ None
    → Cut ds zs (sliced_lens es ds) (sliced_strides es ds zs) (sliced_move es ds zs) (sliced_back es ds)
sliced-cut k [] [] [] c l f = cut_none
sliced-cut k [] [] (z ∷ zs) c l f = absurd (omega arith)
sliced-cut k [] (d ∷ ds) zs c l f = absurd (omega arith)
sliced-cut k (NewAxis ∷ es) ds zs c l f = cut_new (sliced-cut (suc k) es ds zs c l f) (sliced_back (NewAxis ∷ es) ds) (λ j ix. refl)
sliced-cut k (Slice s e p ∷ es) [] zs c l f = absurd (omega arith)
sliced-cut k (Slice s e p ∷ es) (d ∷ ds) [] c l f = absurd (omega arith)
sliced-cut k (Slice s e p ∷ es) (d ∷ ds) (z ∷ zs) c l f =
    let here = none_unless (outside d s e) _ _ f in
    let step = none_unless (bad_step p) _ _ here.1 in
    cut_more (sliced-cut (suc k) es ds zs (omega arith) (omega arith) step.1) d z _ _ _ _ (sliced_back (Slice s e p ∷ es) (d ∷ ds))
    (range_axis d s e p z here.0 step.0) (λ j ix. refl)
sliced-cut k (Index i ∷ es) [] zs c l f = absurd (omega arith)
sliced-cut k (Index i ∷ es) (d ∷ ds) [] c l f = absurd (omega arith)
sliced-cut k (Index i ∷ es) (d ∷ ds) (z ∷ zs) c l f =
    let here = none_unless (outside_index d i) _ _ f in
    cut-taken (sliced-cut (suc k) es ds zs (omega arith) (omega arith) here.1) d _ z (sliced_back (Index i ∷ es) (d ∷ ds)) (index_below d i here.0) (λ ix. refl)

sliced-few : (es : List Elem) (ds : List ℕ) → length (sliced_lens es ds) ≤ out_count es
sliced-few [] ds = omega arith
sliced-few (NewAxis ∷ es) ds = omega (arith, sliced-few es ds)
sliced-few (Slice s e p ∷ es) [] = omega arith
sliced-few (Slice s e p ∷ es) (d ∷ ds) = omega (arith, sliced-few es ds)
sliced-few (Index i ∷ es) [] = omega arith
sliced-few (Index i ∷ es) (d ∷ ds) = omega (arith, sliced-few es ds)

-- what is not refused takes each axis, leaves at most 8, and has no faulty element
pub slice_passed : (es : List Elem) (ds : List ℕ) → slice_fault es ds ≡ None → (in_count es ≡ length ds) × (out_count es ≤ 8) × (first_fault 0 es ds ≡ None)
slice_passed es ds e =
    let counts = none_where (eqb (in_count es) (length ds)) _ _ e in
    let ranks = none_unless (ltb 8 (out_count es)) _ _ counts.1 in
    (eqb-true (in_count es) (length ds) counts.0, ltb-false 8 (out_count es) ranks.0, ranks.1)

module _ (s : Seen) (es : List Elem) (h : Sound s) (e : slice_fault es s.lens ≡ None) where
  pub sliced_refined : Refined s (sliced es s) (sliced_back es s.lens)
  sliced_refined =
      let passed = slice_passed es s.lens e in
      cut_refined s _ _ _ (sliced_move es s.lens s.strides) (sliced_back es s.lens) h refl (omega (arith, sliced-few es s.lens, passed.1))
      (sliced-cut 0 es s.lens s.strides passed.0 h.paired passed.2)

  pub slicing_sound : Sound (sliced es s)
  slicing_sound = sound_refined s (sliced es s) (sliced_back es s.lens) sliced_refined h
