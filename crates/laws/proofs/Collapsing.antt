-- Collapsing leaves a grid whose tuples stand for tuples of the collapsed one.
use Rattle.std.proofs.Common.{◌≡◌, ℕ, zero, suc, ◌<◌, ltb, List, [], ◌∷◌, length, get_or, set, ℤ, pos, ◌*ℤ◌, None, refl, subst, arith}
use lib.IntN.{+ℤ_idl, +ℤ_idr}
use Rattle.std.proofs.lemmas.List.{length-set}
use Rattle.std.proofs.lemmas.Bool.{ltb-true}
use Rattle.laws.specs.Space.{Seen, Sound}
use Rattle.laws.specs.Collapsing.{len_at, stride_at, axis_fault, collapse_fault, collapsed}
use Rattle.laws.proofs.Faults.{none_where, none_both}
use Rattle.laws.proofs.Axes.{left_as, taken_at}
use Rattle.laws.proofs.Cuts.{Cut, cut-whole, cut_more}
use Rattle.laws.proofs.Refining.{Refined, cut_refined, sound_refined}

collapsed-cut : (ls : List ℕ) (zs : List ℤ) (axis index : ℕ) → axis < length ls → index < get_or ls axis 0 → length ls ≡ length zs
    → Cut ls zs (set ls axis 1) zs (pos index *ℤ get_or zs axis (pos 0)) (λ t. set t axis index)
collapsed-cut [] zs axis index a b l = absurd (omega arith)
collapsed-cut (n ∷ ls) [] axis index a b l = absurd (omega arith)
collapsed-cut (n ∷ ls) (z ∷ zs) zero index a b l =
    subst (λ (m : ℤ). Cut (n ∷ ls) (z ∷ zs) (1 ∷ ls) (z ∷ zs) m (λ t. set t 0 index)) (+ℤ_idr (pos index *ℤ z))
    (cut_more (cut-whole ls zs (omega arith)) n z 1 z (pos index *ℤ z) (λ j. index) (λ t. set t 0 index) (taken_at n z index b) (λ j ix. refl))
collapsed-cut (n ∷ ls) (z ∷ zs) (suc axis) index a b l =
    subst (λ (m : ℤ). Cut (n ∷ ls) (z ∷ zs) (n ∷ set ls axis 1) (z ∷ zs) m (λ t. set t (suc axis) index)) (+ℤ_idl (pos index *ℤ get_or zs axis (pos 0)))
    (cut_more (collapsed-cut ls zs axis index (omega arith) b (omega arith)) n z n z (pos 0) (λ j. j) (λ t. set t (suc axis) index) (left_as n z) (λ j ix. refl))

-- an axis that is not refused
pub axis_below : (s : Seen) (axis : ℕ) → axis_fault s axis ≡ None → axis < length s.lens
axis_below s axis e = ltb-true axis (length s.lens) (none_where (ltb axis (length s.lens)) _ _ e).0

module _ (s : Seen) (axis index : ℕ) (h : Sound s) (e : collapse_fault axis index s ≡ None) where
  pub collapsed_refined : Refined s (collapsed axis index s) (λ t. set t axis index)
  collapsed_refined =
      let parts = none_both (axis_fault s axis) _ e in
      let inner = none_where (ltb index (len_at s axis)) _ _ parts.1 in
      cut_refined s _ _ _ (pos index *ℤ stride_at s axis) (λ t. set t axis index) h refl (omega (arith, length-set s.lens axis 1, h.few))
      (collapsed-cut s.lens s.strides axis index (axis_below s axis parts.0) (ltb-true index (len_at s axis) inner.0) h.paired)

  pub collapsing_sound : Sound (collapsed axis index s)
  collapsing_sound = sound_refined s (collapsed axis index s) (λ t. set t axis index) collapsed_refined h
