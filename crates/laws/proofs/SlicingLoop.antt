-- Slicing as a loop over a selection's elements: what holds before each, and what each kind of element makes of it.
use Rattle.std.proofs.Common.{◌≡◌, ℕ, suc, ◌+◌, ◌-◌, ◌*◌, ◌^◌, ◌<◌, true, false, cond, T, List, [], ◌∷◌, ◌++◌, length, get_or, drop, ℤ, pos, ◌+ℤ◌, ◌*ℤ◌, ◌≤ℤ◌, Some, Option, sym, ap, ◌∙◌, subst, ap₂, add-one, arith}
use lib.IntN.{+ℤ_assoc}
use Rattle.std.proofs.lemmas.List.{append_assoc, drop_more, length-drop}
use Rattle.std.proofs.lemmas.Int.{ints}
use Rattle.laws.specs.Faults.{Fault, in_selection}
use Rattle.laws.specs.Space.{Seen, Sound, inside, plus, minus, up, down}
use Rattle.laws.specs.Elements.{Elem, Slice, Index, in_count, resolved, upper, outside, outside_index, bad_step, entries}
use Rattle.laws.specs.Slicing.{first_fault, sliced_lens, sliced_strides, sliced_move, cut_stride, cut_move}
use Rattle.laws.proofs.Axes.{move_high, move_low, index-high, index-low}
use Rattle.laws.proofs.Resolving.{index_below, range_axis}
use Rattle.laws.proofs.Limits.{start-inside}

-- before element k, with the axes before `axis` used up: the start and the axes so far
pub record Cutting (s : Seen) (es : List Elem) (k axis : ℕ) (start : ℤ) (ns : List ℕ) (ys : List ℤ) : Type 0 where
  pub lens : ns ++ sliced_lens (drop k es) (drop axis s.lens) ≡ sliced_lens es s.lens
  pub strides : ys ++ sliced_strides (drop k es) (drop axis s.lens) (drop axis s.strides) ≡ sliced_strides es s.lens s.strides
  pub moves : start +ℤ sliced_move (drop k es) (drop axis s.lens) (drop axis s.strides) ≡ s.start +ℤ sliced_move es s.lens s.strides
  pub counts : in_count (drop k es) ≡ length (drop axis s.lens)
  pub faults : first_fault k (drop k es) (drop axis s.lens) ≡ first_fault 0 es s.lens
  pub floor : pos (down (drop axis s.lens) (drop axis s.strides)) ≤ℤ start
  pub ceiling : (start +ℤ pos (up (drop axis s.lens) (drop axis s.strides))) ≤ℤ pos s.cells

-- the start so far is a word
pub cutting_word : (s : Seen) (es : List Elem) (k axis : ℕ) (start : ℤ) (ns : List ℕ) (ys : List ℤ) → Sound s → Cutting s es k axis start ns ys → T (inside (2 ^ 64) start)
cutting_word s es k axis start ns ys h g = start-inside start s.cells _ _ g.floor g.ceiling h.narrow

sink : (m a : ℤ) (p q : ℕ) → pos (p + q) ≤ℤ a → pos 0 ≤ℤ (m +ℤ pos p) → pos q ≤ℤ (a +ℤ m)
sink m a p q u w = omega (arith, ints)

rise : (m a : ℤ) (p q n : ℕ) → (a +ℤ pos (p + q)) ≤ℤ pos n → m ≤ℤ pos p → ((a +ℤ m) +ℤ pos q) ≤ℤ pos n
rise m a p q n u w = omega (arith, ints)

module _ (s : Seen) (es : List Elem) (k axis : ℕ) (start : ℤ) (ns : List ℕ) (ys : List ℤ) (paired : length s.lens ≡ length s.strides) (g : Cutting s es k axis start ns ys) where
  abbrev ds : List ℕ
  ds = drop axis s.lens

  abbrev zs : List ℤ
  zs = drop axis s.strides

  abbrev es' : List Elem
  es' = drop (k + 1) es

  -- an element that takes an axis: there is one
  pub axis_left : (n : ℕ) → in_count (drop k es) ≡ suc n → axis < length s.lens
  axis_left n e = omega (arith, g.counts, length-drop axis s.lens)

  module _ (left : axis < length s.lens) where
    abbrev d : ℕ
    d = get_or s.lens axis 0

    abbrev z : ℤ
    z = get_or s.strides axis (pos 0)

    abbrev ds' : List ℕ
    ds' = drop (axis + 1) s.lens

    abbrev zs' : List ℤ
    zs' = drop (axis + 1) s.strides

    eds : ds ≡ d ∷ ds'
    eds = drop_more s.lens axis 0 left

    ezs : zs ≡ z ∷ zs'
    ezs = drop_more s.strides axis (pos 0) (omega (arith, paired))

    floor_at : pos ((d - 1) * minus z + down ds' zs') ≤ℤ start
    floor_at = subst (λ b. pos (down (d ∷ ds') b) ≤ℤ start) ezs (subst (λ a. pos (down a zs) ≤ℤ start) eds g.floor)

    ceiling_at : (start +ℤ pos ((d - 1) * plus z + up ds' zs')) ≤ℤ pos s.cells
    ceiling_at = subst (λ b. (start +ℤ pos (up (d ∷ ds') b)) ≤ℤ pos s.cells) ezs (subst (λ a. (start +ℤ pos (up a zs)) ≤ℤ pos s.cells) eds g.ceiling)

    -- the same with the next element and the next axis taken off
    module _ (x : Elem) (e : drop k es ≡ x ∷ drop (k + 1) es) where
      faults_at : first_fault k (x ∷ es') (d ∷ ds') ≡ first_fault 0 es s.lens
      faults_at = sym (ap₂ (first_fault k) e eds) ∙ g.faults

      lens_at : ns ++ sliced_lens (x ∷ es') (d ∷ ds') ≡ sliced_lens es s.lens
      lens_at = sym (ap₂ (λ u v. ns ++ sliced_lens u v) e eds) ∙ g.lens

      strides_at : ys ++ sliced_strides (x ∷ es') (d ∷ ds') (z ∷ zs') ≡ sliced_strides es s.lens s.strides
      strides_at = sym (ap₂ (λ u v. ys ++ sliced_strides u v zs) e eds ∙ ap (λ v. ys ++ sliced_strides (x ∷ es') (d ∷ ds') v) ezs) ∙ g.strides

      moves_at : start +ℤ sliced_move (x ∷ es') (d ∷ ds') (z ∷ zs') ≡ s.start +ℤ sliced_move es s.lens s.strides
      moves_at = sym (ap₂ (λ u v. start +ℤ sliced_move u v zs) e eds ∙ ap (λ v. start +ℤ sliced_move (x ∷ es') (d ∷ ds') v) ezs) ∙ g.moves

      counts_at : in_count (x ∷ es') ≡ suc (length ds')
      counts_at = sym (ap in_count e) ∙ g.counts ∙ ap length eds

    -- a range
    module _ (a : ℤ) (b : Option ℤ) (p : ℤ) (e : drop k es ≡ Slice a b p ∷ drop (k + 1) es) where
      abbrev from : ℕ
      from = resolved d a

      abbrev to : ℕ
      to = upper d a b

      abbrev outer : Option Fault
      outer = Some (in_selection 14 (Some k))

      abbrev badly : Option Fault
      badly = Some (in_selection 15 (Some k))

      abbrev later : Option Fault
      later = first_fault (suc k) es' ds'

      pub range_outside : outside d a b ≡ true → first_fault 0 es s.lens ≡ Some (in_selection 14 (Some k))
      range_outside t = sym (faults_at (Slice a b p) e) ∙ ap (λ c. cond c outer (cond (bad_step p) badly later)) t

      pub range_step : outside d a b ≡ false → bad_step p ≡ true → first_fault 0 es s.lens ≡ Some (in_selection 15 (Some k))
      range_step f t = sym (faults_at (Slice a b p) e) ∙ ap (λ c. cond c outer (cond (bad_step p) badly later)) f ∙ ap (λ c. cond c badly later) t

      pub cutting_range : outside d a b ≡ false → bad_step p ≡ false
          → Cutting s es (k + 1) (axis + 1) (start +ℤ cut_move from to p z) (ns ++ entries from to p ∷ []) (ys ++ cut_stride from to p z ∷ [])
      cutting_range f t =
          let x = Slice a b p in
          let c = counts_at x e in
          let cut = range_axis d a b p z f t in
          record {
            lens = append_assoc ns (entries from to p ∷ []) (sliced_lens es' ds') ∙ lens_at x e;
            strides = append_assoc ys (cut_stride from to p z ∷ []) (sliced_strides es' ds' zs') ∙ strides_at x e;
            moves = +ℤ_assoc start (cut_move from to p z) (sliced_move es' ds' zs') ∙ moves_at x e;
            counts = omega arith;
            faults = ap (λ m. first_fault m es' ds') (add-one k) ∙ sym (ap (λ c. cond c outer (cond (bad_step p) badly later)) f ∙ ap (λ c. cond c badly later) t) ∙ faults_at x e;
            floor = sink (cut_move from to p z) start ((d - 1) * minus z) (down ds' zs') floor_at (move_low d z _ _ _ _ cut);
            ceiling = rise (cut_move from to p z) start ((d - 1) * plus z) (up ds' zs') s.cells ceiling_at (move_high d z _ _ _ _ cut);
          }

    -- an index
    module _ (i : ℤ) (e : drop k es ≡ Index i ∷ drop (k + 1) es) where
      abbrev beyond : Option Fault
      beyond = Some (in_selection 14 (Some k))

      pub index-outside : outside_index d i ≡ true → first_fault 0 es s.lens ≡ Some (in_selection 14 (Some k))
      index-outside t = sym (faults_at (Index i) e) ∙ ap (λ c. cond c beyond (first_fault (suc k) es' ds')) t

      pub cutting-index : outside_index d i ≡ false → Cutting s es (k + 1) (axis + 1) (start +ℤ pos (resolved d i) *ℤ z) ns ys
      cutting-index f =
          let x = Index i in
          let c = counts_at x e in
          record {
            lens = lens_at x e;
            strides = strides_at x e;
            moves = +ℤ_assoc start (pos (resolved d i) *ℤ z) (sliced_move es' ds' zs') ∙ moves_at x e;
            counts = omega arith;
            faults = ap (λ m. first_fault m es' ds') (add-one k) ∙ sym (ap (λ c. cond c beyond (first_fault (suc k) es' ds')) f) ∙ faults_at x e;
            floor = sink (pos (resolved d i) *ℤ z) start ((d - 1) * minus z) (down ds' zs') floor_at (index-low (resolved d i) d z (index_below d i f));
            ceiling = rise (pos (resolved d i) *ℤ z) start ((d - 1) * plus z) (up ds' zs') s.cells ceiling_at (index-high (resolved d i) d z (index_below d i f));
          }
