-- One element more of a slice under way.
use Rattle.std.proofs.Common.{◌≡◌, ℕ, suc, ◌+◌, ◌^◌, ◌<◌, ◌≤◌, Bool, true, false, cond, not, T, eqb, ltb, leb, List, [], ◌∷◌, ◌++◌, length, get_or, drop, ℤ, pos, ◌+ℤ◌, ◌*ℤ◌, nat_abs, Some, None, Ok, Err, Option, Result, sym, refl, ap, ◌∙◌, subst, inl, inr, arith, w64, to_z}
use Rattle.std.proofs.lemmas.List.{length-append}
use Rattle.std.proofs.lemmas.Bool.{lt-ltb, cases_Bool, not-false, true≢false, false≢true}
use Rattle.laws.specs.Strides.{signed}
use Rattle.laws.specs.Faults.{Fault, in_selection, refuse, unless}
use Rattle.laws.specs.Space.{Seen, Sound, inside}
use Rattle.laws.specs.Elements.{Elem, Slice, Index, out_count, in_count, resolved, upper, outside, outside_index, bad_step, entries}
use Rattle.laws.specs.Slicing.{first_fault, slice_fault, cut_move, cut_stride, sliced}
use Rattle.laws.proofs.Faults.{passed_on}
use Rattle.laws.proofs.Lists.{get_or-within}
use Rattle.laws.proofs.Limits.{stride_small}
use Rattle.laws.proofs.Resolving.{entries-few}
use Rattle.laws.proofs.Words.{length-signed, stride_read}
use Rattle.laws.proofs.Slicing.{slicing_sound}
use Rattle.laws.proofs.SlicingLoop.{Cutting, cutting_word, cutting_range, cutting-index, axis_left, range_outside, range_step, index-outside}
use Rattle.dimension.specs.declared.dynindeximpl.IxDyn.{IxDyn}
use Rattle.dimension.specs.Rows.{listed, pushed}
use Rattle.selection.specs.Resolving.{ranged, indexed, Bounded}
use Rattle.grid.specs.declared.layout.Layout.{Layout}
use Rattle.grid.specs.declared.layout.slicing.Cut.{Cut}
use Rattle.grid.specs.Layouts.{seen}
use Rattle.grid.specs.Slicing.{Under, leaving}
use Rattle.grid.proofs.Layouts.{sound, Kept, kept}

-- ---- a row with one word more

push_room : (ws : List ℕ) (w : ℕ) → length ws < 8 → pushed ws w ≡ ws ++ w ∷ []
push_room ws w h = ap (λ (b : Bool). cond b (ws ++ w ∷ []) ws) (lt-ltb (length ws) 8 h)

signed_push : (ws : List ℕ) (w : ℕ) → signed (ws ++ w ∷ []) ≡ signed ws ++ to_z w64 w ∷ []
signed_push [] w = refl
signed_push (v ∷ ws) w = ap (λ (zs : List ℤ). to_z w64 v ∷ zs) (signed_push ws w)

-- ---- what a range or an index answers

range_taken : (k d : ℕ) (a : ℤ) (b : Option ℤ) (p : ℤ) (ends : ℕ × ℕ) → Ok ends ≡ ranged k d a b p → (outside d a b ≡ false) × (bad_step p ≡ false) × (ends ≡ (resolved d a, upper d a b))
range_taken k d a b p ends e =
    let inner = passed_on (outside d a b) _ ends _ e in
    let step = passed_on (bad_step p) _ ends _ inner.1 in
    let is = step.1 in
    (inner.0, step.0, cc)

index-taken : (k d : ℕ) (i : ℤ) (at : ℕ) → Ok at ≡ indexed k d i → (outside_index d i ≡ false) × (at ≡ resolved d i)
index-taken k d i at e =
    let inner = passed_on (outside_index d i) _ at _ e in
    let is = inner.1 in
    (inner.0, cc)

err_now : {A : Type 0} (b : Bool) (g f : Fault) (r : Result A Fault) → b ≡ true → Err f ≡ refuse b g r → g ≡ f
err_now true g f r t e = cc
err_now false g f r t e = absurd (false≢true t)

err_later : {A : Type 0} (b : Bool) (g f : Fault) (r : Result A Fault) → b ≡ false → Err f ≡ refuse b g r → Err f ≡ r
err_later true g f r t e = absurd (true≢false t)
err_later false g f r t e = e

err_never : {A : Type 0} (f : Fault) (x : A) → ◌≡◌ {A = Result A Fault} (Err f) (Ok x) → ⊥
err_never f x e = let z : ◌≡◌ {A = ℕ} 0 1 = cc in omega arith

-- ---- before element k

module _ (l : Layout) (es : List Elem) (k : ℕ) (c : Cut) (u : Under (seen l) es k c) where
  abbrev s : Seen
  s = seen l

  abbrev now_at : (axis : ℕ) (start : ℤ) → List ℕ → List ℤ → Type 0
  now_at axis start ns ys = Cutting s es (k + 1) axis start ns ys

  -- the same slice by other names for its parts
  renamed : (n : Cut) (axis : ℕ) (start : ℤ) (ns : List ℕ) (ys : List ℤ) → n.axis ≡ axis → pos n.start ≡ start → listed n.lens ≡ ns → signed (listed n.strides) ≡ ys
      → now_at axis start ns ys → now_at n.axis (pos n.start) (listed n.lens) (signed (listed n.strides))
  renamed n axis start ns ys p q r t g =
      subst (λ (x : ℕ). now_at x (pos n.start) (listed n.lens) (signed (listed n.strides))) (sym p)
      (subst (λ (x : ℤ). now_at axis x (listed n.lens) (signed (listed n.strides))) (sym q)
      (subst (λ (x : List ℕ). now_at axis start x (signed (listed n.strides))) (sym r)
      (subst (λ (x : List ℤ). now_at axis start ns x) (sym t) g)))

  -- an element that leaves an axis
  module _ (e : Elem) (split : drop k es ≡ e ∷ drop (k + 1) es) (leaves : out_count (e ∷ drop (k + 1) es) ≡ suc (out_count (drop (k + 1) es))) (n : Cut) (m w : ℕ)
      (lens-is : listed n.lens ≡ pushed (listed c.lens) m) (strides-is : listed n.strides ≡ pushed (listed c.strides) w) where
    outs : out_count (drop k es) ≡ suc (out_count (drop (k + 1) es))
    outs = ap out_count split ∙ leaves

    lens-on : listed n.lens ≡ listed c.lens ++ m ∷ []
    lens-on = lens-is ∙ push_room (listed c.lens) m (omega (arith, outs, u.room))

    strides-on : listed n.strides ≡ listed c.strides ++ w ∷ []
    strides-on = strides-is ∙ push_room (listed c.strides) w (omega (arith, outs, u.room, u.paired))

    room-on : length (listed n.lens) + out_count (drop (k + 1) es) ≤ 8
    room-on = omega (arith, outs, u.room, ap length lens-on, length-append (listed c.lens) (m ∷ []))

    paired-on : length (listed n.strides) ≡ length (listed n.lens)
    paired-on = omega (arith, u.paired, ap length lens-on, length-append (listed c.lens) (m ∷ []), ap length strides-on, length-append (listed c.strides) (w ∷ []))

    under_axis : (axis : ℕ) (start : ℤ) (y : ℤ) → n.axis ≡ axis → pos n.start ≡ start → to_z w64 w ≡ y → axis ≤ length s.lens
        → now_at axis start (listed c.lens ++ m ∷ []) (signed (listed c.strides) ++ y ∷ []) → Under s es (k + 1) n
    under_axis axis start y p q t within g = record {
      cutting = renamed n axis start (listed c.lens ++ m ∷ []) (signed (listed c.strides) ++ y ∷ []) p q lens-on
          (ap signed strides-on ∙ signed_push (listed c.strides) w ∙ ap (λ (z : ℤ). signed (listed c.strides) ++ z ∷ []) t) g;
      within = omega arith;
      room = room-on;
      paired = paired-on;
    }

  -- the next axis, as code reads it
  module _ (d w : ℕ) (d-is : d ≡ get_or (listed l.lens) c.axis 0) (w-is : w ≡ get_or (listed l.strides) c.axis 0) where
    abbrev z : ℤ
    z = get_or s.strides c.axis (pos 0)

    abbrev len : ℕ
    len = get_or (listed l.lens) c.axis 0

    abbrev left_at : (m : ℕ) → in_count (drop k es) ≡ suc m → c.axis < length s.lens
    left_at m h = axis_left s es k c.axis (pos c.start) (listed c.lens) (signed (listed c.strides)) l.paired u.cutting m h

    stride_is : c.axis < length s.lens → to_z w64 w ≡ z
    stride_is h = stride_read (listed l.strides) c.axis w (omega (arith, l.paired, length-signed (listed l.strides))) w-is

    -- a range
    module _ (a : ℤ) (b : Option ℤ) (p : ℤ) (split : drop k es ≡ Slice a b p ∷ drop (k + 1) es) where
      left : c.axis < length s.lens
      left = left_at (in_count (drop (k + 1) es)) (ap in_count split)

      pub under_range : (from to : ℕ) → Ok (from, to) ≡ ranged k d a b p → (n : Cut) (m y : ℕ) → n.axis ≡ c.axis + 1
          → (T (inside (2 ^ 64) (pos c.start +ℤ cut_move from to p (to_z w64 w))) → pos n.start ≡ pos c.start +ℤ cut_move from to p (to_z w64 w))
          → m ≡ entries from to p → to_z w64 y ≡ cond (leb m 1) (pos 0) (to_z w64 w *ℤ p)
          → listed n.lens ≡ pushed (listed c.lens) m → listed n.strides ≡ pushed (listed c.strides) y → Under s es (k + 1) n
      under_range from to told n m y axis-is law m-is y-is lens-is strides-is =
          let t = range_taken k len a b p (from, to) (subst (λ (i : ℕ). Ok (from, to) ≡ ranged k i a b p) d-is told) in
          let x = resolved len a in
          let top = upper len a b in
          let g = cutting_range s es k c.axis (pos c.start) (listed c.lens) (signed (listed c.strides)) l.paired u.cutting left a b p split t.0 t.1 in
          let move-is : cut_move from to p (to_z w64 w) ≡ cut_move x top p z =
          ap (λ (q : ℕ × ℕ). cut_move q.0 q.1 p (to_z w64 w)) t.2 ∙ ap (cut_move x top p) (stride_is left) in
          let word = cutting_word s es (k + 1) (c.axis + 1) (pos c.start +ℤ cut_move x top p z) (listed c.lens ++ entries x top p ∷ []) (signed (listed c.strides) ++ cut_stride x top p z ∷ []) (sound l) g in
          let start_is : pos n.start ≡ pos c.start +ℤ cut_move x top p z =
          law (subst (λ (v : ℤ). T (inside (2 ^ 64) (pos c.start +ℤ v))) (sym move-is) word) ∙ ap (λ (v : ℤ). pos c.start +ℤ v) move-is in
          let count-is : m ≡ entries x top p = m-is ∙ ap (λ (q : ℕ × ℕ). entries q.0 q.1 p) t.2 in
          let y-on : to_z w64 y ≡ cut_stride x top p z =
          y-is ∙ ap (λ (i : ℕ). cond (leb i 1) (pos 0) (to_z w64 w *ℤ p)) count-is ∙ ap (λ (v : ℤ). cond (leb (entries x top p) 1) (pos 0) (v *ℤ p)) (stride_is left) in
          under_axis (Slice a b p) split refl n (entries x top p) y (lens-is ∙ ap (pushed (listed c.lens)) count-is) strides-is
          (c.axis + 1) (pos c.start +ℤ cut_move x top p z) (cut_stride x top p z) axis-is start_is y-on (omega (arith, left)) g

      pub range_refused : (f : Fault) → Err f ≡ ranged k d a b p → first_fault 0 es s.lens ≡ Some f
      range_refused f told =
          let e = subst (λ (i : ℕ). Err f ≡ ranged k i a b p) d-is told in
          elim (cases_Bool (outside len a b)) [
            | inl t ↦ range_outside s es k c.axis (pos c.start) (listed c.lens) (signed (listed c.strides)) l.paired u.cutting left a b p split t ∙ ap Some (err_now (outside len a b) _ f _ t e)
            | inr o ↦
                let e' = err_later (outside len a b) _ f _ o e in
                elim (cases_Bool (bad_step p)) [
                  | inl t ↦ range_step s es k c.axis (pos c.start) (listed c.lens) (signed (listed c.strides)) l.paired u.cutting left a b p split o t ∙ ap Some (err_now (bad_step p) _ f _ t e')
                  | inr q ↦ absurd (err_never f _ (err_later (bad_step p) _ f _ q e'))
                ]
          ]

    module _ (i : ℤ) (split : drop k es ≡ Index i ∷ drop (k + 1) es) where
      left_index : c.axis < length s.lens
      left_index = left_at (in_count (drop (k + 1) es)) (ap in_count split)

      pub under_index : (at : ℕ) → Ok at ≡ indexed k d i → (n : Cut) → n.axis ≡ c.axis + 1
          → (T (inside (2 ^ 64) (pos c.start +ℤ pos at *ℤ to_z w64 w)) → pos n.start ≡ pos c.start +ℤ pos at *ℤ to_z w64 w)
          → n.lens ≡ c.lens → n.strides ≡ c.strides → Under s es (k + 1) n
      under_index at told n axis-is law lens-is strides-is =
          let t = index-taken k len i at (subst (λ (j : ℕ). Ok at ≡ indexed k j i) d-is told) in
          let x = resolved len i in
          let g = cutting-index s es k c.axis (pos c.start) (listed c.lens) (signed (listed c.strides)) l.paired u.cutting left_index i split t.0 in
          let move-is : pos at *ℤ to_z w64 w ≡ pos x *ℤ z = ap (λ (j : ℕ). pos j *ℤ to_z w64 w) t.1 ∙ ap (λ (v : ℤ). pos x *ℤ v) (stride_is left_index) in
          let word = cutting_word s es (k + 1) (c.axis + 1) (pos c.start +ℤ pos x *ℤ z) (listed c.lens) (signed (listed c.strides)) (sound l) g in
          let start_is : pos n.start ≡ pos c.start +ℤ pos x *ℤ z =
          law (subst (λ (v : ℤ). T (inside (2 ^ 64) (pos c.start +ℤ v))) (sym move-is) word) ∙ ap (λ (v : ℤ). pos c.start +ℤ v) move-is in
          record {
            cutting = renamed n (c.axis + 1) (pos c.start +ℤ pos x *ℤ z) (listed c.lens) (signed (listed c.strides)) axis-is start_is (ap listed lens-is) (ap (λ (r : IxDyn). signed (listed r)) strides-is) g;
            within = omega (arith, left_index, axis-is);
            room = omega (arith, u.room, ap out_count split, ap (λ (r : IxDyn). length (listed r)) lens-is);
            paired = ap (λ (r : IxDyn). length (listed r)) strides-is ∙ u.paired ∙ sym (ap (λ (r : IxDyn). length (listed r)) lens-is);
          }

      pub index-refused : (f : Fault) → Err f ≡ indexed k d i → first_fault 0 es s.lens ≡ Some f
      index-refused f told =
          let e = subst (λ (j : ℕ). Err f ≡ indexed k j i) d-is told in
          elim (cases_Bool (outside_index len i)) [
            | inl t ↦ index-outside s es k c.axis (pos c.start) (listed c.lens) (signed (listed c.strides)) l.paired u.cutting left_index i split t ∙ ap Some (err_now (outside_index len i) _ f _ t e)
            | inr o ↦ absurd (err_never f _ (err_later (outside_index len i) _ f _ o e))
          ]

-- ---- a stride that is multiplied is that of an axis longer than 1

pub stride_fits : (l : Layout) (axis d w m from to : ℕ) (p : ℤ) → d ≡ get_or (listed l.lens) axis 0 → w ≡ get_or (listed l.strides) axis 0 → Bounded d p from to → m ≡ entries from to p → 1 < m → nat_abs (to_z w64 w) ≤ 1048576
stride_fits l axis d w m from to p d-is w-is b m-is many =
    let few = entries-few from to p b.moves in
    let far = b.within in
    let long : 1 < get_or (listed l.lens) axis 0 = omega arith in
    let here = get_or-within (listed l.lens) axis (omega arith) in
    let read = stride_read (listed l.strides) axis w (omega (arith, l.paired, length-signed (listed l.strides))) w-is in
    subst (λ (v : ℤ). nat_abs v ≤ 1048576) (sym read) (stride_small (seen l) axis (sound l) long)

-- ---- the layout after it

unless_passed : {A : Type 0} (o : Option Fault) (x y : A) → Ok x ≡ unless o y → (o ≡ None) × (x ≡ y)
unless_passed (Some f) x y e = let z : ◌≡◌ {A = ℕ} 0 1 = cc in absurd (omega arith)
unless_passed None x y e = (refl, cc)

module _ (l : Layout) (es : List Elem) (c : Cut) (u : Unit {0})
    (counted : Ok u ≡ refuse (not (eqb (in_count es) (length (seen l).lens))) (in_selection 13 None) (refuse (ltb 8 (out_count es)) (in_selection 11 None) (Ok tt)))
    (done : Ok (leaving l.cells c) ≡ unless (first_fault 0 es (seen l).lens) (sliced es (seen l))) where
  slice-accepted : slice_fault es (seen l).lens ≡ None
  slice-accepted =
      let takes = passed_on (not (eqb (in_count es) (length (seen l).lens))) _ u _ counted in
      let leaves = passed_on (ltb 8 (out_count es)) _ u _ takes.1 in
      let same : eqb (in_count es) (length (seen l).lens) ≡ true = not-false _ takes.0 in
      let few : ltb 8 (out_count es) ≡ false = leaves.0 in
      rw (same, few) (unless_passed (first_fault 0 es (seen l).lens) _ _ done).0

  pub slice_kept : Kept l.cells c.start (listed c.lens) (signed (listed c.strides))
  slice_kept =
      kept l.cells c.start (listed c.lens) (signed (listed c.strides))
      (subst Sound (sym (unless_passed (first_fault 0 es (seen l).lens) _ _ done).1) (slicing_sound (seen l) es (sound l) slice-accepted))
