-- Meeting is decided axis by axis, and two selections meet exactly where their slices share a cell.
use Rattle.std.proofs.Common.{◌≡◌, ℕ, suc, true, ◌&&◌, ◌↔◌, List, [], ◌∷◌, length, None, Decides, sym, refl, ap, ◌∙◌, subst, ap₂, arith}
use Rattle.std.proofs.lemmas.Bool.{and_parts, and_from, eqb-true, eq-eqb}
use Rattle.laws.specs.Tuples.{Within}
use Rattle.laws.specs.Space.{Seen, Sound, cell}
use Rattle.laws.specs.Elements.{Elem, Slice, Index, NewAxis, in_count}
use Rattle.laws.specs.Slicing.{slice_fault, sliced, sliced_lens, sliced_back}
use Rattle.laws.specs.Meeting.{Chosen, Meet, Shared, axes_of, picks, axis_meets, axes_meet, meeting}
use Rattle.laws.proofs.Zeros.{below_some, below_at}
use Rattle.laws.proofs.Cells.{cell-number}
use Rattle.laws.proofs.Refining.{Refined, cells_apart}
use Rattle.laws.proofs.Slicing.{slice_passed, sliced_refined}

-- ---- a common tuple is a common cell

module _ (s : Seen) (es us : List Elem) (h : Sound s) (a : slice_fault es s.lens ≡ None) (b : slice_fault us s.lens ≡ None) where
  p : Refined s (sliced es s) (sliced_back es s.lens)
  p = sliced_refined s es h a

  q : Refined s (sliced us s) (sliced_back us s.lens)
  q = sliced_refined s us h b

  there : Meet s.lens es us → Shared (sliced es s) (sliced us s)
  there (t, w, (i, v, e), (j, u, f)) =
      let k = cell-number s h t w in (
        k.0,
        (i, record { within = v; here = p.same_cell i v ∙ ap (cell s) e ∙ k.2 }),
        (j, record { within = u; here = q.same_cell j u ∙ ap (cell s) f ∙ k.2 }),
      )

  here : Shared (sliced es s) (sliced us s) → Meet s.lens es us
  here (k, (i, v), (j, u)) =
      let x = sliced_back es s.lens i in
      let y = sliced_back us s.lens j in
      let wx = p.within i v.within in
      let wy = q.within j u.within in
      let e : x ≡ y = cells_apart s h x y wx wy (sym (p.same_cell i v.within) ∙ v.here ∙ sym u.here ∙ q.same_cell j u.within) in
      (x, wx, (i, v.within, refl), (j, u.within, sym e))

  pub meet-shared : Meet s.lens es us ↔ Shared (sliced es s) (sliced us s)
  meet-shared = (there, here)

-- ---- a tuple is chosen where each entry is picked by the element of its axis

abbrev Picked : List Elem → List ℕ → List ℕ → Type 0
Picked [] [] [] = Unit {0}
Picked [] [] (i ∷ t) = ⊥
Picked [] (d ∷ ds) t = ⊥
Picked (x ∷ xs) [] t = ⊥
Picked (x ∷ xs) (d ∷ ds) [] = ⊥
Picked (x ∷ xs) (d ∷ ds) (i ∷ t) = (picks d x i ≡ true) × Picked xs ds t

picked : (es : List Elem) (ds u : List ℕ) → in_count es ≡ length ds → Within u (sliced_lens es ds) → Picked (axes_of es) ds (sliced_back es ds u)
picked [] [] u c w = tt
picked [] (d ∷ ds) u c w = absurd (omega arith)
picked (NewAxis ∷ es) ds [] c w = absurd w
picked (NewAxis ∷ es) ds (j ∷ u) c w = picked es ds u c w.1
picked (Slice s e p ∷ es) [] u c w = absurd (omega arith)
picked (Slice s e p ∷ es) (d ∷ ds) [] c w = absurd w
picked (Slice s e p ∷ es) (d ∷ ds) (j ∷ u) c w = (below_at _ j _ w.0 (eq-eqb _ _ refl), picked es ds u (omega arith) w.1)
picked (Index i ∷ es) [] u c w = absurd (omega arith)
picked (Index i ∷ es) (d ∷ ds) u c w = (eq-eqb _ _ refl, picked es ds u (omega arith) w)

chosen : (es : List Elem) (ds t : List ℕ) → in_count es ≡ length ds → Picked (axes_of es) ds t → Chosen ds es t
chosen [] [] [] c h = ([], tt, refl)
chosen [] [] (i ∷ t) c h = absurd h
chosen [] (d ∷ ds) t c h = absurd h
chosen (NewAxis ∷ es) ds t c h = let r = chosen es ds t c h in (0 ∷ r.0, (omega arith, r.1), r.2)
chosen (Slice s e p ∷ es) [] t c h = absurd h
chosen (Slice s e p ∷ es) (d ∷ ds) [] c h = absurd h
chosen (Slice s e p ∷ es) (d ∷ ds) (i ∷ t) c h =
    let r = chosen es ds t (omega arith) h.1 in
    let j = below_some _ _ h.0 in
    (j.0 ∷ r.0, (j.1, r.1), ap₂ ◌∷◌ (eqb-true _ _ j.2) r.2)
chosen (Index k ∷ es) [] t c h = absurd h
chosen (Index k ∷ es) (d ∷ ds) [] c h = absurd h
chosen (Index k ∷ es) (d ∷ ds) (i ∷ t) c h =
    let r = chosen es ds t (omega arith) h.1 in
    (r.0, r.1, ap₂ ◌∷◌ (eqb-true _ _ h.0) r.2)

count_axes : (es : List Elem) → length (axes_of es) ≡ in_count es
count_axes [] = refl
count_axes (NewAxis ∷ es) = count_axes es
count_axes (Slice s e p ∷ es) = ap suc (count_axes es)
count_axes (Index i ∷ es) = ap suc (count_axes es)

-- ---- some tuple is picked by both exactly where on each axis some index is

common : (xs ys : List Elem) (ds : List ℕ) → length xs ≡ length ds → length ys ≡ length ds → axes_meet xs ys ds ≡ true → (t : List ℕ) × Within t ds × Picked xs ds t × Picked ys ds t
common [] [] [] a b e = ([], tt, tt, tt)
common [] (y ∷ ys) [] a b e = absurd (omega arith)
common [] ys (d ∷ ds) a b e = absurd (omega arith)
common (x ∷ xs) [] ds a b e = absurd (omega (arith, a, b))
common (x ∷ xs) (y ∷ ys) [] a b e = absurd (omega arith)
common (x ∷ xs) (y ∷ ys) (d ∷ ds) a b e =
    let parts = and_parts (axis_meets d x y) (axes_meet xs ys ds) e in
    let i = below_some d (λ i. picks d x i && picks d y i) parts.0 in
    let p = and_parts (picks d x i.0) (picks d y i.0) i.2 in
    let r = common xs ys ds (omega arith) (omega arith) parts.1 in
    (i.0 ∷ r.0, (i.1, r.1), (p.0, r.2), (p.1, r.3))

met : (xs ys : List Elem) (ds t : List ℕ) → Within t ds → Picked xs ds t → Picked ys ds t → axes_meet xs ys ds ≡ true
met [] ys ds t w p q = refl
met (x ∷ xs) [] ds t w p q = refl
met (x ∷ xs) (y ∷ ys) [] t w p q = refl
met (x ∷ xs) (y ∷ ys) (d ∷ ds) [] w p q = absurd w
met (x ∷ xs) (y ∷ ys) (d ∷ ds) (i ∷ t) w p q =
    and_from (axis_meets d x y) (axes_meet xs ys ds)
    (below_at d i (λ i. picks d x i && picks d y i) w.0 (and_from (picks d x i) (picks d y i) p.0 q.0))
    (met xs ys ds t w.1 p.1 q.1)

pub meeting_decides : (es us : List Elem) (ds : List ℕ) → slice_fault es ds ≡ None → slice_fault us ds ≡ None → Decides (meeting es us ds) (Meet ds es us)
meeting_decides es us ds a b =
    let c = (slice_passed es ds a).0 in
    let d = (slice_passed us ds b).0 in (
      (λ e. let r = common (axes_of es) (axes_of us) ds (count_axes es ∙ c) (count_axes us ∙ d) e in (r.0, r.1, chosen es ds r.0 c r.2, chosen us ds r.0 d r.3)),
      (λ m. met (axes_of es) (axes_of us) ds m.0 m.1
          (subst (Picked (axes_of es) ds) m.2.2 (picked es ds m.2.0 c m.2.1))
          (subst (Picked (axes_of us) ds) m.3.2 (picked us ds m.3.0 d m.3.1))),
    )
