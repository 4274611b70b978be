-- Filling by a selection fills the cells of the slice, and two fillings that share no cell commute.
use Rattle.std.proofs.Common.{◌≡◌, ℕ, ◌<◌, cond, ◌≢◌, List, length, get_or, Some, None, sym, refl, ap, ◌∙◌, subst, inl, inr, arith}
use Rattle.std.proofs.lemmas.List.{same_lists}
use Rattle.std.proofs.lemmas.Bool.{cases_eq, eq-eqb, ne_eqb}
use Rattle.laws.specs.Space.{Seen, Sound}
use Rattle.laws.specs.Faults.{in_grid}
use Rattle.laws.specs.Filling.{filled, Filled}
use Rattle.laws.specs.Elements.{Elem}
use Rattle.laws.specs.Slicing.{slice_fault, sliced}
use Rattle.laws.specs.Meeting.{Shared}
use Rattle.laws.specs.Posting.{post_fault, left_or, posted, EitherOrder}
use Rattle.laws.proofs.Filling.{lies_cases, fills}
use Rattle.laws.proofs.Slicing.{slicing_sound}

module _ {X : Type 0} where
  -- ---- two grids over the same cells that share none

  module _ (a b : Seen) (v w : X) (sa : Sound a) (sb : Sound b) (same : a.cells ≡ b.cells) (free : Shared a b → ⊥) (xs : List X) (l : length xs ≡ a.cells) where
    fa : Filled a v xs (filled a v xs)
    fa = fills a v xs sa l

    fb : Filled b w xs (filled b w xs)
    fb = fills b w xs sb (l ∙ same)

    fab : Filled b w (filled a v xs) (filled b w (filled a v xs))
    fab = fills b w (filled a v xs) sb (fa.long ∙ l ∙ same)

    fba : Filled a v (filled b w xs) (filled a v (filled b w xs))
    fba = fills a v (filled b w xs) sa (fb.long ∙ l)

    at : (k : ℕ) (d : X) → k < length xs → get_or (filled b w (filled a v xs)) k d ≡ get_or (filled a v (filled b w xs)) k d
    at k d h =
        let la : k < length (filled a v xs) = omega (arith, fa.long) in
        let lb : k < length (filled b w xs) = omega (arith, fb.long) in
        elim (lies_cases a k sa.paired) [
          | inl in-a ↦ fab.miss k d (λ in_b. free (k, in-a, in_b)) ∙ fa.hit k d h in-a ∙ sym (fba.hit k d lb in-a)
          | inr out-a ↦
              elim (lies_cases b k sb.paired) [
                | inl in_b ↦ fab.hit k d la in_b ∙ sym (fb.hit k d h in_b) ∙ sym (fba.miss k d out-a)
                | inr out-b ↦ fab.miss k d out-b ∙ fa.miss k d out-a ∙ sym (fb.miss k d out-b) ∙ sym (fba.miss k d out-a)
              ]
        ]

    filled_swap : filled b w (filled a v xs) ≡ filled a v (filled b w xs)
    filled_swap =
        same_lists (filled b w (filled a v xs)) (filled a v (filled b w xs)) (fab.long ∙ fa.long ∙ sym fb.long ∙ sym fba.long)
        (λ k d h. at k d (omega (arith, fab.long, fa.long)))

  -- ---- filling by a selection that the grid accepts

  module _ (s : Seen) (sound : Sound s) where
    module _ (es : List Elem) (a : slice_fault es s.lens ≡ None) (v : X) (xs : List X) where
      posted-done : length xs ≡ s.cells → posted es s v xs ≡ filled (sliced es s) v xs
      posted-done l = ap (λ t. left_or (cond t (slice_fault es s.lens) (Some (in_grid 4))) xs (filled (sliced es s) v xs)) (eq-eqb (length xs) s.cells l) ∙ ap (λ o. left_or o xs (filled (sliced es s) v xs)) a

      posted-refused : length xs ≢ s.cells → posted es s v xs ≡ xs
      posted-refused ne = ap (λ t. left_or (cond t (slice_fault es s.lens) (Some (in_grid 4))) xs (filled (sliced es s) v xs)) (ne_eqb (length xs) s.cells ne)

      pub posting_fills : length xs ≡ s.cells → Filled (sliced es s) v xs (posted es s v xs)
      posting_fills l = subst (Filled (sliced es s) v xs) (sym (posted-done l)) (fills (sliced es s) v xs (slicing_sound s es sound a) l)

      posted-long : length (posted es s v xs) ≡ length xs
      posted-long =
          elim (cases_eq (length xs) s.cells) [
            | inl l ↦ (posting_fills l).long
            | inr ne ↦ ap length (posted-refused ne)
          ]

    module _ (es us : List Elem) (a : slice_fault es s.lens ≡ None) (b : slice_fault us s.lens ≡ None) (free : Shared (sliced es s) (sliced us s) → ⊥) (v w : X) (xs : List X) where
      in_order_lem : length xs ≡ s.cells → posted us s w (posted es s v xs) ≡ posted es s v (posted us s w xs)
      in_order_lem l =
          posted-done us b w (posted es s v xs) (posted-long es a v xs ∙ l)
          ∙ ap (filled (sliced us s) w) (posted-done es a v xs l)
          ∙ filled_swap (sliced es s) (sliced us s) v w (slicing_sound s es sound a) (slicing_sound s us sound b) refl free xs l
          ∙ ap (filled (sliced es s) v) (sym (posted-done us b w xs l))
          ∙ sym (posted-done es a v (posted us s w xs) (posted-long us b w xs ∙ l))

      neither : length xs ≢ s.cells → posted us s w (posted es s v xs) ≡ posted es s v (posted us s w xs)
      neither ne =
          ap (posted us s w) (posted-refused es a v xs ne) ∙ posted-refused us b w xs ne ∙ sym (posted-refused es a v xs ne) ∙ sym (ap (posted es s v) (posted-refused us b w xs ne))

      pub either_order : EitherOrder s es us v w xs
      either_order = record {
        second = ap (post_fault us s) (posted-long es a v xs);
        first = ap (post_fault es s) (posted-long us b w xs);
        cells = elim (cases_eq (length xs) s.cells) [ inl l ↦ in_order_lem l | inr ne ↦ neither ne ];
      }
