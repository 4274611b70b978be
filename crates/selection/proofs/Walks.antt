-- The elements of a selection, as an iterator gives them.
use Rattle.std.proofs.Common.{◌≡◌, ℕ, ◌+◌, ◌<◌, ◌≤◌, List, [], ◌∷◌, length, take, drop, inl, inr, Some, None, Option, MatchOption, sym, ap, ◌∙◌, arith}
use Rattle.std.specs.List.{slice_get}
use Rattle.std.proofs.lemmas.List.{drop_all, length-take, get_or-take}
use Rattle.std.proofs.lemmas.Option.{slice_get-get_or, slice_get_cases, slice_get_within}
use Rattle.std.specs.Iterator.{YieldsFirstBy, MakesProgress, item_count}
use Rattle.laws.specs.Elements.{Elem, NewAxis}
use Rattle.laws.proofs.Selections.{drop_at, never_past}
use Rattle.selection.specs.declared.slice.SliceInfoElem.{SliceInfoElem}
use Rattle.selection.specs.Slices.{elem_of, meant}

-- the element at place a is the first of those from there up to place b
pub first_left : (es : List Elem) (a b : ℕ) (r : Option SliceInfoElem) → a < b → meant r ≡ slice_get es a
    → MatchOption r ((drop a (take b es) ≡ []) × (drop (a + 1) (take b es) ≡ [])) (λ x. drop a (take b es) ≡ elem_of x ∷ drop (a + 1) (take b es))
first_left es a b None h e =
    let short = length-take b es in
    let past : length es ≤ a = elim (slice_get_cases es a).1 [
      | inl p ↦ absurd (never_past es a NewAxis p.1 e)
      | inr p ↦ p.0
    ] in
    (drop_all a (take b es) (omega arith), drop_all (a + 1) (take b es) (omega arith))
first_left es a b (Some x) h e =
    let within = slice_get_within es a (elem_of x) (sym e) in
    let short = length-take b es in
    let at : Some (elem_of x) ≡ slice_get (take b es) a =
    e ∙ slice_get-get_or es a NewAxis within ∙ ap Some (sym (get_or-take b es a NewAxis h)) ∙ sym (slice_get-get_or (take b es) a NewAxis (omega arith)) in
    drop_at (take b es) a (elem_of x) (omega arith) at

-- an iterator that gives the first of what is left goes on to its end
pub goes_on : {S A B : Type 0} {can : S → Type 0} (v : A → B) (rest : S → List B) (s : S) (r : Option A) (t : S)
    → can t → YieldsFirstBy v rest s r t → MakesProgress can (item_count rest) s r t
goes_on v rest s None t may y = record { on = λ _. tt; keeps = tt; rests = λ _. tt }
goes_on v rest s (Some x) t may y = record { on = λ _. (may, tt, omega (arith, ap length y)); keeps = may; rests = λ _. tt }
