use Rattle.std.proofs.Common.{◌≡◌, ℕ, ◌+◌, ◌∷◌, List, length, drop, Option, sym, ap, ◌∙◌, arith}
use Rattle.std.proofs.lemmas.List.{drop-drop}
use Rattle.std.proofs.lemmas.Result.{err_from_is_err_and}
use Rattle.laws.specs.Faults.{Fault, unless}
use Rattle.laws.specs.Elements.{Elem}
use Rattle.laws.specs.Slicing.{sliced}
use Rattle.grid.specs.Layouts.{seen}
use Rattle.grid.proofs.layout.slicing.cut_elems.Goals as goal

-- what an iterator has left after its next element, which is what the list has from one place on
rest_more : (es : List Elem) (k : ℕ) (left rest : List Elem) (e : Elem) → left ≡ drop k es → left ≡ e ∷ rest → (rest ≡ drop (k + 1) es) × (drop k es ≡ e ∷ drop (k + 1) es)
rest_more es k left rest e at split =
    let next : rest ≡ drop (k + 1) es = ap (drop 1) (sym split ∙ at) ∙ drop-drop 1 k es in
    (next, sym at ∙ split ∙ ap (λ r. e ∷ r) next)

pub returns-in_err-cut_elem : goal.returns-in_err-cut_elem
returns-in_err-cut_elem g c =
    let es = g.S.SliceArg.elems c.args.sel.now in
    let i = c.loop-place.invariant in
    let more = rest_more es c.loop-place.place _ _ _ i.rest c.in-Some.ensures.steps in
    let p = err_from_is_err_and c.from_residual.result c.from_residual.ensures.1 in
    rw (p.1, p.2) (sym (ap (λ (o : Option Fault). unless o (sliced es (seen c.args.grid.now))) (c.in_err-cut_elem.ensures es i.under more.1)))

pub loop-place-preserved : goal.loop-place-preserved
loop-place-preserved g c =
    let es = g.S.SliceArg.elems c.args.sel.now in
    let i = c.loop-place.invariant in
    let more = rest_more es c.loop-place.place _ _ _ i.rest c.in-Some.ensures.steps in
    record {
      fits = omega (arith, ap length c.in-Some.ensures.steps, i.fits);
      rest = more.0;
      under = c.in_ok-cut_elem.ensures es i.under more.1;
    }
