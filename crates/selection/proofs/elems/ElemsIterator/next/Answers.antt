use Rattle.std.proofs.Common.{◌≡◌, arith}
use Rattle.std.specs.List.{slice_get}
use Rattle.selection.specs.Slices.{elem_of, meant}
use Rattle.selection.specs.Walks.{elems_left}
use Rattle.selection.proofs.Walks.{first_left, goes_on}
use Rattle.selection.proofs.elems.ElemsIterator.next.Goals as goal

pub returns-clause-steps : goal.returns-clause-steps
returns-clause-steps g c =
    let h = c.in_ok-next.ensures.steps in
    let es = g.S.SliceArg.elems c.args.self.now.sel.now in
    let range = c.args.self.now.places in
    let at : meant c.elem.result ≡ slice_get es range.start = grind arith in
    rw (h.0, h.1.2) (first_left es range.start range.end c.elem.result (omega (arith, h.1.0)) at)

pub returns-clause-goes : goal.returns-clause-goes
returns-clause-goes g c = goes_on elem_of (elems_left g.S.SliceArg.elems) _ _ _ tt (returns-clause-steps g c)
