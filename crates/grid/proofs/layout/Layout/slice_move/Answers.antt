use Rattle.grid.specs.declared.error.GridCall.TheVariants.{Slice}
use Rattle.grid.specs.Slicing.{leaving}
use Rattle.grid.proofs.Errors.{took}
use Rattle.grid.proofs.Slicing.{slice_kept}
use Rattle.grid.proofs.layout.Layout.slice_move.Goals as goal

pub invariant_of-result : goal.invariant_of-result
invariant_of-result g c =
    let l = c.args.self.now in
    slice_kept l (g.S.SliceArg.elems c.args.sel.now) c.in_ok-cut.cut c.in_ok-at_call.field-0
    (took (λ u. u) Slice _ c.check_counts.result c.in_ok-at_call.field-0 c.in_ok-at_call.ensures c.check_counts.ensures)
    (took (leaving l.cells) Slice _ c.cut_elems.result c.in_ok-cut.cut c.in_ok-cut.ensures c.cut_elems.ensures)
