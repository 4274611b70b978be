use Rattle.std.proofs.Common.{◌≡◌, ◌+◌, ◌<◌, ◌^◌, length, drop}
use Rattle.selection.specs.Walks.{elems_left}
use Rattle.grid.specs.Layouts.{seen}
use Rattle.grid.specs.Slicing.{Under}
use Rattle.grid.proofs.layout.slicing.cut_elems.Given as goal

abbrev pub invariant-loop-place : goal.invariant-loop-place
invariant-loop-place g l =
    let es = g.S.SliceArg.elems l.sel in
    let left = elems_left g.S.SliceArg.elems l.elem-iterator in record {
      fits : l.place + length left < 2 ^ 64;
      rest : left ≡ drop l.place es;
      under : Under (seen l.grid) es l.place l.cut;
    }
