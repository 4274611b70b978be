use Rattle.std.proofs.Common.{◌≡◌, ◌+◌, ◌<◌, ◌^◌, length, drop}
use Rattle.laws.specs.Elements.{in_count}
use Rattle.laws.specs.Slicing.{first_fault}
use Rattle.selection.specs.Walks.{elems_left}
use Rattle.selection.proofs.slicing.first_fault.Given as goal

abbrev pub invariant-loop-place : goal.invariant-loop-place
invariant-loop-place g l =
    let left = elems_left g.S.SliceArg.elems l.elem-iterator in
    let ws = g.D.Dimension.words l.lens in record {
      fits : l.place + length left < 2 ^ 64;
      counts : l.axis + in_count left ≡ length ws;
      faults : first_fault l.place left (drop l.axis ws) ≡ first_fault 0 (g.S.SliceArg.elems l.sel) ws;
    }
