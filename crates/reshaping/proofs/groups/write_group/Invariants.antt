use Rattle.std.proofs.Common.{◌≡◌, ◌+◌, ◌++◌, length, drop}
use Rattle.laws.specs.Strides.{signed}
use Rattle.laws.specs.ReshapingSteps.{quotients}
use Rattle.dimension.specs.Rows.{listed}
use Rattle.reshaping.proofs.groups.write_group.Given as goal

abbrev pub invariant-loop-length : goal.invariant-loop-length
invariant-loop-length l =
    (signed (listed l.out) ++ quotients l.step (drop l.length-index l.lengths) ≡ signed (listed l.initial.out) ++ quotients l.whole l.lengths)
    × (length (listed l.out) ≡ length (listed l.initial.out) + l.length-index)
