use Rattle.std.proofs.Common.{◌≡◌, false}
use Rattle.laws.specs.Lengths.{some_below}
use Rattle.laws.specs.Strides.{signed}
use Rattle.laws.specs.Opening.{crowded}
use Rattle.grid.proofs.layout.overlap.Axes.overlap.Given as goal

abbrev pub invariant-loop-axis : goal.invariant-loop-axis
invariant-loop-axis l =
    some_below l.axis (crowded l.self.lens.now (signed l.self.strides.now)) ≡ false
