use Rattle.std.proofs.Common.{◌≡◌, ◌+◌, drop}
use Rattle.laws.specs.Lengths.{product}
use Rattle.laws.specs.Tuples.{Within, place}
use Rattle.cells.proofs.walk.next_for.Given as goal

-- one step of the axis before is all that is missing
abbrev pub invariant-loop-axis : goal.invariant-loop-axis
invariant-loop-axis g l =
    let ls = g.D.Dimension.words l.dim in
    let ix = g.D.Dimension.words l.index in
    Within ix ls × (place ix ls + product (drop l.axis ls) ≡ place (g.D.Dimension.words l.initial.index) ls + 1)
