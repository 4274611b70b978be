use Rattle.std.proofs.Common.{◌+◌, length}
use Rattle.laws.specs.Strides.{signed}
use Rattle.dimension.specs.Rows.{listed}
use Rattle.reshaping.proofs.Walking.{Going}
use Rattle.reshaping.proofs.walk.reshape_dim_c.Given as goal

abbrev pub invariant-loop-from : goal.invariant-loop-from
invariant-loop-from g l = Going (g.F.Dimension.words l.fn.from) (signed (g.S.Dimension.words l.fn.strides)) (g.E.Dimension.words l.fn.to) l.from l.strides l.to (listed l.out)

abbrev pub decreases-loop-from : goal.decreases-loop-from
decreases-loop-from g l = length l.from + length l.to
