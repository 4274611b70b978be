use Rattle.dimension.specs.Rows.{listed}
use Rattle.laws.proofs.Walks.{left}
use Rattle.laws.proofs.Filling.{Going}
use Rattle.grid.specs.Layouts.{seen}
use Rattle.cells.proofs.filling.fill.Given as goal

abbrev pub invariant-loop-next : goal.invariant-loop-next
invariant-loop-next g l = Going (seen l.layout) l.value listed l.initial.cells l.cells l.next

abbrev pub decreases-loop-next : goal.decreases-loop-next
decreases-loop-next g l = left listed (seen l.layout).lens l.next
