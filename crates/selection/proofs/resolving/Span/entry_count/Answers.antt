use Rattle.std.proofs.Common.{arith}
use Rattle.std.proofs.lemmas.Grind.{common_steps}
use Rattle.laws.proofs.Selections.{rounds_up}
use Rattle.selection.proofs.resolving.Span.entry_count.Goals as goal

pub returns : goal.returns
returns c = grind (arith, common_steps, rounds_up c.saturating_sub.result c.unsigned_abs-size.result (omega arith))
