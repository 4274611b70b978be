use Rattle.std.proofs.Common.{◌∙◌}
use Rattle.std.proofs.lemmas.Bool.{ne_eqb}
use Rattle.grid.proofs.Walking.{within_beside, other_rank}
use Rattle.grid.proofs.layout.parts.is_within.Goals as goal

pub returns-then-index-lens : goal.returns-then-index-lens
returns-then-index-lens c = c.all_below.ensures ∙ within_beside c.args.index.now c.args.lens.now c.if-index-lens.true

pub returns-else-index-lens : goal.returns-else-index-lens
returns-else-index-lens c = ne_eqb _ _ c.if-index-lens.false ∙ other_rank c.args.index.now c.args.lens.now c.if-index-lens.false
