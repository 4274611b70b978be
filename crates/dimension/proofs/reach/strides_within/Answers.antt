use Rattle.std.proofs.Common.{◌∙◌, arith}
use Rattle.dimension.proofs.Rows.{within_limit}
use Rattle.dimension.proofs.reach.strides_within.Goals as goal

pub returns : goal.returns
returns g c = within_limit c.all_within.ensures (c.as_slice.ensures ∙ c.copy_of.ensures) (omega arith)
