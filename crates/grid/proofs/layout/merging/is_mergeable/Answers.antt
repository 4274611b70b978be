use Rattle.std.proofs.Common.{◌∙◌}
use Rattle.grid.proofs.Merging.{by_strides}
use Rattle.grid.proofs.layout.merging.is_mergeable.Goals as goal

pub returns : goal.returns
returns c =
    c.in_step.ensures
    ∙ by_strides c.args.grid.now c.args.take c.args.into c.word_at.result c.word_at-length.result c.word_at-stride.result c.word_at-2.result
    c.word_at.ensures c.word_at-length.ensures c.word_at-stride.ensures c.word_at-2.ensures c.if-word_at-le1.false c.if-length-le1.false c.if-take-into.false
