use Rattle.std.proofs.Common.{ℕ, ap, ◌∙◌}
use Rattle.laws.specs.Strides.{signed}
use Rattle.dimension.specs.Rows.{zeros}
use Rattle.reshaping.proofs.Guards.{ready, none}
use Rattle.reshaping.proofs.reshape.reshape_dim.Goals as goal

pub returns-then-size-eq0 : goal.returns-then-size-eq0
returns-then-size-eq0 g c = record {
  answer = none _ _ (signed (g.S.Dimension.words c.args.strides.now)) _ c.in_ok-size.size _ c.if-not-gridlike.ensures c.in_ok-size.ensures c.if-size-eq0.true
      (c.zeros.ensures ∙ ap (λ (n : ℕ). zeros n) c.ndim.ensures);
}

pub regrouped_in-requires : goal.regrouped_in-requires
regrouped_in-requires g c = ready _ _ _ c.in_ok-size.size c.if-not-gridlike.ensures c.in_ok-size.ensures c.if-size-eq0.false
