use Rattle.std.proofs.Common.{refl}
use Rattle.std.proofs.lemmas.Result.{err_from_is_err_and}
use Rattle.reshaping.specs.Reshapes.{order_of}
use Rattle.grid.proofs.Reshaping.{refused, reshape_kept}
use Rattle.grid.proofs.layout.Layout.reshape.Goals as goal

pub returns-in_err-strides : goal.returns-in_err-strides
returns-in_err-strides g c =
    let p = err_from_is_err_and c.from_residual.result c.from_residual.ensures.1 in
    record {
      answer = rw (p.1, p.2.0, p.2.1)
          (refused c.args.self.now (order_of c.args.order) (g.D.Dimension.words c.args.shape.now) c.reshape_dim.result c.reshape_dim.ensures.answer c.in_err-strides.field-0.0 c.in_err-strides.ensures);
      same = rw p.1 refl;
    }

pub invariant_of-self : goal.invariant_of-self
invariant_of-self g c =
    reshape_kept c.args.self.now (order_of c.args.order) (g.D.Dimension.words c.args.shape.now) c.reshape_dim.result c.reshape_dim.ensures.answer
    c.in_ok-strides.strides c.copy_of-self.result c.in_ok-strides.ensures c.copy_of-self.ensures
