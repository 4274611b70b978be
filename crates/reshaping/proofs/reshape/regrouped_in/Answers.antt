use Rattle.std.proofs.Common.{◌≡◌, ℕ, List, reverse, ℤ, Result, ap, ◌∙◌}
use Rattle.std.proofs.lemmas.Result.{err_from_is_err_and}
use Rattle.laws.specs.Faults.{Fault}
use Rattle.laws.specs.Strides.{signed}
use Rattle.laws.specs.Reshaping.{ColumnMajor, regrouped, regrouped_in, backward}
use Rattle.laws.proofs.ReshapingWalkReversed.{ready-reverse, signed-reverse}
use Rattle.reshaping.proofs.reshape.regrouped_in.Goals as goal

pub reshape_dim_c-requires-in-ColumnMajor : goal.reshape_dim_c-requires-in-ColumnMajor
reshape_dim_c-requires-in-ColumnMajor g c = rw signed-reverse (ready-reverse _ _ _ c.requires)

-- the answer over the rows reversed, turned back
turned : (ls ss ms : List ℕ) (r : Result (List ℤ) Fault) → r ≡ regrouped (reverse ls) (signed (reverse ss)) (reverse ms) → backward r ≡ regrouped_in ColumnMajor ls (signed ss) ms
turned ls ss ms r h = ap backward (h ∙ ap (λ x. regrouped (reverse ls) x (reverse ms)) (signed-reverse ss))

pub returns-in_err-out-in-ColumnMajor : goal.returns-in_err-out-in-ColumnMajor
returns-in_err-out-in-ColumnMajor g c =
    let p = err_from_is_err_and c.from_residual.result c.from_residual.ensures.1 in
    let is = c.in-ColumnMajor.is in
    rw (p.1, p.2, is) (turned (g.F.Dimension.words c.args.from.now) (g.S.Dimension.words c.args.strides.now) (g.E.Dimension.words c.args.to.now) _ c.in_err-out-in-ColumnMajor.ensures)

pub returns-in_ok-out-in-ColumnMajor : goal.returns-in_ok-out-in-ColumnMajor
returns-in_ok-out-in-ColumnMajor g c =
    let is = c.in-ColumnMajor.is in
    rw (c.copy_of.ensures, is, signed-reverse)
    (turned (g.F.Dimension.words c.args.from.now) (g.S.Dimension.words c.args.strides.now) (g.E.Dimension.words c.args.to.now) _ c.in_ok-out-in-ColumnMajor.ensures)
