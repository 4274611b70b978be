use Rattle.std.proofs.Common.{ℕ, ltb, List, reverse, Ok, sym, ap, ◌∙◌, arith}
use Rattle.std.proofs.lemmas.Bool.{ltb-false}
use Rattle.std.proofs.lemmas.List.{reverse-reverse}
use Rattle.laws.specs.Lengths.{product, nonzeros}
use Rattle.laws.specs.Faults.{in_rows}
use Rattle.laws.specs.Opening.{most}
use Rattle.laws.proofs.Faults.{passed, passed_with}
use Rattle.laws.proofs.Lengths.{nonzeros-reverse}
use Rattle.laws.proofs.ReshapingSizes.{product-reverse}
use Rattle.laws.proofs.Strides.{other-order}
use Rattle.dimension.proofs.strides.fortran_strides.Goals as goal

pub row_major-strides-requires-clause-fits : goal.row_major-strides-requires-clause-fits
row_major-strides-requires-clause-fits g c =
    let ws = g.D.Dimension.words c.args.dim.now in
    let fits = ltb-false most (nonzeros ws) (passed (ltb most (nonzeros ws)) (in_rows 6) c.in_ok-size.size (product ws) c.in_ok-size.ensures) in
    omega (arith, fits, nonzeros-reverse ws)

pub row_major-strides-requires-clause-size : goal.row_major-strides-requires-clause-size
row_major-strides-requires-clause-size g c =
    let ws = g.D.Dimension.words c.args.dim.now in
    passed_with (ltb most (nonzeros ws)) (in_rows 6) c.in_ok-size.size (product ws) c.in_ok-size.ensures ∙ sym (product-reverse ws)

pub returns : goal.returns
returns g c =
    let ws = g.D.Dimension.words c.args.dim.now in
    let made = g.D.Dimension.words c.row_major-strides.result.0 in
    let fits = passed (ltb most (nonzeros ws)) (in_rows 6) c.in_ok-size.size (product ws) c.in_ok-size.ensures in
    rw fits (ap (λ (xs : List ℕ). Ok xs) (sym (reverse-reverse made) ∙ ap reverse c.row_major-strides.ensures ∙ other-order ws))
