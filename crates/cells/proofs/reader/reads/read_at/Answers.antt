use Rattle.std.proofs.Common.{ap, ◌∙◌, arith}
use Rattle.laws.specs.Filling.{held}
use Rattle.cells.proofs.Reading.{at_within, read_some, read_means}
use Rattle.cells.proofs.reader.reads.read_at.Goals as goal

pub offset_bounds-cells-at : goal.offset_bounds-cells-at
offset_bounds-cells-at g c = omega (arith, at_within c.args.layout.now c.args.cells.now c.args.index.now c.requires c.in_ok-at.at c.in_ok-at.ensures)

pub bounds-cells-at : goal.bounds-cells-at
bounds-cells-at g c = at_within c.args.layout.now c.args.cells.now c.args.index.now c.requires c.in_ok-at.at c.in_ok-at.ensures

pub returns : goal.returns
returns g c =
    let is = read_some c.args.layout.now c.args.cells.now c.args.index.now c.requires c.in_ok-at.at c.index-cells-at.result c.in_ok-at.ensures c.index-cells-at.is in
    record { answer = is; law = read_means c.args.layout.now c.args.cells.now c.args.index.now c.requires _ is }

pub returns-in_err-at : goal.returns-in_err-at
returns-in_err-at g c =
    let is = c.from_residual.ensures ∙ ap (held c.args.cells.now) c.in_err-at.ensures in
    record { answer = is; law = read_means c.args.layout.now c.args.cells.now c.args.index.now c.requires _ is }
