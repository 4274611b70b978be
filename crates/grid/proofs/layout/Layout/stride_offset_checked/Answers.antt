use Rattle.std.proofs.Common.{rules, ◌≡◌, true, pos, sym, ap, ◌∙◌, arith}
use Rattle.laws.specs.Tuples.{is_within}
use Rattle.laws.proofs.Tuples.{is_within_lem}
use Rattle.laws.proofs.Filling.{cell_at_within}
use Rattle.dimension.specs.Rows.{listed}
use Rattle.grid.specs.Layouts.{seen}
use Rattle.grid.proofs.layout.Layout.stride_offset_checked.Goals as goal

pub returns : goal.returns
returns c =
    let s = c.args.self.now in
    let ix = c.args.index.now in
    let test : is_within ix (listed s.lens) ≡ true = search rules in
    let w = is_within_lem ix (listed s.lens) test in
    sym (cell_at_within (seen s) ix _ w (c.stride_offset.ensures.here w ∙ ap pos (omega arith)))
