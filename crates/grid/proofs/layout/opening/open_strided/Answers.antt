use Rattle.std.proofs.Common.{◌≤◌, length}
use Rattle.laws.specs.Strides.{signed}
use Rattle.laws.specs.Opening.{fresh, strided}
use Rattle.laws.proofs.Opened.{strided_opened}
use Rattle.dimension.specs.Rows.{listed, listed_owed}
use Rattle.grid.specs.declared.error.GridCall.TheVariants.{Open}
use Rattle.grid.proofs.Errors.{called}
use Rattle.grid.proofs.Layouts.{kept}
use Rattle.grid.proofs.layout.opening.open_strided.Goals as goal

pub invariant_of-result : goal.invariant_of-result
invariant_of-result g c =
    let cells = c.args.cells in
    let ls = listed c.copy_of-lens.result in
    let zs = signed (listed c.copy_of-strides.result) in
    let few : length ls ≤ 8 = (listed_owed c.copy_of-lens.result).few in
    let opened = called Open (fresh cells ls zs) (strided cells c.args.size ls zs) c.in_ok-can_index_slice.ensures in
    kept cells 0 ls zs (strided_opened cells c.args.size ls zs (fresh cells ls zs) few opened)
