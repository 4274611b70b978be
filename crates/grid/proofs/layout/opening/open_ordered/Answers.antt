use Rattle.std.proofs.Common.{◌≡◌, ℕ, ◌≤◌, false, ltb, List, map, length, ℤ, pos, Ok, sym, ap, ◌∙◌, subst, ap₂, arith}
use Rattle.std.proofs.lemmas.Bool.{le-ltb}
use Rattle.laws.specs.Lengths.{product, nonzeros}
use Rattle.laws.specs.Faults.{in_rows}
use Rattle.laws.specs.Strides.{signed}
use Rattle.laws.specs.Space.{Seen, Sound}
use Rattle.laws.specs.Opening.{most, fresh}
use Rattle.dimension.specs.Rows.{listed}
use Rattle.grid.specs.declared.error.GridCall.TheVariants.{Open}
use Rattle.grid.specs.Layouts.{in_order, shaped}
use Rattle.grid.proofs.Errors.{went_on, took_rows}
use Rattle.grid.proofs.Layouts.{kept}
use Rattle.grid.proofs.Opening.{ordered_sound, signed-order, shape_passed}
use Rattle.grid.proofs.layout.opening.open_ordered.Goals as goal

pub invariant_of-result : goal.invariant_of-result
invariant_of-result g c =
    let cells = c.args.cells in
    let ls = g.D.Dimension.words c.args.dim.now in
    let few : length ls ≤ 8 = (g.D.Dimension.owed c.args.dim.now).few in
    let told = took_rows (λ n. n) Open (shaped cells ls) c.check_shape.result c.in_ok-size.size c.in_ok-size.ensures c.check_shape.ensures in
    let passed = shape_passed cells ls c.in_ok-size.size told in
    let narrow = passed.0 in
    let small = passed.2 in
    let size = passed.3 in
    let row = (went_on listed Open (ltb most (nonzeros (listed c.copy_of-lens.result))) (in_rows 6) (in_order c.args.order (listed c.copy_of-lens.result)) c.strides_in.result c.in_ok-strides.strides c.in_ok-strides.ensures c.strides_in.ensures).1 in
    let zs : signed (listed c.in_ok-strides.strides) ≡ map pos (in_order c.args.order ls) =
    ap signed (row ∙ ap (in_order c.args.order) c.copy_of-lens.ensures) ∙ signed-order c.args.order ls small in
    let sound = ordered_sound c.args.order cells ls few narrow small (omega arith) in
    kept cells 0 (listed c.copy_of-lens.result) (signed (listed c.in_ok-strides.strides))
    (subst (λ (xs : List ℕ). Sound (fresh cells xs (signed (listed c.in_ok-strides.strides)))) (sym c.copy_of-lens.ensures)
    (subst (λ (ys : List ℤ). Sound (fresh cells ls ys)) (sym zs) sound))

pub returns : goal.returns
returns g c =
    let cells = c.args.cells in
    let ls = g.D.Dimension.words c.args.dim.now in
    let told = took_rows (λ n. n) Open (shaped cells ls) c.check_shape.result c.in_ok-size.size c.in_ok-size.ensures c.check_shape.ensures in
    let passed = shape_passed cells ls c.in_ok-size.size told in
    let narrow = passed.0 in
    let fits = passed.1 in
    let small = passed.2 in
    let size = passed.3 in
    let enough : ltb cells (product ls) ≡ false = le-ltb _ _ (omega arith) in
    let row = (went_on listed Open (ltb most (nonzeros (listed c.copy_of-lens.result))) (in_rows 6) (in_order c.args.order (listed c.copy_of-lens.result)) c.strides_in.result c.in_ok-strides.strides c.in_ok-strides.ensures c.strides_in.ensures).1 in
    let zs : signed (listed c.in_ok-strides.strides) ≡ map pos (in_order c.args.order ls) =
    ap signed (row ∙ ap (in_order c.args.order) c.copy_of-lens.ensures) ∙ signed-order c.args.order ls small in
    rw (narrow, fits, small, enough) (ap (λ (s : Seen). Ok s) (ap₂ (fresh cells) c.copy_of-lens.ensures zs))
