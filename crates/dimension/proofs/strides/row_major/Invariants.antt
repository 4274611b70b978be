use Rattle.std.proofs.Common.{◌≡◌, ◌*◌, cond, length, drop}
use Rattle.laws.specs.Lengths.{product, some_zero}
use Rattle.laws.proofs.Strides.{scaled}
use Rattle.dimension.proofs.strides.row_major.Given as goal

abbrev pub invariant-loop-place : goal.invariant-loop-place
invariant-loop-place g l =
    let ws = g.D.Dimension.words l.dim in
    let a = cond (some_zero ws) 0 1 in
    (l.step ≡ a * product (drop l.place ws))
    × (drop l.place (g.D.Dimension.words l.out) ≡ scaled a (drop l.place ws))
    × (length (g.D.Dimension.words l.out) ≡ length ws)
