use Rattle.std.proofs.Common.{rules, ◌≡◌, true, false, length, sym, arith}
use Rattle.laws.specs.Lengths.{some_below, some_zero}
use Rattle.laws.specs.Strides.{signed}
use Rattle.laws.specs.Opening.{crowded}
use Rattle.laws.proofs.Zeros.{below_at}
use Rattle.grid.proofs.layout.overlap.Axes.overlap.Goals as goal

pub returns-then-is_crowded : goal.returns-then-is_crowded
returns-then-is_crowded c =
    let ls = c.args.self.now.lens.now in
    let zs = signed c.args.self.now.strides.now in
    let none : some_zero ls ≡ false = search rules in
    let found : some_below (length ls) (crowded ls zs) ≡ true = below_at (length ls) c.loop-axis.axis (crowded ls zs) (omega arith) (sym c.if-is_crowded.ensures) in
    rw (none, found)
