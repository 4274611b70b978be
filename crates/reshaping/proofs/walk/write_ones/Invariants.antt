use Rattle.std.proofs.Common.{◌≡◌, ◌+◌, ◌++◌, length, replicate, pos}
use Rattle.laws.specs.Strides.{signed}
use Rattle.dimension.specs.Rows.{listed}
use Rattle.reshaping.proofs.walk.write_ones.Given as goal

abbrev pub invariant-loop : goal.invariant-loop
invariant-loop l =
    (signed (listed l.out) ≡ signed (listed l.initial.out) ++ replicate l.index (pos 1))
    × (length (listed l.out) ≡ length (listed l.initial.out) + l.index)
