use Rattle.std.proofs.Common.{◌≡◌, ◌+◌, ◌^◌, ◌<◌, length}
use Rattle.laws.specs.Strides.{signed}
use Rattle.laws.specs.Opening.{span}
use Rattle.dimension.proofs.reach.checked_reach.Given as goal

-- what is left of the axes completes the reach
abbrev pub invariant-loop-length : goal.invariant-loop-length
invariant-loop-length l =
    let ls = l.length-iterator.a.rest.now in
    let ws = l.length-iterator.b.rest.now in
    (goal.iterator-loop-length).can_next l.length-iterator
    × (goal.iterator-loop-length).is_finite l.length-iterator
    × (length ls ≡ length ws)
    × (l.far + span ls (signed ws) ≡ span l.lens (signed l.strides))
    × (l.far < 2 ^ 64)
