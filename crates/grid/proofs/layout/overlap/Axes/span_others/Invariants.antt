use Rattle.std.proofs.Common.{◌≡◌, ◌+◌, ◌-◌, ◌^◌, ◌≤◌, length}
use Rattle.laws.specs.Strides.{signed}
use Rattle.laws.specs.Opening.{span, span_others}
use Rattle.laws.proofs.Others.{parts_from}
use Rattle.grid.proofs.layout.overlap.Axes.span_others.Given as goal

-- what the later axes add completes the reach
abbrev pub invariant-loop-place : goal.invariant-loop-place
invariant-loop-place l =
    let ls = l.place-iterator.iter.a.rest.now in
    let zs = signed l.place-iterator.iter.b.rest.now in
    (goal.iterator-loop-place).can_next l.place-iterator
    × (goal.iterator-loop-place).is_finite l.place-iterator
    × (length ls ≡ length l.place-iterator.iter.b.rest.now)
    × (span ls zs ≤ 2 ^ 63 - 1)
    × (l.far + parts_from l.place-iterator.count l.axis l.most ls zs ≡ span_others l.axis l.most l.self.lens.now (signed l.self.strides.now))
