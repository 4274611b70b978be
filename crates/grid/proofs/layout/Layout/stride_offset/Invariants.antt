use Rattle.std.proofs.Common.{◌≡◌, length, drop}
use Rattle.laws.specs.Tuples.{Within}
use Rattle.laws.proofs.Cells.{Adding}
use Rattle.dimension.specs.Rows.{listed}
use Rattle.grid.specs.Layouts.{seen, onwards, counted_cell}
use Rattle.grid.proofs.layout.Layout.stride_offset.Given as goal

abbrev pub invariant-loop-word : goal.invariant-loop-word
invariant-loop-word l =
    let i = length l.yielded in
    (goal.iterator-loop-word).can_next l.word-iterator
    × (goal.iterator-loop-word).is_finite l.word-iterator
    × (l.word-iterator.a.rest.now ≡ drop i l.index)
    × (l.word-iterator.b.rest.now ≡ drop i (listed l.self.strides))
    × (Within l.index (seen l.self).lens → Adding (seen l.self) l.index i l.at)
    × (counted_cell l.self l.index ≡ onwards l.at l.word-iterator.a.rest.now l.word-iterator.b.rest.now)
