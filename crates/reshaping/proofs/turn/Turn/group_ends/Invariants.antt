use Rattle.std.proofs.Common.{◌+◌, ◌-◌, length, w64, to_z}
use Rattle.laws.specs.Strides.{signed}
use Rattle.laws.proofs.ReshapingGroupsClosing.{Open}
use Rattle.reshaping.proofs.turn.Turn.group_ends.Given as goal

abbrev pub invariant-loop-old_product : goal.invariant-loop-old_product
invariant-loop-old_product l = Open l.self.from.now (signed l.self.strides.now) l.self.to.now l.olds l.news l.old_product l.new_product (to_z w64 l.stride)

abbrev pub decreases-loop-old_product : goal.decreases-loop-old_product
decreases-loop-old_product l = length l.self.from.now + length l.self.to.now - (l.olds + l.news)
