use Rattle.std.proofs.Common.{◌≡◌, ℕ, ◌<◌, slice_index}
use Rattle.dimension.proofs.dynindeximpl.IxDyn.copy_of.Given as goal

-- each cell before this one has the row's word, which is 0 past its end
abbrev pub invariant-loop-place : goal.invariant-loop-place
invariant-loop-place g l = (k : ℕ) → k < l.place → slice_index l.cell-items k ≡ slice_index (g.D.Dimension.words l.row) k
