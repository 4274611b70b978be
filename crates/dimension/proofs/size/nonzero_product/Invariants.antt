use Rattle.std.proofs.Common.{◌≡◌, ◌*◌, ◌^◌, ◌<◌, drop}
use Rattle.laws.specs.Lengths.{nonzeros}
use Rattle.dimension.proofs.size.nonzero_product.Given as goal

-- what is left of the lengths completes the product
abbrev pub invariant-loop-length : goal.invariant-loop-length
invariant-loop-length l = (l.whole * nonzeros (drop l.length-index l.lens) ≡ nonzeros l.lens) × (l.whole < 2 ^ 64)
