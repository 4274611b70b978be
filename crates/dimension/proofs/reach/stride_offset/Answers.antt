use Rattle.std.proofs.Common.{◌≡◌, ◌+◌, ◌*◌, ◌%◌, ◌^◌, pos, ap, ◌∙◌, arith}
use native.Mathlib.Nat.{add-mod-mod}
use Rattle.laws.specs.Strides.{onward}
use Rattle.laws.proofs.Words.{wraps}
use Rattle.dimension.proofs.reach.stride_offset.Goals as goal

pub returns : goal.returns
returns c =
    let is : (c.args.from + (c.args.index * c.args.stride) % 2 ^ 64) % 2 ^ 64 ≡ onward c.args.from c.args.index c.args.stride =
    add-mod-mod c.args.from (c.args.index * c.args.stride) (2 ^ 64) in
    record { answer = is; law = λ h. ap pos is ∙ wraps c.args.from c.args.index c.args.stride (omega arith) h }
