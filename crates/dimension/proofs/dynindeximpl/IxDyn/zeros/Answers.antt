use Rattle.std.proofs.Common.{◌≡◌, ℕ, false, ltb, List, Ok, ap, arith}
use Rattle.std.proofs.lemmas.List.{take-replicate}
use Rattle.std.proofs.lemmas.Bool.{le-ltb}
use Rattle.dimension.proofs.dynindeximpl.IxDyn.zeros.Goals as goal

pub returns : goal.returns
returns c =
    let few : ltb 8 c.args.count ≡ false = le-ltb 8 c.args.count (omega arith) in
    rw few (ap (λ (xs : List ℕ). Ok xs) (take-replicate c.args.count 8 0 (omega arith)))
