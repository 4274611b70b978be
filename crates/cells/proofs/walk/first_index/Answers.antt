use Rattle.std.proofs.Common.{◌≡◌, false, ltb, length, Ok, replicate, Option, sym, ap, ◌∙◌, subst, arith, MatchOption}
use Rattle.std.proofs.lemmas.Bool.{le-ltb}
use Rattle.laws.specs.Lengths.{product}
use Rattle.laws.specs.Tuples.{Within, place}
use Rattle.laws.specs.Faults.{in_rows, refuse}
use Rattle.laws.proofs.Zeros.{some-zero-product}
use Rattle.dimension.specs.declared.dynindeximpl.IxDyn.{IxDyn}
use Rattle.dimension.specs.Errors.{answered}
use Rattle.dimension.specs.Rows.{listed, listed_owed}
use Rattle.cells.proofs.Walking.{first_zeros}
use Rattle.cells.proofs.walk.first_index.Goals as goal

pub returns-then-is_empty : goal.returns-then-is_empty
returns-then-is_empty c = some-zero-product (listed c.args.dim.now) (sym c.if-is_empty.ensures)

pub returns : goal.returns
returns c =
    let ls = listed c.args.dim.now in
    let few = (listed_owed c.args.dim.now).few in
    let n = c.ndim.result in
    let fit : ltb 8 n ≡ false = le-ltb 8 n (omega arith) in
    let made : answered listed c.zeros.result ≡ Ok (replicate (length ls) 0) =
    c.zeros.ensures ∙ ap (λ b. refuse b (in_rows 11) (Ok (replicate n 0))) fit ∙ ap (λ m. Ok (replicate m 0)) c.ndim.ensures in
    subst (λ (o : Option IxDyn). MatchOption o (product ls ≡ 0) (λ ix. Within (listed ix) ls × (place (listed ix) ls ≡ 0)))
    (sym c.ok.ensures.value) (first_zeros ls c.zeros.result (sym c.if-is_empty.ensures) made)
