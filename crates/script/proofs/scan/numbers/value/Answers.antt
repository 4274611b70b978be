-- The fold goes as the digits spell, as long as the number fits.
use Rattle.std.proofs.Common.{◌∙◌, ◌-◌, Some, rules, tests}
use Rattle.std.proofs.lemmas.Iterator.{YieldsList-from_slice}
use Rattle.std.proofs.lemmas.Iterator.Consumers.{fold_from_yields_List}
use Rattle.script.specs.Numerals.{extended}
use Rattle.script.proofs.Numerals.{fold-fitted}
use Rattle.script.proofs.scan.numbers.value.Goals as goal

pub returns : goal.returns
returns c =
    fold_from_yields_List _ (λ o b. extended o (b - 48)) (Some 0) c.fold.result c.fold.ensures.ran (YieldsList-from_slice c.args.word.now (cc)) (λ o x n q k. search (rules, tests)) ∙ fold-fitted c.args.word.now
