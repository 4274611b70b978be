use Rattle.std.proofs.Common.{◌≡◌, ℕ, false, ltb, sym, ap, ◌∙◌, Ok, arith}
use Rattle.std.specs.Option.{unwrap_or}
use Rattle.std.proofs.lemmas.Bool.{le-ltb}
use Rattle.laws.specs.Lengths.{nonzeros}
use Rattle.laws.specs.Opening.{most}
use Rattle.laws.proofs.Zeros.{some-zero-product}
use Rattle.dimension.proofs.Limits.{kept_small, no-zero-nonzeros}
use Rattle.dimension.proofs.size.checked_size.Goals as goal

pub returns-then-has_zero : goal.returns-then-has_zero
returns-then-has_zero c =
    let ls = c.args.lens.now in
    let whole = kept_small (nonzeros ls) _ (c.unwrap_or-whole.ensures ∙ ap (λ o. unwrap_or o 18446744073709551615) c.nonzero_product.ensures) c.if-whole-gt-MOST.false in
    let fits : ltb most (nonzeros ls) ≡ false = le-ltb _ _ (omega (arith, whole, c.if-whole-gt-MOST.false)) in
    rw fits (ap (λ (n : ℕ). Ok n) (sym (some-zero-product ls (sym c.has_zero.ensures ∙ c.if-has_zero.true))))

pub returns-else-has_zero : goal.returns-else-has_zero
returns-else-has_zero c =
    let ls = c.args.lens.now in
    let whole = kept_small (nonzeros ls) _ (c.unwrap_or-whole.ensures ∙ ap (λ o. unwrap_or o 18446744073709551615) c.nonzero_product.ensures) c.if-whole-gt-MOST.false in
    let fits : ltb most (nonzeros ls) ≡ false = le-ltb _ _ (omega (arith, whole, c.if-whole-gt-MOST.false)) in
    rw fits (ap (λ (n : ℕ). Ok n) (whole ∙ no-zero-nonzeros ls (sym c.has_zero.ensures ∙ c.if-has_zero.false)))
