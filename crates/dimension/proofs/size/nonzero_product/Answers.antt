use Rattle.std.proofs.Common.{◌≡◌, ℕ, ◌+◌, ◌*◌, max, get_or, drop, ap, ◌∙◌, arith}
use Rattle.std.proofs.lemmas.Bool.Decides.{nat_tests}
use Rattle.laws.specs.Lengths.{nonzero, nonzeros}
use Rattle.laws.proofs.Lengths.{nonzeros-pos, nonzeros_more, part_below}
use Rattle.dimension.proofs.Limits.{worded_over, past_word}
use Rattle.dimension.proofs.size.nonzero_product.Goals as goal

nonzero_max : (n : ℕ) → max n 1 ≡ nonzero n
nonzero_max n = grind (arith, nat_tests)

pub returns-in_err-whole : goal.returns-in_err-whole
returns-in_err-whole c =
    let ls = c.args.lens.now in
    let i = c.loop-length.length-index in
    let big = past_word _ (c.in_err-whole.ensures) in
    let is : c.max.result ≡ nonzero (get_or ls i 0) = c.max.ensures ∙ nonzero_max (get_or ls i 0) in
    let more = nonzeros_more ls i c.loop-length.whole (nonzeros ls) c.loop-length-test.true c.loop-length.invariant.0 in
    let all = part_below _ _ _ (nonzeros-pos (drop (i + 1) ls)) more in
    let same = ap (λ n. c.loop-length.whole * n) is in
    c.from_residual.ensures ∙ worded_over (nonzeros ls) (omega arith)

pub loop-length-preserved : goal.loop-length-preserved
loop-length-preserved c =
    let ls = c.args.lens.now in
    let i = c.loop-length.length-index in
    let told = c.in_ok-whole.ensures in
    let is : c.in_ok-whole.whole ≡ c.loop-length.whole * nonzero (get_or ls i 0) = told.1 ∙ ap (λ n. c.loop-length.whole * n) (c.max.ensures ∙ nonzero_max (get_or ls i 0)) in (
      ap (λ n. n * nonzeros (drop (i + 1) ls)) is ∙ nonzeros_more ls i c.loop-length.whole (nonzeros ls) c.loop-length-test.true c.loop-length.invariant.0,
      omega (arith, told.0, told.1),
    )
