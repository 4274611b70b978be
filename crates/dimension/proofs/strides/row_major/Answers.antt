use Rattle.std.proofs.Common.{◌≡◌, ℕ, ◌-◌, ◌*◌, min, List, rules, sym, mul-one, cond, length, ◌≤◌, drop, ap, ◌∙◌, subst, arith}
use Rattle.std.proofs.lemmas.List.{at_drop_all}
use Rattle.laws.specs.Lengths.{product, some_zero}
use Rattle.laws.proofs.Strides.{scaled, scaled_row_major, step_fits, step_less}
use Rattle.dimension.proofs.Limits.{first_step}
use Rattle.dimension.proofs.strides.row_major.Goals as goal

pub loop-place-init : goal.loop-place-init
loop-place-init g c =
    let ws = g.D.Dimension.words c.args.dim.now in
    let first : c.min-step.result ≡ cond (some_zero ws) 0 1 = c.min-step.ensures ∙ ap (λ n. min n 1) c.requires.size ∙ first_step ws in
    let n = c.ndim-place.result in
    let a : ℕ = cond (some_zero ws) 0 1 in
    let all : length ws ≤ n = omega (arith, c.ndim-place.ensures) in
    let one = at_drop_all product ws n all in (
      first ∙ sym (ap (λ m. a * m) one ∙ mul-one a),
      at_drop_all (λ (xs : List ℕ). xs) ws n all ∙ sym (at_drop_all (scaled a) ws n all),
      search rules,
    )

pub overflow_mul-step : goal.overflow_mul-step
overflow_mul-step g c =
    let ws = g.D.Dimension.words c.args.dim.now in
    let p = c.loop-place.place in
    let down = step_less (cond (some_zero ws) 0 1) p ws (omega arith) (omega arith) in
    let fit = step_fits (some_zero ws) (p - 1) ws in
    let is : c.loop-place.step * c.word_at-step.result ≡ cond (some_zero ws) 0 1 * product (drop (p - 1) ws) =
    ap (λ n. n * c.word_at-step.result) c.loop-place.invariant.0 ∙ ap (λ n. cond (some_zero ws) 0 1 * product (drop p ws) * n) c.word_at-step.ensures ∙ down in
    omega (arith, c.requires)

pub returns : goal.returns
returns g c =
    let ws = g.D.Dimension.words c.args.dim.now in
    let out = g.D.Dimension.words c.loop-place.out in
    let a = cond (some_zero ws) 0 1 in
    let end : c.loop-place.place ≡ 0 = omega arith in
    let made : out ≡ scaled a ws = subst (λ (n : ℕ). drop n out ≡ scaled a (drop n ws)) end c.loop-place.invariant.1 in
    made ∙ scaled_row_major ws
