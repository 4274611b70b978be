use Rattle.std.proofs.Common.{Bool, cond, ltb, Ok, Err, sym, ap, ◌∙◌}
use Rattle.std.specs.List.{list_any}
use Rattle.laws.specs.Faults.{in_rows}
use Rattle.dimension.proofs.Rows.{some_negative_word}
use Rattle.dimension.proofs.reach.strides_non_negative.Goals as goal

pub returns-then-has_negative : goal.returns-then-has_negative
returns-then-has_negative g c =
    let ws = g.S.Dimension.words c.args.strides.now in
    let same = ap (list_any (ltb 9223372036854775807)) (c.as_slice.ensures ∙ c.copy_of.ensures) in
    ap (λ (b : Bool). cond b (Err (in_rows 5)) (Ok tt)) (c.if-has_negative.ensures ∙ same ∙ sym (some_negative_word ws))

pub returns : goal.returns
returns g c =
    let ws = g.S.Dimension.words c.args.strides.now in
    let same = ap (list_any (ltb 9223372036854775807)) (c.as_slice.ensures ∙ c.copy_of.ensures) in
    ap (λ (b : Bool). cond b (Err (in_rows 5)) (Ok tt)) (c.if-has_negative.ensures ∙ same ∙ sym (some_negative_word ws))
