use Rattle.std.proofs.Common.{◌≡◌, ℕ, ◌*◌, min, true, List, set, ap, ◌∙◌}
use Rattle.std.proofs.lemmas.Bool.{true≢false}
use Rattle.laws.specs.Collapsing.{axis_fault}
use Rattle.dimension.specs.Rows.{listed}
use Rattle.grid.specs.declared.error.GridCall.TheVariants.{Merge}
use Rattle.grid.specs.Layouts.{seen}
use Rattle.grid.proofs.Errors.{none_refused}
use Rattle.grid.proofs.Merging.{product_word, passed, answered_with, merge_after, merge_kept}
use Rattle.grid.proofs.layout.Layout.merge_axes.Goals as goal

pub overflow_mul-length : goal.overflow_mul-length
overflow_mul-length c =
    record { fits = product_word c.args.self.now c.args.take c.args.into c.word_at.result c.word_at-2.result c.word_at.ensures c.word_at-2.ensures }

pub invariant_of-self : goal.invariant_of-self
invariant_of-self c =
    let l = c.args.self.now in
    let a = none_refused Merge (axis_fault (seen l) c.args.take) c.in_ok-check_axis.field-0 tt c.in_ok-check_axis.ensures in
    let b = none_refused Merge (axis_fault (seen l) c.args.into) c.in_ok-check_axis-2.field-0 tt c.in_ok-check_axis-2.ensures in
    let p = c.word_at.result * c.word_at-2.result in
    let lens : listed c.set-2.new.self ≡ set (set (listed l.lens) c.args.into p) c.args.take (min p 1) =
    c.set-2.ensures.after ∙ ap (λ (xs : List ℕ). set xs c.args.take c.min.result) c.set.ensures.after ∙ ap (set (set (listed l.lens) c.args.into p) c.args.take) c.min.ensures in
    merge_kept l c.args.take c.args.into (passed l c.args.take c.args.into a b) c.if-not-is_mergeable.ensures c.word_at.result c.word_at-2.result c.merged_stride-stride.result
    (listed c.set-2.new.self) (listed c.set-3.new.self) c.word_at.ensures c.word_at-2.ensures c.merged_stride-stride.ensures lens c.set-3.ensures.after

pub returns : goal.returns
returns c =
    let l = c.args.self.now in
    let a = none_refused Merge (axis_fault (seen l) c.args.take) c.in_ok-check_axis.field-0 tt c.in_ok-check_axis.ensures in
    let b = none_refused Merge (axis_fault (seen l) c.args.into) c.in_ok-check_axis-2.field-0 tt c.in_ok-check_axis-2.ensures in
    let p = c.word_at.result * c.word_at-2.result in
    let lens : listed c.set-2.new.self ≡ set (set (listed l.lens) c.args.into p) c.args.take (min p 1) =
    c.set-2.ensures.after ∙ ap (λ (xs : List ℕ). set xs c.args.take c.min.result) c.set.ensures.after ∙ ap (set (set (listed l.lens) c.args.into p) c.args.take) c.min.ensures in
    let none = passed l c.args.take c.args.into a b in
    record {
      answer = answered_with l c.args.take c.args.into none true c.if-not-is_mergeable.ensures;
      after = merge_after l c.args.take c.args.into none c.if-not-is_mergeable.ensures c.word_at.result c.word_at-2.result c.merged_stride-stride.result
          (listed c.set-2.new.self) (listed c.set-3.new.self) c.word_at.ensures c.word_at-2.ensures c.merged_stride-stride.ensures lens c.set-3.ensures.after;
      same = λ e. absurd (true≢false e);
    }
