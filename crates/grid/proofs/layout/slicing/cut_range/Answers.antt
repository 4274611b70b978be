use Rattle.std.proofs.Common.{◌≡◌, cond, leb, pos, ◌*ℤ◌, ap, ◌∙◌, w64, rules, to_z}
use Rattle.std.proofs.lemmas.Result.{err_from_is_err_and}
use Rattle.selection.specs.Errors.{slice_fault_of}
use Rattle.grid.proofs.Slicing.{under_range, range_refused, stride_fits}
use Rattle.grid.proofs.layout.slicing.cut_range.Goals as goal

pub returns-in_err-span : goal.returns-in_err-span
returns-in_err-span c = λ es u split.
    let p = err_from_is_err_and c.from_residual.result c.from_residual.ensures.1 in
    rw (p.1, p.2)
    (range_refused c.args.grid.now es c.args.place c.args.cut.now u c.word_at-length.result c.word_at-stride.result c.word_at-length.ensures c.word_at-stride.ensures c.args.range.start c.args.range.end c.args.range.step split
    (slice_fault_of c.in_err-span.field-0.0) c.in_err-span.ensures.answer)

pub cut_stride-requires : goal.cut_stride-requires
cut_stride-requires c =
    let step = c.in_ok-span.ensures.steps in
    let bound = c.in_ok-span.ensures.law in
    let count = rw step at c.entry_count-count.ensures in
    record {
      stride = stride_fits c.args.grid.now c.args.cut.now.axis c.word_at-length.result c.word_at-stride.result c.entry_count-count.result c.in_ok-span.span.from c.in_ok-span.span.to c.args.range.step c.word_at-length.ensures c.word_at-stride.ensures bound count;
      step = search (rules, step, bound.small);
    }

pub returns : goal.returns
returns c = λ es u split.
    let step = c.in_ok-span.ensures.steps in
    let moved = rw step at c.cut_start-moved.ensures in
    let count = rw step at c.entry_count-count.ensures in
    let stride : to_z w64 c.cut_stride.result ≡ (cond (leb c.entry_count-count.result 1) (pos 0) (to_z w64 c.word_at-stride.result *ℤ c.args.range.step)) = search (rules, step) in
    under_range c.args.grid.now es c.args.place c.args.cut.now u c.word_at-length.result c.word_at-stride.result c.word_at-length.ensures c.word_at-stride.ensures c.args.range.start c.args.range.end c.args.range.step split
    c.in_ok-span.span.from c.in_ok-span.span.to c.in_ok-span.ensures.answer c.push_axis.new.cut c.entry_count-count.result c.cut_stride.result c.push_axis.ensures.axis (λ t. ap pos c.push_axis.ensures.start ∙ moved t) count stride c.push_axis.ensures.lens c.push_axis.ensures.strides
