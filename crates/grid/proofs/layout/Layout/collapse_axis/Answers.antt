use Rattle.std.proofs.Common.{◌≡◌, ◌<◌, None, arith}
use Rattle.laws.specs.Collapsing.{len_at, axis_fault}
use Rattle.dimension.specs.Rows.{listed}
use Rattle.grid.specs.declared.error.GridCall.TheVariants.{Collapse}
use Rattle.grid.specs.Layouts.{seen}
use Rattle.grid.proofs.Errors.{none_refused}
use Rattle.grid.proofs.Collapsing.{collapse_answer, collapse_kept}
use Rattle.grid.proofs.layout.Layout.collapse_axis.Goals as goal

pub invariant_of-self : goal.invariant_of-self
invariant_of-self c =
    let l = c.args.self.now in
    let a : axis_fault (seen l) c.args.axis ≡ None = none_refused Collapse (axis_fault (seen l) c.args.axis) c.in_ok-check_axis.field-0 tt c.in_ok-check_axis.ensures in
    let h : c.args.index < len_at (seen l) c.args.axis = omega arith in
    collapse_kept l c.args.axis c.args.index c.word_at-2.result c.stride_offset-self.result (listed c.set.new.self) a h c.word_at-2.ensures c.stride_offset-self.ensures.law c.set.ensures.after

pub returns : goal.returns
returns c =
    let l = c.args.self.now in
    let a : axis_fault (seen l) c.args.axis ≡ None = none_refused Collapse (axis_fault (seen l) c.args.axis) c.in_ok-check_axis.field-0 tt c.in_ok-check_axis.ensures in
    let h : c.args.index < len_at (seen l) c.args.axis = omega arith in
    record {
      answer = collapse_answer l c.args.axis c.args.index c.word_at-2.result c.stride_offset-self.result (listed c.set.new.self) a h c.word_at-2.ensures c.stride_offset-self.ensures.law c.set.ensures.after;
      same = tt;
    }
