use Rattle.std.proofs.Common.{refl, w64, SFits}
use Rattle.std.proofs.lemmas.Result.{err_from_is_err_and}
use Rattle.std.proofs.lemmas.Int.{to_z-of_z}
use Rattle.selection.specs.Errors.{slice_fault_of}
use Rattle.grid.proofs.Slicing.{under_index, index-refused}
use Rattle.grid.proofs.layout.slicing.cut_index.Goals as goal

pub returns-in_err-at : goal.returns-in_err-at
returns-in_err-at c = λ es u split.
    let p = err_from_is_err_and c.from_residual.result c.from_residual.ensures.1 in
    let fits : SFits w64 c.args.index = c.ranges.index in
    let told = simp to_z-of_z at c.in_err-at.ensures.answer in
    rw (p.1, p.2)
    (index-refused c.args.grid.now es c.args.place c.args.cut.now u c.word_at-length.result c.word_at-stride.result c.word_at-length.ensures c.word_at-stride.ensures c.args.index split
    (slice_fault_of c.in_err-at.field-0.0) told)

pub returns : goal.returns
returns c = λ es u split.
    let fits : SFits w64 c.args.index = c.ranges.index in
    let told = simp to_z-of_z at c.in_ok-at.ensures.answer in
    under_index c.args.grid.now es c.args.place c.args.cut.now u c.word_at-length.result c.word_at-stride.result c.word_at-length.ensures c.word_at-stride.ensures c.args.index split
    c.in_ok-at.at told _ refl c.stride_offset-cut.ensures.law refl refl
