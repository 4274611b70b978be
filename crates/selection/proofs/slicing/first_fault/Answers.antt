use Rattle.std.proofs.Common.{◌≡◌, ◌+◌, length, drop, sym, ap, ◌∙◌, add-zero, arith}
use Rattle.laws.specs.Elements.{in_count}
use Rattle.laws.specs.Slicing.{first_fault}
use Rattle.selection.specs.Slices.{elem_of, is_new_axis}
use Rattle.selection.specs.Errors.{slice_fault_of}
use Rattle.selection.specs.Walks.{elems_left}
use Rattle.selection.proofs.Counts.{adds}
use Rattle.selection.proofs.Faulty.{counts_more, fault-found, fault_passed}
use Rattle.selection.proofs.slicing.first_fault.Goals as goal
use Rattle.selection.proofs.slicing.first_fault.Goals.{then-not-is_new_axis, else-not-is_new_axis}

pub returns-in-Some-elem_fault : goal.returns-in-Some-elem_fault
returns-in-Some-elem_fault g c =
    let i = c.loop-place.invariant in
    fault-found _ _ (g.D.Dimension.words c.args.lens.now) c.loop-place.place c.loop-place.axis (elem_of c.in-Some.elem) c.in-Some.ensures.steps i.counts
    c.word_at.result c.word_at.ensures (slice_fault_of c.in-Some-elem_fault.fault) c.in-Some-elem_fault.ensures
    ∙ i.faults

pub loop-place-preserved : goal.loop-place-preserved
loop-place-preserved g c =
    let i = c.loop-place.invariant in
    let split = c.in-Some.ensures.steps in
    let rest = elems_left g.S.SliceArg.elems c.next.new.self in
    let ws = g.D.Dimension.words c.args.lens.now in
    let k = c.loop-place.place in
    let axis = c.loop-place.axis in
    let e = elem_of c.in-Some.elem in
    let next : c.if-not-is_new_axis.axis ≡ axis + adds (is_new_axis e) =
    elim c.if-not-is_new_axis.branch [
      | then-not-is_new_axis w ↦ w.axis-is ∙ ap (λ b. axis + adds b) (sym w.if-not-is_new_axis.true ∙ c.is_new_axis.ensures)
      | else-not-is_new_axis w ↦ w.axis-is ∙ sym (add-zero axis) ∙ ap (λ b. axis + adds b) (sym w.if-not-is_new_axis.false ∙ c.is_new_axis.ensures)
    ] in record {
      fits = omega (arith, ap length split, i.fits);
      counts = ap (λ n. n + in_count rest) next ∙ counts_more _ rest ws k axis e split i.counts;
      faults =
          ap (λ n. first_fault (k + 1) rest (drop n ws)) next
          ∙ fault_passed _ rest ws k axis e split i.counts c.word_at.result c.word_at.ensures c.in_default.ensures
          ∙ i.faults;
    }
