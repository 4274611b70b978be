use Rattle.std.proofs.Common.{◌≡◌, not, count_by, sym, ◌∙◌, rules}
use Rattle.selection.specs.Slices.{elem_of, is_new_axis}
use Rattle.selection.proofs.Counts.{takes-counted}
use Rattle.selection.proofs.lent.LentSliceArg.in_ndim.Goals as goal

pub returns : goal.returns
returns c =
    let xs = c.args.self.now.0.now in
    let counted : c.count.result ≡ count_by (λ x. not (is_new_axis (elem_of x))) xs = search rules in
    counted ∙ sym (takes-counted xs)
