use Rattle.std.proofs.Common.{◌≡◌, false, leb, sym, ap, ◌∙◌, inl, inr}
use Rattle.std.proofs.lemmas.Bool.{cases_Bool}
use Rattle.laws.specs.Lengths.{some_zero}
use Rattle.laws.proofs.Zeros.{some-zero-product}
use Rattle.dimension.proofs.Limits.{no-zero-nonzeros}
use Rattle.grid.proofs.layout.opening.is_small.Goals as goal

pub returns-else-size-eq0 : goal.returns-else-size-eq0
returns-else-size-eq0 g c =
    let ls = g.D.Dimension.words c.args.dim.now in
    let none : some_zero ls ≡ false = elim (cases_Bool (some_zero ls)) [
      | inl on ↦ absurd (c.if-size-eq0.false (c.requires ∙ some-zero-product ls on))
      | inr off ↦ off
    ] in
    ap (λ n. leb n 1048576) (c.requires ∙ sym (no-zero-nonzeros ls none))
