use Rattle.std.proofs.Common.{◌≡◌, ◌≤◌, false, leb, ℤ, ◌*ℤ◌, nat_abs, sym, refl, ap, ◌∙◌, subst, w64, SFits, to_z, of_z}
use Rattle.std.proofs.lemmas.Int.{to_z-of_z}
use Rattle.std.proofs.lemmas.Bool.{lt-leb}
use Rattle.grid.proofs.Products.{product_fits, product-read}
use Rattle.grid.proofs.layout.slicing.cut_stride.Goals as goal

pub returns : goal.returns
returns c =
    let z = to_z w64 c.args.stride in
    let small : nat_abs z ≤ 1048576 = c.requires.stride c.if-count-le1.false in
    let is = product-read c.cast_signed.result c.args.step z c.args.step (record { sfits = c.cast_signed.type_inv }) c.ranges.step c.cast_signed.ensures refl in
    let fits = product_fits z c.args.step small c.requires.step in
    let many : leb c.args.count 1 ≡ false = lt-leb _ _ c.if-count-le1.false in
    rw many
    (ap (to_z w64) (c.cast_unsigned.ensures ∙ ap (λ (x : ℤ). of_z w64 (to_z w64 (of_z w64 x))) is)
    ∙ to_z-of_z w64 (to_z w64 (of_z w64 (z *ℤ c.args.step))) (subst (λ (x : ℤ). SFits w64 x) (sym (to_z-of_z w64 (z *ℤ c.args.step) fits)) fits)
    ∙ to_z-of_z w64 (z *ℤ c.args.step) fits)
