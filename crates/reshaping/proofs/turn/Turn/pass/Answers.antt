use mir.Val.{Fits, SFits, of_z}
use Rattle.std.proofs.Common.{rules, nat_abs, ◌≡◌, ℕ, ◌<◌, ◌≤◌, List, length, get_or, take, drop, ℤ, pos, ◌*ℤ◌, refl, ap, ◌∙◌, ap₂, arith, w64, to_z}
use Rattle.std.proofs.lemmas.Int.{ints, fits_signed_mul, to_z-of_z}
use Rattle.std.proofs.lemmas.List.{length-take}
use Rattle.std.proofs.lemmas.Result.{err_from_is_err_and}
use Rattle.laws.specs.Lengths.{product}
use Rattle.laws.proofs.Lengths.{part_below}
use Rattle.laws.specs.Strides.{signed}
use Rattle.laws.specs.Reshaping.{Ready}
use Rattle.laws.proofs.ReshapingGroupsProducts.{near-length, positive-take, positive-drop, product-cut, product-pos}
use Rattle.laws.proofs.ReshapingGroupsClosing.{group_closed}
use Rattle.laws.proofs.ReshapingWalkTurns.{refused}
use Rattle.laws.proofs.ReshapingWalkEnds.{whole_requires}
use Rattle.laws.proofs.ReshapingWalkLoop.{ends_err, ends_ok}
use Rattle.dimension.specs.Errors.{row_fault}
use Rattle.reshaping.proofs.Walking.{stride_at, signed_pushed, passed_both, passed_old, passed_new, passed_group}
use Rattle.reshaping.proofs.turn.Turn.pass.Goals as goal

-- the group's whole stride, as the code computes it
whole_read : (ls ss ms : List ℕ) (t : ℤ) → Ready ls (signed ss) ms → 0 < length ls → 0 < length ss → (get_or ls 0 0 ≡ 1 → ⊥) → Fits w64 (get_or ss 0 0) → t ≡ to_z w64 (get_or ss 0 0)
    → SFits w64 (to_z w64 (get_or ls 0 0) *ℤ to_z w64 (of_z w64 t)) × (to_z w64 (get_or ls 0 0) *ℤ to_z w64 (of_z w64 t) ≡ pos (get_or ls 0 0) *ℤ get_or (signed ss) 0 (pos 0))
whole_read ls ss ms t r h k ne word is =
    let l = get_or ls 0 0 in
    let s = get_or ss 0 0 in
    let small = whole_requires ls ss ms 0 0 r l s h refl refl ne in
    let length_is : to_z w64 l ≡ pos l = omega (arith, ints) in
    let stride_is : to_z w64 (of_z w64 t) ≡ to_z w64 s = omega (arith, ints) in (
      rw (length_is, stride_is) (fits_signed_mul w64 (pos l) (to_z w64 s) l (nat_abs (to_z w64 s)) (omega arith) (omega arith) (omega arith)),
      ap₂ (λ x y. x *ℤ y) length_is (stride_is ∙ stride_at ss 0 k),
    )

pub returns-then-fd-td : goal.returns-then-fd-td
returns-then-fd-td c =
    let self = c.args.self.now in
    passed_both _ _ _ _ _ self.old self.new self.ready _ c.if-fd-td.true (stride_at self.strides.now 0 (omega arith)) (ap signed c.push.ensures.after ∙ signed_pushed _ _ (omega arith))

pub returns-then-fd-eq1 : goal.returns-then-fd-eq1
returns-then-fd-eq1 c =
    let self = c.args.self.now in
    passed_old _ _ _ _ _ self.old self.new self.ready c.if-fd-eq1.true c.if-fd-td.false refl

pub returns-then-td-eq1 : goal.returns-then-td-eq1
returns-then-td-eq1 c =
    let self = c.args.self.now in
    passed_new _ _ _ _ _ self.old self.new self.ready c.if-fd-eq1.false c.if-td-eq1.true (ap signed c.push-then-td-eq1.ensures.after ∙ signed_pushed _ _ (omega arith))

pub returns-in_err-olds : goal.returns-in_err-olds
returns-in_err-olds c =
    let self = c.args.self.now in
    let p = err_from_is_err_and c.from_residual.result c.from_residual.ensures.1 in
    let none = ends_err _ (row_fault c.in_err-olds.field-0.0) c.in_err-olds.ensures in
    rw (p.1, p.2, ← none.1)
    (refused self.from.now (signed self.strides.now) self.to.now 0 0 self.old self.new (near-length _ _ self.ready.near) self.ready c.if-fd-eq1.false c.if-td-eq1.false none.0)

pub slice_bounds-write_group-end : goal.slice_bounds-write_group-end
slice_bounds-write_group-end c =
    let self = c.args.self.now in
    let found = ends_ok _ _ _ c.in_ok-olds.ensures in
    let ends = group_closed _ _ _ self.ready _ self.old self.new found.1 in
    let within : c.in_ok-olds.news ≤ length self.to.now = ends.new_in in
    let cut = length-take c.in_ok-olds.news self.to.now in
    omega arith

pub overflow_cast-whole : goal.overflow_cast-whole
overflow_cast-whole c =
    let self = c.args.self.now in
    let small = whole_requires self.from.now self.strides.now self.to.now 0 0 self.ready _ _ self.old refl refl c.if-fd-eq1.false in
    omega (arith, ints)

pub overflow_mul-whole : goal.overflow_mul-whole
overflow_mul-whole c =
    let self = c.args.self.now in
    (whole_read self.from.now self.strides.now self.to.now _ self.ready self.old (omega arith) c.if-fd-eq1.false (search rules) c.cast_signed.ensures).0

pub write_group-requires-clause-some : goal.write_group-requires-clause-some
write_group-requires-clause-some c = positive-take _ _ c.args.self.now.ready.news

pub write_group-requires-clause-small : goal.write_group-requires-clause-small
write_group-requires-clause-small c =
    let self = c.args.self.now in
    let ms = self.to.now in
    let b = c.in_ok-olds.news in
    let below = part_below (product (take b ms)) (product (drop b ms)) (product ms) (product-pos (drop b ms) (positive-drop b ms self.ready.news)) (product-cut b ms) in
    let same = self.ready.same in
    let small = self.ready.small in
    omega arith

pub returns : goal.returns
returns c =
    let self = c.args.self.now in
    let whole = whole_read self.from.now self.strides.now self.to.now _ self.ready self.old (omega arith) c.if-fd-eq1.false (search rules) c.cast_signed.ensures in
    let found = ends_ok _ _ _ c.in_ok-olds.ensures in
    let ends = group_closed _ _ _ self.ready _ self.old self.new found.1 in
    passed_group _ _ _ _ _ self.old self.new self.ready _ _ c.if-fd-eq1.false c.if-td-eq1.false found.1 (to_z-of_z w64 _ whole.0 ∙ whole.1) ends.new_in c.write_group.ensures
