use Rattle.std.proofs.Common.{◌≡◌, ℕ, ◌<◌, List, length, get_or, ℤ, pos, Option, sym, ap, ◌∙◌, subst, arith, w64, to_z}
use Rattle.std.specs.Option.{option_map}
use Rattle.std.proofs.lemmas.Result.{err_from_is_err_and}
use Rattle.laws.specs.Strides.{signed}
use Rattle.laws.specs.Reshaping.{linked}
use Rattle.laws.specs.ReshapingSteps.{ends}
use Rattle.laws.proofs.ReshapingGroupsClosing.{Open, open_start, old_left, new_left, old_fits, new_fits, open_old, open_new, open_broken, open_done}
use Rattle.dimension.specs.declared.error.RowFault.{RowFault}
use Rattle.reshaping.proofs.Walking.{stride_at}
use Rattle.reshaping.proofs.turn.Turn.group_ends.Goals as goal

-- what the next axis is held to, over the strides
held : (ss : List ℕ) (a l s : ℕ) (o : Option ℕ) → a < length ss → option_map (λ w. to_z w64 w) o ≡ linked l (to_z w64 s) (to_z w64 (get_or ss a 0))
    → option_map (λ w. to_z w64 w) o ≡ linked l (to_z w64 s) (get_or (signed ss) a (pos 0))
held ss a l s o h e = e ∙ ap (λ z. linked l (to_z w64 s) z) (stride_at ss a h)

pub loop-old_product-init : goal.loop-old_product-init
loop-old_product-init c =
    let self = c.args.self.now in
    subst (λ (z : ℤ). Open self.from.now (signed self.strides.now) self.to.now 1 1 (get_or self.from.now 0 0) (get_or self.to.now 0 0) z) (sym (stride_at self.strides.now 0 (omega arith))) (open_start _ _ _ self.ready self.old self.new)

pub bounds-self-olds : goal.bounds-self-olds
bounds-self-olds c = old_left _ _ _ c.args.self.now.ready _ _ _ _ _ c.loop-old_product.invariant c.if-old_product-new_product.true

pub bounds-self-olds-then-old_product-new_product : goal.bounds-self-olds-then-old_product-new_product
bounds-self-olds-then-old_product-new_product c =
    let within = old_left _ _ _ c.args.self.now.ready _ _ _ _ _ c.loop-old_product.invariant c.if-old_product-new_product.true in
    omega arith

pub returns-in_err-stride : goal.returns-in_err-stride
returns-in_err-stride c =
    let self = c.args.self.now in
    let p = err_from_is_err_and c.from_residual.result c.from_residual.ensures.1 in
    let none = c.in_err-stride.ensures.ok_part in
    let fault = rw none at c.in_err-stride.ensures.value in
    let layout : c.in_err-stride.field-0.0 ≡ RowFault.IncompatibleLayout = cc in
    let within : c.loop-old_product.olds < length self.strides.now = omega (arith, old_left _ _ _ self.ready _ _ _ _ _ c.loop-old_product.invariant c.if-old_product-new_product.true) in
    rw (p.1, p.2, layout) (ap ends (open_broken _ _ _ self.ready _ _ _ _ _ c.loop-old_product.invariant c.if-old_product-new_product.true
    (ap (option_map (λ w. to_z w64 w)) (sym none) ∙ held self.strides.now c.loop-old_product.olds (get_or self.from.now c.loop-old_product.olds 0) c.loop-old_product.stride c.linked.result within c.linked.ensures)))

pub overflow_mul-old_product : goal.overflow_mul-old_product
overflow_mul-old_product c =
    let inv = c.loop-old_product.invariant in
    let ready = c.args.self.now.ready in
    let fits = old_fits _ _ _ ready _ _ _ _ _ inv (old_left _ _ _ ready _ _ _ _ _ inv c.if-old_product-new_product.true) in
    omega arith

pub loop-old_product-preserved-then-old_product-new_product :
    goal.loop-old_product-preserved-then-old_product-new_product
loop-old_product-preserved-then-old_product-new_product c =
    let self = c.args.self.now in
    let within : c.loop-old_product.olds < length self.strides.now = omega (arith, old_left _ _ _ self.ready _ _ _ _ _ c.loop-old_product.invariant c.if-old_product-new_product.true) in
    open_old _ _ _ self.ready _ _ _ _ _ c.loop-old_product.invariant c.if-old_product-new_product.true _
    (ap (option_map (λ w. to_z w64 w)) (sym c.in_ok-stride.ensures.ok_part) ∙ held self.strides.now c.loop-old_product.olds (get_or self.from.now c.loop-old_product.olds 0) c.loop-old_product.stride c.linked.result within c.linked.ensures)

pub bounds-self-news : goal.bounds-self-news
bounds-self-news c = new_left _ _ _ c.args.self.now.ready _ _ _ _ _ c.loop-old_product.invariant (omega arith)

pub overflow_mul-new_product : goal.overflow_mul-new_product
overflow_mul-new_product c =
    let inv = c.loop-old_product.invariant in
    let ready = c.args.self.now.ready in
    let fits = new_fits _ _ _ ready _ _ _ _ _ inv (new_left _ _ _ ready _ _ _ _ _ inv (omega arith)) in
    omega arith

pub loop-old_product-preserved : goal.loop-old_product-preserved
loop-old_product-preserved c = open_new _ _ _ c.args.self.now.ready _ _ _ _ _ c.loop-old_product.invariant (omega arith)

pub returns : goal.returns
returns c = ap ends (open_done _ _ _ c.args.self.now.ready _ _ _ _ _ c.loop-old_product.invariant c.loop-old_product-test.false)
