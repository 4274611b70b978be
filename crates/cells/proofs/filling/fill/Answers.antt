use Rattle.std.proofs.Common.{◌≡◌, ℕ, ◌+◌, ◌<◌, true, eqb, List, length, Option, pos, sym, ap, ◌∙◌, subst, MatchOption}
use Rattle.std.proofs.lemmas.Bool.{eq-eqb}
use Rattle.laws.specs.Lengths.{product}
use Rattle.laws.specs.Tuples.{Within, place}
use Rattle.laws.specs.Space.{cell}
use Rattle.laws.specs.Filling.{Reaches}
use Rattle.laws.proofs.Walks.{left, left_less}
use Rattle.laws.proofs.Filling.{Going, going_more, upto_more, upto_all, filled_is}
use Rattle.dimension.specs.declared.dynindeximpl.IxDyn.{IxDyn}
use Rattle.dimension.specs.Rows.{listed}
use Rattle.grid.specs.Layouts.{seen}
use Rattle.grid.proofs.Layouts.{sound}
use Rattle.grid.specs.declared.error.GridCall.TheVariants.{Fill}
use Rattle.cells.proofs.Walking.{lent_whole}
use Rattle.cells.proofs.filling.fill.Goals as goal

pub loop-next-smaller : goal.loop-next-smaller
loop-next-smaller g c =
    let s = seen c.args.layout.now in
    let r = c.next_for-next.result in
    let ix = listed c.in-Some.index in
    let going = subst (λ (o : Option IxDyn). Going s c.args.value listed c.args.cells.now c.loop-next.cells o) c.in-Some.is c.loop-next.invariant in
    let more = subst (λ (ls : List ℕ). MatchOption r (place ix ls + 1 ≡ product ls) (λ jx. Within (listed jx) ls × (place (listed jx) ls ≡ place ix ls + 1))) c.lens-lens.ensures c.next_for-next.ensures in
    subst (λ (o : Option IxDyn). left listed s.lens r < left listed s.lens o) (sym c.in-Some.is) (left_less listed s.lens ix r going.0 more)

pub loop-next-preserved : goal.loop-next-preserved
loop-next-preserved g c =
    let l = c.args.layout.now in
    let s = seen l in
    let r = c.next_for-next.result in
    let ix = listed c.in-Some.index in
    let whole = lent_whole Fill s (length c.args.cells.now) _ c.in_ok-check_lent.ensures in
    let going = subst (λ (o : Option IxDyn). Going s c.args.value listed c.args.cells.now c.loop-next.cells o) c.in-Some.is c.loop-next.invariant in
    let more = subst (λ (ls : List ℕ). MatchOption r (place ix ls + 1 ≡ product ls) (λ jx. Within (listed jx) ls × (place (listed jx) ls ≡ place ix ls + 1))) c.lens-lens.ensures c.next_for-next.ensures in
    let same : c.as_slice.result.now ≡ ix = c.as_slice.ensures in
    let w : Within c.as_slice.result.now s.lens = subst (λ (jx : List ℕ). Within jx s.lens) (sym same) going.0 in
    let at = c.stride_offset-at.result in
    let here : cell s ix ≡ pos at = ap (cell s) (sym same) ∙ c.stride_offset-at.ensures.here w in
    let reach : Reaches s ix at = record { within = going.0; here = here } in
    going_more s c.args.value listed c.args.cells.now _ r (place ix s.lens) (upto_more s c.args.value c.args.cells.now c.loop-next.cells ix at (sound l) whole reach going.1) more

pub returns : goal.returns
returns g c =
    let l = c.args.layout.now in
    let s = seen l in
    let whole = lent_whole Fill s (length c.args.cells.now) _ c.in_ok-check_lent.ensures in
    let same : eqb (length c.args.cells.now) s.cells ≡ true = eq-eqb _ _ whole in
    let going = subst (λ (o : Option IxDyn). Going s c.args.value listed c.args.cells.now c.loop-next.cells o) c.in_default.is c.loop-next.invariant in
    let done = upto_all s c.args.value c.args.cells.now c.loop-next.cells going in
    record { answer = rw same; after = filled_is s c.args.value c.args.cells.now c.loop-next.cells (sound l) whole done; law = done }
