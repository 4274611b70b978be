use Rattle.std.proofs.Common.{◌≡◌, ℕ, ◌+◌, ◌-◌, ◌<◌, List, length, get_or, drop, set, sym, ap, ◌∙◌, subst, arith, rules}
use Rattle.laws.specs.Lengths.{product}
use Rattle.laws.specs.Tuples.{Within, place}
use Rattle.laws.proofs.Tuples.{within_at, within-set}
use Rattle.laws.proofs.Walks.{carry, stop, carry_all}
use Rattle.cells.proofs.walk.next_for.Goals as goal

pub overflow_add-next : goal.overflow_add-next
overflow_add-next g c =
    let ls = g.D.Dimension.words c.args.dim.now in
    let ix = g.D.Dimension.words c.loop-axis.index in
    let below : c.word_at-next.result < c.word_at-length.result = omega (arith, within_at ix ls (c.loop-axis.axis - 1) c.loop-axis.invariant.0 (omega arith)) in
    let fits = c.word_at-length.type_inv in
    search rules

pub loop-axis-preserved : goal.loop-axis-preserved
loop-axis-preserved g c =
    let ls = g.D.Dimension.words c.args.dim.now in
    let ix = g.D.Dimension.words c.loop-axis.index in
    let from = g.D.Dimension.words c.args.index in
    let w = c.loop-axis.invariant.0 in
    let j = c.loop-axis.axis - 1 in
    let e : c.loop-axis.axis ≡ j + 1 = omega arith in
    let inv = subst (λ m. place ix ls + product (drop m ls) ≡ place from ls + 1) e c.loop-axis.invariant.1 in
    let full : get_or ix j 0 + 1 ≡ get_or ls j 0 = omega arith in
    let is : set ix j 0 ≡ g.D.Dimension.words c.set.new.self = sym c.set.ensures.after in (
      subst (λ (s : List ℕ). Within s ls) is (within-set ix ls j 0 w (omega arith)),
      subst (λ (s : List ℕ). place s ls + product (drop j ls) ≡ place from ls + 1) is (carry ix ls j _ w (omega arith) inv full),
    )

pub returns-else-next-length : goal.returns-else-next-length
returns-else-next-length g c =
    let ls = g.D.Dimension.words c.args.dim.now in
    let ix = g.D.Dimension.words c.loop-axis.index in
    let from = g.D.Dimension.words c.args.index in
    let w = c.loop-axis.invariant.0 in
    let j = c.loop-axis.axis - 1 in
    let e : c.loop-axis.axis ≡ j + 1 = omega arith in
    let h : j < length ls = omega arith in
    let inv = subst (λ m. place ix ls + product (drop m ls) ≡ place from ls + 1) e c.loop-axis.invariant.1 in
    let less : get_or ix j 0 + 1 < get_or ls j 0 = omega (arith, within_at ix ls j w h) in
    let v : get_or ix j 0 + 1 ≡ c.word_at-next.result + 1 = omega arith in
    let is : set ix j (get_or ix j 0 + 1) ≡ g.D.Dimension.words c.set-else-next-length.new.self = ap (set ix j) v ∙ sym c.set-else-next-length.ensures.after in (
      subst (λ (s : List ℕ). Within s ls) is (within-set ix ls j (get_or ix j 0 + 1) w less),
      ap (λ (s : List ℕ). place s ls) (sym is) ∙ stop ix ls j (place from ls + 1) w h inv,
    )

pub returns : goal.returns
returns g c =
    let ls = g.D.Dimension.words c.args.dim.now in
    carry_all (g.D.Dimension.words c.args.index) (g.D.Dimension.words c.loop-axis.index) ls c.loop-axis.axis (omega arith) c.requires c.loop-axis.invariant.1
