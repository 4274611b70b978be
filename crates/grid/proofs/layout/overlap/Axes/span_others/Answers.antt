use Rattle.std.proofs.Common.{rules, ◌≡◌, ℕ, ◌+◌, ◌-◌, ◌*◌, ◌^◌, ◌<◌, ◌≤◌, List, ◌∷◌, length, min, nat_abs, sym, ap, ◌∙◌, ap₂, inl, suc, cond, eqb, leb, arith, w64, to_z}
use Rattle.laws.specs.Strides.{signed}
use Rattle.laws.specs.Opening.{span}
use Rattle.laws.proofs.Others.{part, parts_from, parts_are, others_below}
use Rattle.grid.proofs.layout.overlap.Axes.span_others.Goals as goal

pub loop-place-init : goal.loop-place-init
loop-place-init c =
    let ls = c.args.self.now.lens.now in
    let ws = c.args.self.now.strides.now in
    let k = c.args.axis in
    let m = c.args.most in
    let it = c.into_iter-place-iterator.result in
    let none : it.count ≡ 0 = search rules in
    let lens : it.iter.a.rest.now ≡ ls = search rules in
    let strides : it.iter.b.rest.now ≡ ws = search rules in
    let long : length it.iter.a.rest.now ≡ length it.iter.b.rest.now = ap length lens ∙ c.args.self.now.rank ∙ sym (ap length strides) in
    let zero : k ≡ 0 + k = omega arith in
    let few = c.iter.ensures.bound in
    let fits : it.count + min (length it.iter.a.rest.now) (length it.iter.b.rest.now) < 2 ^ 64 = omega (arith, none, few, ap length lens, ap length c.iter.ensures.rest) in
    let reach : span it.iter.a.rest.now (signed it.iter.b.rest.now) ≡ span ls (signed ws) = ap₂ (λ (x y : List ℕ). span x (signed y)) lens strides in
    let rest : parts_from it.count k m it.iter.a.rest.now (signed it.iter.b.rest.now) ≡ parts_from 0 k m ls (signed ws) =
    ap (λ n. parts_from n k m it.iter.a.rest.now (signed it.iter.b.rest.now)) none ∙ ap₂ (λ (x y : List ℕ). parts_from 0 k m x (signed y)) lens strides in
    (((tt, tt), tt, inl fits), tt, long, omega (arith, c.args.self.now.fits, reach), omega (arith, rest ∙ ap (λ n. parts_from 0 n m ls (signed ws)) zero ∙ parts_are 0 k m ls (signed ws)))

share_within : (i j k m n w size r far : ℕ) (ls ws ns us : List ℕ) (whole : ℕ) → (ls ≡ n ∷ ns) × (ws ≡ w ∷ us) → i ≡ j → size ≡ nat_abs (to_z w64 w)
    → r ≡ cond (eqb i k) 0 (cond (leb size m) ((n - 1) * size) 0) → far + parts_from j k m ls (signed ws) ≡ whole → far + r ≤ whole
share_within i j k m n w size r far ls ws ns us whole e same s is inv =
    let parts : parts_from j k m ls (signed ws) ≡ part j k m n (to_z w64 w) + parts_from (suc j) k m ns (signed us) = ap₂ (λ (x y : List ℕ). parts_from j k m x (signed y)) e.0 e.1 in
    let one : r ≡ part j k m n (to_z w64 w) = is ∙ ap₂ (λ (x y : ℕ). cond (eqb x k) 0 (cond (leb y m) ((n - 1) * y) 0)) same s in
    omega arith

pub overflow_add-far : goal.overflow_add-far
overflow_add-far c =
    let within = share_within c.in-Some.place _ c.args.axis c.args.most c.in-Some.length.now c.in-Some.stride.now c.magnitude.result c.axis_share-far.result c.loop-place.far _ _ _ _ _
    c.in-Some.ensures.steps.0 c.in-Some.ensures.steps.1 c.magnitude.ensures c.axis_share-far.ensures c.loop-place.invariant.4 in
    omega (arith, c.args.self.now.fits, others_below c.args.axis c.args.most c.args.self.now.lens.now (signed c.args.self.now.strides.now))
