use mir.Val.{Fits, SFits, of_z}
use Rattle.std.proofs.Math.Facts.{sfits_to_z}
use Rattle.std.proofs.Common.{◌≡◌, ℕ, ◌+◌, ◌<◌, ◌≤◌, List, [], ◌∷◌, ◌++◌, length, get_or, drop, ℤ, pos, sym, ap, ◌∙◌, append_assoc, arith, w64, to_z}
use lib.Signed.{quot_z}
use Rattle.std.proofs.lemmas.Int.{ints, quot_fits, to_z-of_z}
use Rattle.std.proofs.lemmas.List.{drop_more}
use Rattle.laws.specs.Lengths.{product}
use Rattle.laws.specs.Strides.{signed}
use Rattle.laws.specs.Reshaping.{Positive}
use Rattle.laws.specs.ReshapingSteps.{quotients}
use Rattle.laws.proofs.ReshapingGroupsProducts.{positive_at, length_below}
use Rattle.dimension.specs.Rows.{listed}
use Rattle.reshaping.proofs.Walking.{signed_pushed, length_pushed}
use Rattle.reshaping.proofs.groups.write_group.Goals as goal

new_length : (ms : List ℕ) (i : ℕ) → Positive ms → product ms ≤ 1048576 → i < length ms → (0 < get_or ms i 0) × (get_or ms i 0 ≤ 1048576)
new_length ms i some small within = let below = length_below ms i some within in (positive_at ms i some within, omega arith)

-- a signed word divided by a length
quotient : (bits n : ℕ) → Fits w64 bits → (0 < n) × (n ≤ 1048576)
    → SFits w64 (quot_z (to_z w64 bits) (to_z w64 n)) × (to_z w64 (of_z w64 (quot_z (to_z w64 bits) (to_z w64 n))) ≡ quot_z (to_z w64 bits) (pos n))
quotient bits n fits within =
    let read : to_z w64 n ≡ pos n = omega (arith, ints) in
    let q : SFits w64 (quot_z (to_z w64 bits) (to_z w64 n)) = quot_fits w64 (to_z w64 bits) (to_z w64 n) (sfits_to_z fits) (omega (arith, ints)) in
    (q, to_z-of_z w64 _ q ∙ ap (λ z. quot_z (to_z w64 bits) z) read)

write_more : (xs : List ℤ) (ms : List ℕ) (i : ℕ) (s t : ℤ) (whole : List ℤ) → i < length ms → t ≡ quot_z s (pos (get_or ms i 0))
    → xs ++ quotients s (drop i ms) ≡ whole → (xs ++ t ∷ []) ++ quotients t (drop (i + 1) ms) ≡ whole
write_more xs ms i s t whole h e f =
    append_assoc xs (t ∷ []) (quotients t (drop (i + 1) ms))
    ∙ ap (λ x. xs ++ x ∷ quotients x (drop (i + 1) ms)) e
    ∙ ap (λ x. xs ++ quotients s x) (sym (drop_more ms i 0 h))
    ∙ f

pub overflow_cast-step : goal.overflow_cast-step
overflow_cast-step c =
    let within = new_length _ c.loop-length.length-index c.requires.some c.requires.small (omega arith) in
    omega (arith, ints)

pub nonzero_div-step : goal.nonzero_div-step
nonzero_div-step c =
    let within = new_length _ c.loop-length.length-index c.requires.some c.requires.small (omega arith) in
    (within.0, (quotient _ _ c.loop-length.auto.step-fits within).0)

pub loop-length-preserved : goal.loop-length-preserved
loop-length-preserved c =
    let ms = c.args.lengths.now in
    let out = listed c.loop-length.out in
    let i = c.loop-length.length-index in
    let inv = c.loop-length.invariant in
    let room : length out < 8 = omega arith in
    let q = quotient c.loop-length.step-bits (get_or ms i 0) c.loop-length.auto.step-fits (new_length ms i c.requires.some c.requires.small (omega arith)) in
    let word = c.cast_unsigned.ensures ∙ ap (λ z. of_z w64 z) (to_z-of_z w64 _ q.0) in
    let written : signed (listed c.push.new.self) ≡ signed out ++ to_z w64 (of_z w64 (quot_z (to_z w64 c.loop-length.step-bits) (to_z w64 (get_or ms i 0)))) ∷ [] =
    ap signed c.push.ensures.after ∙ signed_pushed out _ room ∙ ap (λ n. signed out ++ to_z w64 n ∷ []) word in
    let more = ap length c.push.ensures.after ∙ length_pushed out _ room in
    (rw written (write_more (signed out) ms i _ _ _ (omega arith) q.1 inv.0), omega arith)
