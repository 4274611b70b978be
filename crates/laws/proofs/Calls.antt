-- Any accepted call leaves a grid with the model's lengths, whose tuples stand for tuples of the old one as the model works them back.
use Rattle.std.proofs.Common.{◌≡◌, Bool, true, false, cond, Some, None, Option, refl}
use Rattle.std.proofs.lemmas.Bool.{both_ways}
use Rattle.laws.specs.Space.{Seen, Sound}
use Rattle.laws.specs.Faults.{Fault}
use Rattle.laws.specs.Slicing.{slice_fault, sliced, sliced_back}
use Rattle.laws.specs.Collapsing.{collapse_fault}
use Rattle.laws.specs.Merging.{merge_fault, mergeable, merged, merged_back}
use Rattle.laws.specs.Calls.{Call, Slicing, Collapsing, Merging, Answer, No, Done, refused_or, answer, accepted, effect}
use Rattle.laws.specs.Model.{new_lens, back}
use Rattle.laws.proofs.Refining.{Refined, refined_alike}
use Rattle.laws.proofs.Slicing.{slice_passed, sliced_refined}
use Rattle.laws.proofs.Collapsing.{collapsed_refined}
use Rattle.laws.proofs.Merging.{merged_refined}
use Rattle.laws.proofs.Model.{slicing-lens, slicing-back, merging-lens, merging-back}

-- ---- what an accepted call tells

not_refused : (o : Option Fault) (a : Answer) → accepted (refused_or o a) ≡ true → (o ≡ None) × (accepted a ≡ true)
not_refused (Some f) a e = absurd (both_ways false refl e)
not_refused None a e = (refl, e)

yes_said : (b : Bool) → accepted (cond b Done No) ≡ true → b ≡ true
yes_said true e = refl
yes_said false e = absurd (both_ways false refl e)

-- ---- the lengths and the tuples after it

pub call-lens : (c : Call) (s : Seen) → accepted (answer c s) ≡ true → (effect c s).lens ≡ new_lens c s.lens
call-lens (Slicing es) s e = slicing-lens 0 es s.lens (slice_passed es s.lens (not_refused (slice_fault es s.lens) Done e).0).2
call-lens (Collapsing axis index) s e = refl
call-lens (Merging take into) s e = merging-lens take into s.lens

pub call_refined : (c : Call) (s : Seen) → Sound s → accepted (answer c s) ≡ true → Refined s (effect c s) (back c s.lens)
call_refined (Slicing es) s h e =
    let none = (not_refused (slice_fault es s.lens) Done e).0 in
    refined_alike s (sliced es s) (sliced_back es s.lens) _ (λ ix w. slicing-back 0 es s.lens ix (slice_passed es s.lens none).2 w)
    (sliced_refined s es h none)
call_refined (Collapsing axis index) s h e = collapsed_refined s axis index h (not_refused (collapse_fault axis index s) Done e).0
call_refined (Merging take into) s h e =
    let done = not_refused (merge_fault take into s) (cond (mergeable take into s) Done No) e in
    refined_alike s (merged take into s) (merged_back take into s.lens) _ (λ ix w. merging-back take into s.lens ix)
    (merged_refined s h take into done.0 (yes_said (mergeable take into s) done.1))
