-- The walk over slices of what is left of the rows.
use Rattle.std.proofs.Common.{◌≡◌, ℕ, suc, ◌+◌, ◌-◌, ◌<◌, ◌≤◌, ◌⊎◌, List, [], ◌∷◌, ◌++◌, length, get_or, take, drop, set, ℤ, pos, ◌*ℤ◌, replicate, Some, Ok, Err, int_div, refl, sym, ap, ◌∙◌, subst, inl, inr, append-nil, zero-add, length-append, arith, w64, to_z}
use Rattle.std.proofs.lemmas.List.{get_or-map, length-map, map-append, take_all, length-take, length-drop, drop_all, drop-map}
use Rattle.std.proofs.lemmas.Bool.{lt-ltb, cond-true}
use Rattle.laws.specs.Strides.{signed}
use Rattle.laws.specs.Reshaping.{put, walk, regrouped, group, Ready}
use Rattle.laws.specs.Faults.{Fault}
use Rattle.laws.specs.ReshapingSteps.{quotients, Step, Refused}
use Rattle.laws.proofs.ReshapingGroupsProducts.{near-length}
use Rattle.laws.proofs.ReshapingWalkTurns.{put_none, put-put, walk_ends, walk-stops, take-written, step_both, step_old, step_new, step_group}
use Rattle.dimension.specs.Rows.{pushed}
use Rattle.reshaping.specs.Turns.{Passed}

-- The axes ls', ss' and ms' are left, and the strides out are written.
pub record Going (ls : List ℕ) (zs : List ℤ) (ms : List ℕ) (ls' ss' ms' out : List ℕ) : Type 0 where
  pub fuel : ℕ
  pub enough : length ls' + length ms' ≤ fuel
  pub even : length ss' ≡ length ls'
  pub few : length ls' ≤ 8
  pub room : length out + length ms' ≤ 8
  pub ready : Ready ls' (signed ss') ms'
  pub answer : put (signed out) (walk fuel ls' (signed ss') ms') ≡ regrouped ls zs ms

pub stride_at : (ss : List ℕ) (a : ℕ) → a < length ss → to_z w64 (get_or ss a 0) ≡ get_or (signed ss) a (pos 0)
stride_at ss a h = sym (get_or-map (λ w. to_z w64 w) ss a 0 (pos 0) h)

pub signed_pushed : (ws : List ℕ) (w : ℕ) → length ws < 8 → signed (pushed ws w) ≡ signed ws ++ to_z w64 w ∷ []
signed_pushed ws w h = ap signed (cond-true _ _ _ (lt-ltb (length ws) 8 h)) ∙ map-append (λ w. to_z w64 w) ws (w ∷ [])

pub length_pushed : (ws : List ℕ) (w : ℕ) → length ws < 8 → length (pushed ws w) ≡ length ws + 1
length_pushed ws w h = ap length (cond-true _ _ _ (lt-ltb (length ws) 8 h)) ∙ length-append ws (w ∷ [])

length_quotients : (ms : List ℕ) (w : ℤ) → length (quotients w ms) ≡ length ms
length_quotients [] w = refl
length_quotients (m ∷ ms) w = ap suc (length_quotients ms (int_div w (pos m)))

-- a turn at the first axes, of which the new strides are known
module _ (ls : List ℕ) (zs : List ℤ) (ms : List ℕ) (before after : List ℤ) where
  passed : (old new written : List ℤ) (a b : ℕ) → Step ls zs ms 0 0 old new a b → take b new ≡ written → length written ≡ b → after ≡ before ++ written → Passed ls zs ms before after a b
  passed old new written a b s e long is = record {
    some = s.on;
    olds = s.old_in;
    news = s.new_in;
    long = ap length is ∙ length-append before written ∙ ap (λ n. length before + n) long;
    ready = s.ready;
    rest = λ n.
        ap (put before) (sym (put_none (walk (suc n) ls zs ms)) ∙ s.rest n ∙ ap (λ x. put x (walk n (drop a ls) (drop a zs) (drop b ms))) e)
        ∙ put-put before written (walk n (drop a ls) (drop a zs) (drop b ms))
        ∙ ap (λ x. put x (walk n (drop a ls) (drop a zs) (drop b ms))) (sym is);
  }

  module _ (h : 0 < length ls) (k : 0 < length ms) (r : Ready ls zs ms) where
    pub passed_both : (w : ℕ) → get_or ls 0 0 ≡ get_or ms 0 0 → to_z w64 w ≡ get_or zs 0 (pos 0) → after ≡ before ++ to_z w64 w ∷ [] → Passed ls zs ms before after 1 1
    passed_both w e f is =
        passed (signed ms) (signed (set ms 0 w)) (to_z w64 w ∷ []) 1 1 (step_both ls zs ms 0 0 h k (near-length ls zs r.near) r ms w refl e f) (take-written ms 0 w k) refl is

    pub passed_old : get_or ls 0 0 ≡ 1 → (get_or ls 0 0 ≡ get_or ms 0 0 → ⊥) → after ≡ before → Passed ls zs ms before after 1 0
    passed_old e ne is =
        passed [] [] [] 1 0 (step_old ls zs ms 0 0 h k (near-length ls zs r.near) r [] e ne) refl refl (is ∙ sym (append-nil before))

    pub passed_new : (get_or ls 0 0 ≡ 1 → ⊥) → get_or ms 0 0 ≡ 1 → after ≡ before ++ pos 1 ∷ [] → Passed ls zs ms before after 0 1
    passed_new ne e is =
        passed (signed ms) (signed (set ms 0 1)) (pos 1 ∷ []) 0 1 (step_new ls zs ms 0 0 h k (near-length ls zs r.near) r ms refl ne e) (take-written ms 0 1 k) refl is

    pub passed_group : (g : ℕ × ℕ × ℤ) (w : ℤ) → (get_or ls 0 0 ≡ 1 → ⊥) → (get_or ms 0 0 ≡ 1 → ⊥) → group ls zs ms ≡ Some g → w ≡ pos (get_or ls 0 0) *ℤ get_or zs 0 (pos 0)
        → g.1 ≤ length ms → after ≡ before ++ quotients w (take g.1 ms) → Passed ls zs ms before after g.0 g.1
    passed_group (a, b, e) w nl nm found f within is =
        let written = quotients w (take b ms) in
        let cut = length-take b ms in
        let long : length written ≡ b = length_quotients (take b ms) w ∙ omega arith in
        let all : take b written ≡ written = take_all b written (omega arith) in
        let s : Step ls zs ms 0 0 written written (0 + a) (0 + b) = step_group ls zs ms 0 0 h k (near-length ls zs r.near) r (a, b, e) written written w nl nm found refl f (rw zero-add all) in
        passed written written written a b (rw (zero-add a, zero-add b) at s) all long is

-- ---- the loop

pub going_start : (ls ss ms : List ℕ) → Ready ls (signed ss) ms → length ls ≤ 8 → length ms ≤ 8 → Going ls (signed ss) ms ls ss ms []
unfolding regrouped
going_start ls ss ms r few room =
    let even = near-length ls (signed ss) r.near in
    let words = length-map ss (λ w. to_z w64 w) in
    record {
      fuel = length ls + length ms;
      enough = omega arith;
      even = omega arith;
      few = few;
      room = omega arith;
      ready = r;
      answer = put_none (walk (length ls + length ms) ls (signed ss) ms);
    }

module _ (ls : List ℕ) (zs : List ℤ) (ms ls' ss' ms' out : List ℕ) (w : Going ls zs ms ls' ss' ms' out) where
  some_fuel : 0 < length ls' → suc (w.fuel - 1) ≡ w.fuel
  some_fuel h = let k = w.enough in omega arith

  pub going_on : (new : List ℕ) (a b : ℕ) → 0 < length ls' → Passed ls' (signed ss') ms' (signed out) (signed new) a b → Going ls zs ms (drop a ls') (drop a ss') (drop b ms') new
  going_on new a b h s =
      let l1 = length-drop a ls' in let l2 = length-drop a ss' in let l3 = length-drop b ms' in
      let s1 = s.some in let s2 = s.olds in let s3 = s.news in let s4 = s.long in
      let m1 = length-map new (λ w. to_z w64 w) in let m2 = length-map out (λ w. to_z w64 w) in
      let w1 = w.enough in let w2 = w.even in let w3 = w.room in
      let strides : drop a (signed ss') ≡ signed (drop a ss') = drop-map (λ w. to_z w64 w) a ss' in
      record {
        fuel = w.fuel - 1;
        enough = omega arith;
        even = omega arith;
        few = let f = w.few in omega arith;
        room = omega arith;
        ready = subst (λ (x : List ℤ). Ready (drop a ls') x (drop b ms')) strides s.ready;
        answer = ap (λ x. put (signed new) (walk (w.fuel - 1) (drop a ls') x (drop b ms'))) (sym strides) ∙ sym (s.rest (w.fuel - 1)) ∙ ap (λ n. put (signed out) (walk n ls' (signed ss') ms')) (some_fuel h) ∙ w.answer;
      }

  pub going_refused : (e : Fault) → 0 < length ls' → Refused ls' (signed ss') ms' 0 0 e → Err e ≡ regrouped ls zs ms
  going_refused e h r = sym (ap (put (signed out)) (r (w.fuel - 1))) ∙ ap (λ n. put (signed out) (walk n ls' (signed ss') ms')) (some_fuel h) ∙ w.answer

  pub going_done : (length ls' ≡ 0) ⊎ (length ms' ≡ 0) → Ok (signed out ++ replicate (length ms') (pos 1)) ≡ regrouped ls zs ms
  going_done (inl h) =
      let k = w.enough in
      sym (ap (put (signed out)) (ap (λ x. walk w.fuel x (signed ss') ms') (drop_all 0 ls' (omega arith)) ∙ walk_ends w.fuel (signed ss') ms' (omega arith))) ∙ w.answer
  going_done (inr h) =
      let k = w.enough in
      ap (λ n. Ok (signed out ++ replicate n (pos 1))) h
      ∙ sym (ap (put (signed out)) (ap (λ x. walk w.fuel ls' (signed ss') x) (drop_all 0 ms' (omega arith)) ∙ walk-stops w.fuel ls' (signed ss') (near-length ls' (signed ss') w.ready.near) (omega arith)))
      ∙ w.answer
