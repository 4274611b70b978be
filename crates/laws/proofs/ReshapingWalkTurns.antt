-- One turn of the walk.
use Rattle.std.proofs.Common.{◌≡◌, ℕ, zero, suc, ◌+◌, ◌<◌, ◌≤◌, eqb, List, [], ◌∷◌, ◌++◌, length, get_or, take, drop, set, replicate, ℤ, pos, ◌*ℤ◌, Some, None, Ok, Err, Result, sym, refl, ap, ◌∙◌, subst, ap₂, inl, inr, mul-one, arith, w64, to_z}
use Rattle.std.proofs.lemmas.List.{append_assoc, drop_more, drop-drop, take_more_set, length-set, length-map, length-drop, map-set}
use Rattle.std.proofs.lemmas.Bool.{eq-eqb, ne_eqb, cases_eq, cond-true, cond-false}
use Rattle.laws.specs.Faults.{Fault, in_rows}
use Rattle.laws.specs.Lengths.{product}
use Rattle.laws.proofs.ReshapingGroupsStrides.{Linear}
use Rattle.laws.specs.Strides.{signed}
use Rattle.laws.specs.Reshaping.{closing, group, chain, put, grouped, walk, Ready}
use Rattle.laws.specs.ReshapingSteps.{quotients, Step, Refused}
use Rattle.laws.proofs.ReshapingGroupsProducts.{positive-take, ready-cut}
use Rattle.laws.proofs.ReshapingGroupsClosing.{closing-done, Closed, group_closed}
use Rattle.laws.proofs.ReshapingGroupsStrides.{quotients-chain}
use Rattle.laws.proofs.Integers.{times_assoc}

pub put-put : (xs ys : List ℤ) (r : Result (List ℤ) Fault) → put xs (put ys r) ≡ put (xs ++ ys) r
put-put xs ys (Ok zs) = ap Ok (sym (append_assoc xs ys zs))
put-put xs ys (Err e) = refl

pub put_none : (r : Result (List ℤ) Fault) → put [] r ≡ r
put_none (Ok zs) = refl
put_none (Err e) = refl

-- ---- the walk at two first axes
module _ (n l m : ℕ) (s : ℤ) (ls ms : List ℕ) (ss : List ℤ) where
  after : ℕ × ℕ × ℤ → Result (List ℤ) Fault
  after g = put (chain g.2 (take g.1 (m ∷ ms))) (walk n (drop g.0 (l ∷ ls)) (drop g.0 (s ∷ ss)) (drop g.1 (m ∷ ms)))

  pub walk_both : l ≡ 1 → m ≡ 1 → walk (suc n) (l ∷ ls) (s ∷ ss) (m ∷ ms) ≡ put (s ∷ []) (walk n ls ss ms)
  unfolding walk
  walk_both e f = cond-true (eqb l 1) _ _ (eq-eqb l 1 e) ∙ cond-true (eqb m 1) _ _ (eq-eqb m 1 f)

  pub walk_old : l ≡ 1 → (m ≡ 1 → ⊥) → walk (suc n) (l ∷ ls) (s ∷ ss) (m ∷ ms) ≡ walk n ls ss (m ∷ ms)
  unfolding walk
  walk_old e f = cond-true (eqb l 1) _ _ (eq-eqb l 1 e) ∙ cond-false (eqb m 1) _ _ (ne_eqb m 1 f)

  pub walk_new : (l ≡ 1 → ⊥) → m ≡ 1 → walk (suc n) (l ∷ ls) (s ∷ ss) (m ∷ ms) ≡ put (pos 1 ∷ []) (walk n (l ∷ ls) (s ∷ ss) ms)
  unfolding walk
  walk_new e f = cond-false (eqb l 1) _ _ (ne_eqb l 1 e) ∙ cond-true (eqb m 1) _ _ (eq-eqb m 1 f)

  pub walk-group : (l ≡ 1 → ⊥) → (m ≡ 1 → ⊥) → walk (suc n) (l ∷ ls) (s ∷ ss) (m ∷ ms) ≡ grouped (group (l ∷ ls) (s ∷ ss) (m ∷ ms)) (λ g. put (chain g.2 (take g.1 (m ∷ ms))) (walk n (drop g.0 (l ∷ ls)) (drop g.0 (s ∷ ss)) (drop g.1 (m ∷ ms))))
  unfolding walk
  walk-group e f = cond-false (eqb l 1) _ _ (ne_eqb l 1 e) ∙ cond-false (eqb m 1) _ _ (ne_eqb m 1 f)

  -- equal lengths
  pub walk_same : l ≡ m → walk (suc n) (l ∷ ls) (s ∷ ss) (m ∷ ms) ≡ put (s ∷ []) (walk n ls ss ms)
  walk_same e = elim (cases_eq l 1) [
    | inl one ↦ walk_both one (sym e ∙ one)
    | inr more ↦
        let fuel : length (l ∷ ls) + length (m ∷ ms) ≡ suc (length ls + suc (length ms)) = omega arith in
        let f : group (l ∷ ls) (s ∷ ss) (m ∷ ms) ≡ Some (1, 1, s) =
        ap (λ n. closing (l ∷ ls) (s ∷ ss) (m ∷ ms) n 1 1 l m s) fuel ∙ closing-done (l ∷ ls) (s ∷ ss) (m ∷ ms) (length ls + suc (length ms)) 1 1 l m s e in
        walk-group more (λ f. more (e ∙ f)) ∙ ap (λ x. grouped x (λ g. put (chain g.2 (take g.1 (m ∷ ms))) (walk n (drop g.0 (l ∷ ls)) (drop g.0 (s ∷ ss)) (drop g.1 (m ∷ ms))))) f
  ]

-- ---- where one list ends
module _ where
  pub walk_ends : (n : ℕ) (ss : List ℤ) (ms : List ℕ) → length ms ≤ n → walk n [] ss ms ≡ Ok (replicate (length ms) (pos 1))
  unfolding walk
  walk_ends zero ss [] h = refl
  walk_ends zero ss (m ∷ ms) h = absurd (omega arith)
  walk_ends (suc n) ss [] h = refl
  walk_ends (suc n) ss (m ∷ ms) h = ap (put (pos 1 ∷ [])) (walk_ends n ss ms (omega arith))

  pub walk-stops : (n : ℕ) (ls : List ℕ) (ss : List ℤ) → length ss ≡ length ls → length ls ≤ n → walk n ls ss [] ≡ Ok []
  unfolding walk
  walk-stops zero ls ss e h = refl
  walk-stops (suc n) [] ss e h = refl
  walk-stops (suc n) (l ∷ ls) [] e h = absurd (omega arith)
  walk-stops (suc n) (l ∷ ls) (s ∷ ss) e h = walk-stops n ls ss (omega arith) (omega arith)

-- ---- one turn, at the cursors i and j
pub take-written : (old : List ℕ) (j w : ℕ) → j < length old → take (j + 1) (signed (set old j w)) ≡ take j (signed old) ++ to_z w64 w ∷ []
take-written old j w h =
    ap (take (j + 1)) (map-set (λ w. to_z w64 w) old j w) ∙ take_more_set (signed old) j (to_z w64 w) (subst (λ (k : ℕ). j < k) (sym (length-map old (λ w. to_z w64 w))) h)

long-written : (old : List ℕ) (j w : ℕ) → length (signed (set old j w)) ≡ length (signed old)
long-written old j w = length-map (set old j w) (λ w. to_z w64 w) ∙ length-set old j w ∙ sym (length-map old (λ w. to_z w64 w))

module _ (ls : List ℕ) (ss : List ℤ) (ms : List ℕ) (i j : ℕ) (h : i < length ls) (k : j < length ms) (even : length ss ≡ length ls) (r : Ready (drop i ls) (drop i ss) (drop j ms)) where
  at : (n : ℕ) → walk (suc n) (drop i ls) (drop i ss) (drop j ms) ≡ walk (suc n) (get_or ls i 0 ∷ drop (i + 1) ls) (get_or ss i (pos 0) ∷ drop (i + 1) ss) (get_or ms j 0 ∷ drop (j + 1) ms)
  at n =
      let k' : i < length ss = omega arith in
      ap (λ x. walk (suc n) x (drop i ss) (drop j ms)) (drop_more ls i 0 h)
      ∙ ap (λ x. walk (suc n) (get_or ls i 0 ∷ drop (i + 1) ls) x (drop j ms)) (drop_more ss i (pos 0) k')
      ∙ ap (λ x. walk (suc n) (get_or ls i 0 ∷ drop (i + 1) ls) (get_or ss i (pos 0) ∷ drop (i + 1) ss) x) (drop_more ms j 0 k)

  -- what is ready after some axes
  on-ready : (a b : ℕ) → product (take a (drop i ls)) ≡ product (take b (drop j ms)) → Ready (drop (i + a) ls) (drop (i + a) ss) (drop (j + b) ms)
  on-ready a b e = rw (← drop-drop a i ls, ← drop-drop a i ss, ← drop-drop b j ms) (ready-cut (drop i ls) (drop i ss) (drop j ms) a b r e)

  one_old : product (take 1 (drop i ls)) ≡ get_or ls i 0
  one_old = ap (λ x. product (take 1 x)) (drop_more ls i 0 h) ∙ mul-one (get_or ls i 0)

  one_new : product (take 1 (drop j ms)) ≡ get_or ms j 0
  one_new = ap (λ x. product (take 1 x)) (drop_more ms j 0 k) ∙ mul-one (get_or ms j 0)

  pub step_both : (old : List ℕ) (w : ℕ) → length old ≡ length ms → get_or ls i 0 ≡ get_or ms j 0 → to_z w64 w ≡ get_or ss i (pos 0) → Step ls ss ms i j (signed old) (signed (set old j w)) (i + 1) (j + 1)
  step_both old w room e f = record {
    on = omega arith;
    old_in = omega arith;
    new_in = omega arith;
    long = long-written old j w;
    ready = on-ready 1 1 (one_old ∙ e ∙ sym one_new);
    rest = λ n.
        ap (put (take j (signed old))) (at n ∙ walk_same n (get_or ls i 0) (get_or ms j 0) (get_or ss i (pos 0)) (drop (i + 1) ls) (drop (j + 1) ms) (drop (i + 1) ss) e)
        ∙ put-put (take j (signed old)) (get_or ss i (pos 0) ∷ []) _
        ∙ ap (λ xs. put xs (walk n (drop (i + 1) ls) (drop (i + 1) ss) (drop (j + 1) ms))) (ap (λ x. take j (signed old) ++ x ∷ []) (sym f) ∙ sym (take-written old j w (omega arith)));
  }

  pub step_old : (old : List ℤ) → get_or ls i 0 ≡ 1 → (get_or ls i 0 ≡ get_or ms j 0 → ⊥) → Step ls ss ms i j old old (i + 1) j
  step_old old e ne = record {
    on = omega arith;
    old_in = omega arith;
    new_in = omega arith;
    long = refl;
    ready = subst (λ (x : ℕ). Ready (drop (i + 1) ls) (drop (i + 1) ss) (drop x ms)) (omega arith) (on-ready 1 0 (one_old ∙ e));
    rest = λ n.
        ap (put (take j old)) (at n ∙ walk_old n (get_or ls i 0) (get_or ms j 0) (get_or ss i (pos 0)) (drop (i + 1) ls) (drop (j + 1) ms) (drop (i + 1) ss) e (λ f. ne (e ∙ sym f))
        ∙ ap (λ x. walk n (drop (i + 1) ls) (drop (i + 1) ss) x) (sym (drop_more ms j 0 k)));
  }

  pub step_new : (old : List ℕ) → length old ≡ length ms → (get_or ls i 0 ≡ 1 → ⊥) → get_or ms j 0 ≡ 1 → Step ls ss ms i j (signed old) (signed (set old j 1)) i (j + 1)
  step_new old room ne e = record {
    on = omega arith;
    old_in = omega arith;
    new_in = omega arith;
    long = long-written old j 1;
    ready = subst (λ (x : ℕ). Ready (drop x ls) (drop x ss) (drop (j + 1) ms)) (omega arith) (on-ready 0 1 (sym (one_new ∙ e)));
    rest = λ n.
        let k' : i < length ss = omega arith in
        ap (put (take j (signed old))) (at n ∙ walk_new n (get_or ls i 0) (get_or ms j 0) (get_or ss i (pos 0)) (drop (i + 1) ls) (drop (j + 1) ms) (drop (i + 1) ss) ne e
        ∙ ap (put (pos 1 ∷ [])) (ap₂ (λ x y. walk n x y (drop (j + 1) ms)) (sym (drop_more ls i 0 h)) (sym (drop_more ss i (pos 0) k'))))
        ∙ put-put (take j (signed old)) (pos 1 ∷ []) _
        ∙ ap (λ xs. put xs (walk n (drop i ls) (drop i ss) (drop (j + 1) ms))) (sym (take-written old j 1 (omega arith)));
  }

  group_at : (n : ℕ) → (get_or ls i 0 ≡ 1 → ⊥) → (get_or ms j 0 ≡ 1 → ⊥) → walk (suc n) (drop i ls) (drop i ss) (drop j ms)
      ≡ grouped (group (drop i ls) (drop i ss) (drop j ms)) (λ g. put (chain g.2 (take g.1 (drop j ms))) (walk n (drop g.0 (drop i ls)) (drop g.0 (drop i ss)) (drop g.1 (drop j ms))))
  group_at n nl nm =
      let k' : i < length ss = omega arith in
      rw (drop_more ls i 0 h, drop_more ss i (pos 0) k', drop_more ms j 0 k) (walk-group n (get_or ls i 0) (get_or ms j 0) (get_or ss i (pos 0)) (drop (i + 1) ls) (drop (j + 1) ms) (drop (i + 1) ss) nl nm)

  pub refused : (get_or ls i 0 ≡ 1 → ⊥) → (get_or ms j 0 ≡ 1 → ⊥) → group (drop i ls) (drop i ss) (drop j ms) ≡ None → Refused ls ss ms i j (in_rows 2)
  refused nl nm e = λ n. group_at n nl nm ∙ ap (λ x. grouped x (λ g. put (chain g.2 (take g.1 (drop j ms))) (walk n (drop g.0 (drop i ls)) (drop g.0 (drop i ss)) (drop g.1 (drop j ms))))) e

  pub closed : (g : ℕ × ℕ × ℤ) → group (drop i ls) (drop i ss) (drop j ms) ≡ Some g → Closed (drop i ls) (drop i ss) (drop j ms) g
  closed g e = group_closed (drop i ls) (drop i ss) (drop j ms) r g (let z = length-drop i ls in omega arith) (let z = length-drop j ms in omega arith) e

  -- the group's whole stride
  whole_stride : (g : ℕ × ℕ × ℤ) → Closed (drop i ls) (drop i ss) (drop j ms) g → (get_or ls i 0 ≡ 1 → ⊥) → pos (get_or ls i 0) *ℤ get_or ss i (pos 0) ≡ pos (product (take g.1 (drop j ms))) *ℤ g.2
  whole_stride (a, b, e) c nl =
      let k' : i < length ss = omega arith in
      go a (get_or ls i 0) (drop (i + 1) ls) (get_or ss i (pos 0)) (drop (i + 1) ss) c.old_some nl
      (ap (λ x. product (take a x)) (sym (drop_more ls i 0 h)) ∙ c.same)
      (rw (drop_more ls i 0 h, drop_more ss i (pos 0) k') at c.line)
    where
      go : (a l : ℕ) (ls : List ℕ) (s : ℤ) (ss : List ℤ) → 1 ≤ a → (l ≡ 1 → ⊥) → product (take a (l ∷ ls)) ≡ product (take b (drop j ms)) → Linear e (take a (l ∷ ls)) (take a (s ∷ ss)) → pos l *ℤ s ≡ pos (product (take b (drop j ms))) *ℤ e
      go zero l ls s ss p nl q c = absurd (omega arith)
      go (suc a) l ls s ss p nl q c = elim c.0 [
        | inl one ↦ absurd (nl one)
        | inr f ↦ ap (λ (x : ℤ). pos l *ℤ x) f ∙ sym (times_assoc (pos l) (pos (product (take a ls))) e) ∙ ap (λ (x : ℕ). pos x *ℤ e) q
      ]

  pub step_group : (g : ℕ × ℕ × ℤ) (old new : List ℤ) (w : ℤ) → (get_or ls i 0 ≡ 1 → ⊥) → (get_or ms j 0 ≡ 1 → ⊥) → group (drop i ls) (drop i ss) (drop j ms) ≡ Some g
      → length new ≡ length old → w ≡ pos (get_or ls i 0) *ℤ get_or ss i (pos 0)
      → take (j + g.1) new ≡ take j old ++ quotients w (take g.1 (drop j ms)) → Step ls ss ms i j old new (i + g.0) (j + g.1)
  step_group g old new w nl nm e long f made =
      let c = closed g e in
      let c1 = c.old_some in let c2 = c.old_in in let c3 = c.new_in in
      let l1 = length-drop i ls in let l2 = length-drop j ms in
      let is : quotients w (take g.1 (drop j ms)) ≡ chain g.2 (take g.1 (drop j ms)) =
      quotients-chain g.2 w (take g.1 (drop j ms)) (positive-take g.1 (drop j ms) r.news) (f ∙ whole_stride g c nl) in
      record {
        on = omega arith;
        old_in = omega arith;
        new_in = omega arith;
        long = long;
        ready = on-ready g.0 g.1 c.same;
        rest = λ n.
            ap (put (take j old)) (group_at n nl nm ∙ ap (λ x. grouped x (λ g. put (chain g.2 (take g.1 (drop j ms))) (walk n (drop g.0 (drop i ls)) (drop g.0 (drop i ss)) (drop g.1 (drop j ms))))) e)
            ∙ put-put (take j old) (chain g.2 (take g.1 (drop j ms))) _
            ∙ ap (λ xs. put xs (walk n (drop g.0 (drop i ls)) (drop g.0 (drop i ss)) (drop g.1 (drop j ms)))) (ap (λ x. take j old ++ x) (sym is) ∙ sym made)
            ∙ rw (drop-drop g.0 i ls, drop-drop g.0 i ss, drop-drop g.1 j ms);
      }
