-- A walk that is not refused puts old and new axes into groups.
use Rattle.std.proofs.Common.{◌≡◌, ℕ, zero, suc, ◌+◌, ◌*◌, ◌<◌, ◌≤◌, eqb, List, [], ◌∷◌, ◌++◌, length, take, drop, ℤ, pos, Some, None, Ok, Err, Option, Result, sym, refl, ◌∙◌, subst, inl, inr, mul-one, arith}
use Rattle.std.proofs.lemmas.List.{take-append-drop, length-drop}
use Rattle.std.proofs.lemmas.Bool.{cases_eq, eq-eqb, ne_eqb, cond-true, cond-false}
use Rattle.laws.specs.Lengths.{product}
use Rattle.laws.specs.Faults.{Fault}
use Rattle.laws.specs.Reshaping.{group as grouping, chain, put, grouped, walk, regrouped, Ready}
use Rattle.laws.proofs.Lengths.{part_below}
use Rattle.laws.proofs.ReshapingSizes.{positive-product, ready-cut}
use Rattle.laws.proofs.ReshapingGroups.{Groups, Groups.none, Groups.group, chain_in_step}
use Rattle.laws.proofs.ReshapingClosing.{group_closed}

-- ---- what an answer tells of its parts

put_ok : (xs : List ℤ) (r : Result (List ℤ) Fault) (ts : List ℤ) → put xs r ≡ Ok ts → (ys : List ℤ) × (r ≡ Ok ys) × (xs ++ ys ≡ ts)
put_ok xs (Ok ys) ts e = (ys, refl, cc)
put_ok xs (Err f) ts e = let z : ◌≡◌ {A = ℕ} 0 1 = cc in absurd (omega arith)

grouped_ok : (o : Option (ℕ × ℕ × ℤ)) (f : ℕ × ℕ × ℤ → Result (List ℤ) Fault) (ts : List ℤ) → grouped o f ≡ Ok ts → (g : ℕ × ℕ × ℤ) × (o ≡ Some g) × (f g ≡ Ok ts)
grouped_ok None f ts e = let z : ◌≡◌ {A = ℕ} 0 1 = cc in absurd (omega arith)
grouped_ok (Some g) f ts e = (g, refl, e)

-- ---- one turn of the walk

walk_none : (zs : List ℤ) (ms : List ℕ) (ts : List ℤ) → walk 0 [] zs ms ≡ Ok ts → [] ≡ ts
unfolding walk
walk_none zs ms ts e = let f : ◌≡◌ {A = Result (List ℤ) Fault} (Ok []) (Ok ts) = e in cc

walk_end : (n : ℕ) (zs : List ℤ) (ts : List ℤ) → walk (suc n) [] zs [] ≡ Ok ts → [] ≡ ts
unfolding walk
walk_end n zs ts e = let f : ◌≡◌ {A = Result (List ℤ) Fault} (Ok []) (Ok ts) = e in cc

pub walk_more : (n m : ℕ) (zs : List ℤ) (ms : List ℕ) → walk (suc n) [] zs (m ∷ ms) ≡ put (pos 1 ∷ []) (walk n [] zs ms)
unfolding walk
walk_more n m zs ms = refl

pub walk_less : (n l : ℕ) (z : ℤ) (ls : List ℕ) (zs : List ℤ) → walk (suc n) (l ∷ ls) (z ∷ zs) [] ≡ walk n ls zs []
unfolding walk
walk_less n l z ls zs = refl

module _ (n l m : ℕ) (z : ℤ) (ls : List ℕ) (zs : List ℤ) (ms : List ℕ) where
  abbrev after : ℕ × ℕ × ℤ → Result (List ℤ) Fault
  after g = put (chain g.2 (take g.1 (m ∷ ms))) (walk n (drop g.0 (l ∷ ls)) (drop g.0 (z ∷ zs)) (drop g.1 (m ∷ ms)))

  pub walk_both : l ≡ 1 → m ≡ 1 → walk (suc n) (l ∷ ls) (z ∷ zs) (m ∷ ms) ≡ put (z ∷ []) (walk n ls zs ms)
  unfolding walk
  walk_both e f = cond-true (eqb l 1) _ _ (eq-eqb l 1 e) ∙ cond-true (eqb m 1) _ _ (eq-eqb m 1 f)

  pub walk_old : l ≡ 1 → (m ≡ 1 → ⊥) → walk (suc n) (l ∷ ls) (z ∷ zs) (m ∷ ms) ≡ walk n ls zs (m ∷ ms)
  unfolding walk
  walk_old e f = cond-true (eqb l 1) _ _ (eq-eqb l 1 e) ∙ cond-false (eqb m 1) _ _ (ne_eqb m 1 f)

  pub walk_new : (l ≡ 1 → ⊥) → m ≡ 1 → walk (suc n) (l ∷ ls) (z ∷ zs) (m ∷ ms) ≡ put (pos 1 ∷ []) (walk n (l ∷ ls) (z ∷ zs) ms)
  unfolding walk
  walk_new e f = cond-false (eqb l 1) _ _ (ne_eqb l 1 e) ∙ cond-true (eqb m 1) _ _ (eq-eqb m 1 f)

  pub walk-group : (l ≡ 1 → ⊥) → (m ≡ 1 → ⊥) → walk (suc n) (l ∷ ls) (z ∷ zs) (m ∷ ms) ≡ grouped (grouping (l ∷ ls) (z ∷ zs) (m ∷ ms)) after
  unfolding walk
  walk-group e f = cond-false (eqb l 1) _ _ (ne_eqb l 1 e) ∙ cond-false (eqb m 1) _ _ (ne_eqb m 1 f)

-- ---- the groups

one_factor : (m k : ℕ) → 0 < k → 1 ≡ m * k → m ≡ 1
one_factor zero k p e = absurd (omega arith)
one_factor (suc m) k p e = let h = part_below (suc m) k 1 p (sym e) in omega arith

-- what a walk of n turns shows
abbrev Shown : ℕ → Type 0
Shown n = (ls : List ℕ) (zs : List ℤ) (ms : List ℕ) (ts : List ℤ) → Ready ls zs ms → length ls + length ms ≤ n → walk n ls zs ms ≡ Ok ts → Groups ls zs ms ts

-- a group, and the walk after it
group-rest : (n l m : ℕ) (z : ℤ) (ls : List ℕ) (zs : List ℤ) (ms : List ℕ) (ts : List ℤ) → Ready (l ∷ ls) (z ∷ zs) (m ∷ ms) → length (l ∷ ls) + length (m ∷ ms) ≤ suc n
    → Shown n → (g : ℕ × ℕ × ℤ) → grouping (l ∷ ls) (z ∷ zs) (m ∷ ms) ≡ Some g → after n l m z ls zs ms g ≡ Ok ts → Groups (l ∷ ls) (z ∷ zs) (m ∷ ms) ts
group-rest n l m z ls zs ms ts r h next (a, b, x) f p =
    let c = group_closed l m z ls zs ms (a, b, x) r f in
    let c1 : 1 ≤ a = c.old_some in
    let q = put_ok (chain x (take b (m ∷ ms))) (walk n (drop a (l ∷ ls)) (drop a (z ∷ zs)) (drop b (m ∷ ms))) ts p in
    let rest = next (drop a (l ∷ ls)) (drop a (z ∷ zs)) (drop b (m ∷ ms)) q.0 (ready-cut (l ∷ ls) (z ∷ zs) (m ∷ ms) a b r c.same)
    (omega (arith, length-drop a (l ∷ ls), length-drop b (m ∷ ms))) q.1 in
    let all = group x (take a (l ∷ ls)) (take a (z ∷ zs)) (take b (m ∷ ms)) (chain x (take b (m ∷ ms))) c.same c.steps (chain_in_step x (take b (m ∷ ms))) rest in
    subst (λ (y : List ℕ). Groups y (z ∷ zs) (m ∷ ms) ts) (take-append-drop a (l ∷ ls))
    (subst (λ (y : List ℤ). Groups (take a (l ∷ ls) ++ drop a (l ∷ ls)) y (m ∷ ms) ts) (take-append-drop a (z ∷ zs))
    (subst (λ (y : List ℕ). Groups (take a (l ∷ ls) ++ drop a (l ∷ ls)) (take a (z ∷ zs) ++ drop a (z ∷ zs)) y ts) (take-append-drop b (m ∷ ms))
    (subst (λ (y : List ℤ). Groups (take a (l ∷ ls) ++ drop a (l ∷ ls)) (take a (z ∷ zs) ++ drop a (z ∷ zs)) (take b (m ∷ ms) ++ drop b (m ∷ ms)) y) q.2 all)))

-- an old length 1 alone, a new one alone, and both: each is a group
module _ (n l m : ℕ) (z : ℤ) (ls : List ℕ) (zs : List ℤ) (ms : List ℕ) (ts : List ℤ) (next : Shown n) where
  old_one : (ks : List ℕ) → Ready (l ∷ ls) (z ∷ zs) ks → length (l ∷ ls) + length ks ≤ suc n → l ≡ 1 → walk n ls zs ks ≡ Ok ts → Groups (l ∷ ls) (z ∷ zs) ks ts
  old_one ks r h one e =
      group (pos 0) (l ∷ []) (z ∷ []) [] [] (mul-one l ∙ one) (inl one, tt) tt
      (next ls zs ks ts (ready-cut (l ∷ ls) (z ∷ zs) ks 1 0 r (mul-one l ∙ one)) (omega arith) e)

  new_one : (ks : List ℕ) (ys : List ℤ) → Ready ks ys (m ∷ ms) → length ks + length (m ∷ ms) ≤ suc n → m ≡ 1 → put (pos 1 ∷ []) (walk n ks ys ms) ≡ Ok ts → Groups ks ys (m ∷ ms) ts
  new_one ks ys r h one e =
      let q = put_ok (pos 1 ∷ []) (walk n ks ys ms) ts e in
      let rest = next ks ys ms q.0 (ready-cut ks ys (m ∷ ms) 0 1 r (sym (mul-one m ∙ one))) (omega arith) q.1 in
      subst (λ (y : List ℤ). Groups ks ys (m ∷ ms) y) q.2 (group (pos 0) [] [] (m ∷ []) (pos 1 ∷ []) (sym (mul-one m ∙ one)) tt (inl one, tt) rest)

  both_one : Ready (l ∷ ls) (z ∷ zs) (m ∷ ms) → length (l ∷ ls) + length (m ∷ ms) ≤ suc n → l ≡ 1 → m ≡ 1 → put (z ∷ []) (walk n ls zs ms) ≡ Ok ts → Groups (l ∷ ls) (z ∷ zs) (m ∷ ms) ts
  both_one r h one also e =
      let same : l * 1 ≡ m * 1 = mul-one l ∙ one ∙ sym (mul-one m ∙ also) in
      let q = put_ok (z ∷ []) (walk n ls zs ms) ts e in
      let rest = next ls zs ms q.0 (ready-cut (l ∷ ls) (z ∷ zs) (m ∷ ms) 1 1 r same) (omega arith) q.1 in
      subst (λ (y : List ℤ). Groups (l ∷ ls) (z ∷ zs) (m ∷ ms) y) q.2 (group (pos 0) (l ∷ []) (z ∷ []) (m ∷ []) (z ∷ []) same (inl one, tt) (inl also, tt) rest)

walk_groups : (n : ℕ) → Shown n
walk_groups zero [] [] [] ts r h e = subst (λ (y : List ℤ). Groups [] [] [] y) (walk_none [] [] ts e) none
walk_groups zero [] (z ∷ zs) ms ts r h e = absurd r.near
walk_groups zero [] [] (m ∷ ms) ts r h e = absurd (omega arith)
walk_groups zero (l ∷ ls) zs ms ts r h e = absurd (omega arith)
walk_groups (suc n) [] (z ∷ zs) ms ts r h e = absurd r.near
walk_groups (suc n) [] [] [] ts r h e = subst (λ (y : List ℤ). Groups [] [] [] y) (walk_end n [] ts e) none
walk_groups (suc n) [] [] (m ∷ ms) ts r h e =
    new_one n 1 m (pos 0) [] [] ms ts (walk_groups n) [] [] r h (one_factor m (product ms) (positive-product ms r.news.1) r.same) (sym (walk_more n m [] ms) ∙ e)
walk_groups (suc n) (l ∷ ls) [] ms ts r h e = absurd r.near
walk_groups (suc n) (l ∷ ls) (z ∷ zs) [] ts r h e =
    old_one n l 1 z ls zs [] ts (walk_groups n) [] r h (one_factor l (product ls) (positive-product ls r.olds.1) (sym r.same)) (sym (walk_less n l z ls zs) ∙ e)
walk_groups (suc n) (l ∷ ls) (z ∷ zs) (m ∷ ms) ts r h e =
    let next : Shown n = walk_groups n in
    elim (cases_eq l 1) [
      | inl one ↦ elim (cases_eq m 1) [
        | inl also ↦ both_one n l m z ls zs ms ts next r h one also (sym (walk_both n l m z ls zs ms one also) ∙ e)
        | inr more ↦ old_one n l m z ls zs ms ts next (m ∷ ms) r h one (sym (walk_old n l m z ls zs ms one more) ∙ e)
      ]
      | inr long ↦ elim (cases_eq m 1) [
        | inl also ↦ new_one n l m z ls zs ms ts next (l ∷ ls) (z ∷ zs) r h also (sym (walk_new n l m z ls zs ms long also) ∙ e)
        | inr more ↦
            let o = grouped_ok (grouping (l ∷ ls) (z ∷ zs) (m ∷ ms)) (after n l m z ls zs ms) ts (sym (walk-group n l m z ls zs ms long more) ∙ e) in
            group-rest n l m z ls zs ms ts r h next o.0 o.1 o.2
      ]
    ]

pub regrouped_groups : (ls : List ℕ) (zs : List ℤ) (ms : List ℕ) (ts : List ℤ) → Ready ls zs ms → regrouped ls zs ms ≡ Ok ts → Groups ls zs ms ts
unfolding regrouped
regrouped_groups ls zs ms ts r e = walk_groups (length ls + length ms) ls zs ms ts r (omega arith) e
