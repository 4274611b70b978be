-- A group that closes: its old axes lie in step, and its old and new products are equal.
use Rattle.std.proofs.Common.{◌≡◌, ℕ, zero, suc, ◌+◌, ◌*◌, ◌<◌, ◌≤◌, cond, eqb, ltb, ◌⊎◌, List, [], ◌∷◌, length, get_or, take, drop, ℤ, pos, ◌*ℤ◌, Some, None, Option, sym, refl, ap, ◌∙◌, subst, inl, inr, mul-one, arith}
use Rattle.std.proofs.lemmas.List.{take_more, at_drop_all}
use Rattle.std.proofs.lemmas.Bool.{eq-eqb, ne_eqb, lt-ltb, le-ltb, cases_lt, cases_eq, cases_order, cases_Bool, cond-true, cond-false}
use Rattle.laws.specs.Lengths.{product}
use Rattle.laws.specs.Merging.{same_stride}
use Rattle.laws.specs.Reshaping.{linked, only_with, closing, group, Positive, Ready}
use Rattle.laws.proofs.Integers.{once}
use Rattle.laws.proofs.Lengths.{part_below}
use Rattle.laws.proofs.Merging.{same_stride_lem}
use Rattle.laws.proofs.ReshapingSizes.{product-append, product-cut, positive-product, positive-drop, near-length}
use Rattle.laws.proofs.ReshapingGroups.{InStep, in_step_more, in_step_one}

-- ---- the next old axis

linked-some : (l : ℕ) (s t x : ℤ) → Some x ≡ linked l s t → ((l ≡ 1) × (x ≡ s)) ⊎ ((s ≡ pos l *ℤ t) × (x ≡ t))
linked-some l s t x e =
    let rest : Option ℤ = cond (same_stride s (pos l *ℤ t)) (Some t) None in
    elim (cases_eq l 1) [
      | inl one ↦ let f : linked l s t ≡ Some s = cond-true (eqb l 1) (Some s) rest (eq-eqb l 1 one) in inl (one, cc)
      | inr more ↦
          let f : linked l s t ≡ rest = cond-false (eqb l 1) (Some s) rest (ne_eqb l 1 more) in
          elim (cases_Bool (same_stride s (pos l *ℤ t))) [
            | inl same ↦ let g = cond-true (same_stride s (pos l *ℤ t)) (Some t) None same in inr (same_stride_lem s (pos l *ℤ t) same, cc)
            | inr other ↦
                let g = cond-false (same_stride s (pos l *ℤ t)) (Some t) None other in
                let z : ◌≡◌ {A = ℕ} 0 1 = cc in
                absurd (omega arith)
          ]
    ]

only-some : (x : Option ℤ) (f : ℤ → Option (ℕ × ℕ × ℤ)) (g : ℕ × ℕ × ℤ) → only_with x f ≡ Some g → (t : ℤ) × (Some t ≡ x) × (f t ≡ Some g)
only-some None f g e = let z : ◌≡◌ {A = ℕ} 0 1 = cc in absurd (omega arith)
only-some (Some t) f g e = (t, refl, e)

-- ---- one step of the definition

module _ (ls : List ℕ) (zs : List ℤ) (ms : List ℕ) (n a b p q : ℕ) (s : ℤ) where
  pub closing-done : p ≡ q → closing ls zs ms (suc n) a b p q s ≡ Some (a, b, s)
  unfolding closing
  closing-done e = cond-true (eqb p q) (Some (a, b, s)) _ (eq-eqb p q e)

  pub closing_old : p < q → closing ls zs ms (suc n) a b p q s ≡ only_with (linked (get_or ls a 0) s (get_or zs a (pos 0))) (λ t. closing ls zs ms n (a + 1) b (p * get_or ls a 0) q t)
  unfolding closing
  closing_old h = cond-false (eqb p q) (Some (a, b, s)) _ (ne_eqb p q (λ e. omega arith)) ∙ cond-true (ltb p q) _ _ (lt-ltb p q h)

  pub closing_new : q < p → closing ls zs ms (suc n) a b p q s ≡ closing ls zs ms n a (b + 1) p (q * get_or ms b 0) s
  unfolding closing
  closing_new h = cond-false (eqb p q) (Some (a, b, s)) _ (ne_eqb p q (λ e. omega arith)) ∙ cond-false (ltb p q) _ _ (le-ltb p q (omega arith))

-- ---- a group so far, and a closed one

-- a old axes and b new ones, of products p and q, the old ones in step with stride s
pub record Taken (ls : List ℕ) (zs : List ℤ) (ms : List ℕ) (a b p q : ℕ) (s : ℤ) : Type 0 where
  pub old_some : 1 ≤ a
  pub new_some : 1 ≤ b
  pub old_in : a ≤ length ls
  pub new_in : b ≤ length ms
  pub steps : InStep s (take a ls) (take a zs)
  pub olds : product (take a ls) ≡ p
  pub news : product (take b ms) ≡ q

-- with equal products
pub record Closed (ls : List ℕ) (zs : List ℤ) (ms : List ℕ) (g : ℕ × ℕ × ℤ) : Type 0 where
  pub old_some : 1 ≤ g.0
  pub new_some : 1 ≤ g.1
  pub old_in : g.0 ≤ length ls
  pub new_in : g.1 ≤ length ms
  pub steps : InStep g.2 (take g.0 ls) (take g.0 zs)
  pub same : product (take g.0 ls) ≡ product (take g.1 ms)

-- a side whose product is the smaller has an axis left
some_left : (ls ms : List ℕ) (a b : ℕ) → Positive ms → product ls ≡ product ms → product (take a ls) < product (take b ms) → a < length ls
some_left ls ms a b p same h =
    elim (cases_lt a (length ls)) [
      | inl l ↦ l
      | inr le ↦
          let all : product (take a ls) * product (drop a ls) ≡ product (take a ls) * 1 = ap (λ (n : ℕ). product (take a ls) * n) (at_drop_all product ls a le) in
          let below = part_below (product (take b ms)) (product (drop b ms)) (product ms) (positive-product (drop b ms) (positive-drop b ms p)) (product-cut b ms) in
          absurd (omega (arith, product-cut a ls, mul-one (product (take a ls))))
    ]

product_push : (a : ℕ) (xs : List ℕ) → a < length xs → product (take (a + 1) xs) ≡ product (take a xs) * get_or xs a 0
product_push a xs h = ap product (take_more xs a 0 h) ∙ product-append (take a xs) (get_or xs a 0 ∷ []) ∙ ap (λ (n : ℕ). product (take a xs) * n) (mul-one (get_or xs a 0))

module _ (ls : List ℕ) (zs : List ℤ) (ms : List ℕ) (r : Ready ls zs ms) where
  steps_push : (a : ℕ) (s t : ℤ) → a < length ls → InStep s (take a ls) (take a zs) → Some t ≡ linked (get_or ls a 0) s (get_or zs a (pos 0))
      → InStep t (take (a + 1) ls) (take (a + 1) zs)
  steps_push a s t h c e =
      let even = near-length ls zs r.near in
      let k : a < length zs = omega arith in
      rw (take_more ls a 0 h, take_more zs a (pos 0) k) (elim (linked-some (get_or ls a 0) s (get_or zs a (pos 0)) t e) [
        | inl one ↦ rw (one.0, one.1) (in_step_one s (get_or zs a (pos 0)) (take a ls) (take a zs) c)
        | inr link ↦ rw link.1 (in_step_more s (get_or zs a (pos 0)) (get_or ls a 0) (take a ls) (take a zs) link.0 c)
      ])

  -- one more axis on the side of the smaller product
  taken_old : (a b p q : ℕ) (s t : ℤ) → Taken ls zs ms a b p q s → p < q → Some t ≡ linked (get_or ls a 0) s (get_or zs a (pos 0))
      → Taken ls zs ms (a + 1) b (p * get_or ls a 0) q t
  taken_old a b p q s t o h e =
      let l = some_left ls ms a b r.news r.same (omega (arith, o.olds, o.news)) in
      record {
        old_some = omega arith;
        new_some = o.new_some;
        old_in = omega arith;
        new_in = o.new_in;
        steps = steps_push a s t l o.steps e;
        olds = product_push a ls l ∙ ap (λ (n : ℕ). n * get_or ls a 0) o.olds;
        news = o.news;
      }

  taken_new : (a b p q : ℕ) (s : ℤ) → Taken ls zs ms a b p q s → q < p → Taken ls zs ms a (b + 1) p (q * get_or ms b 0) s
  taken_new a b p q s o h =
      let l = some_left ms ls b a r.olds (sym r.same) (omega (arith, o.olds, o.news)) in
      record {
        old_some = o.old_some;
        new_some = omega arith;
        old_in = o.old_in;
        new_in = omega arith;
        steps = o.steps;
        olds = o.olds;
        news = product_push b ms l ∙ ap (λ (n : ℕ). n * get_or ms b 0) o.news;
      }

  taken_closed : (a b p q : ℕ) (s : ℤ) (g : ℕ × ℕ × ℤ) → Taken ls zs ms a b p q s → p ≡ q → (a, b, s) ≡ g → Closed ls zs ms g
  taken_closed a b p q s g o same is = subst (λ (g : ℕ × ℕ × ℤ). Closed ls zs ms g) is (record {
    old_some = o.old_some;
    new_some = o.new_some;
    old_in = o.old_in;
    new_in = o.new_in;
    steps = o.steps;
    same = o.olds ∙ same ∙ sym o.news;
  })

  no_turn : (a b p q : ℕ) (s : ℤ) (g : ℕ × ℕ × ℤ) → closing ls zs ms 0 a b p q s ≡ Some g → ⊥
  unfolding closing
  no_turn a b p q s g e = let f : ◌≡◌ {A = Option (ℕ × ℕ × ℤ)} None (Some g) = e in let z : ◌≡◌ {A = ℕ} 0 1 = cc in omega arith

  closing_closed : (n a b p q : ℕ) (s : ℤ) (g : ℕ × ℕ × ℤ) → Taken ls zs ms a b p q s → closing ls zs ms n a b p q s ≡ Some g → Closed ls zs ms g
  closing_closed zero a b p q s g o e = absurd (no_turn a b p q s g e)
  closing_closed (suc n) a b p q s g o e =
      elim (cases_order p q) [
        | inl same ↦
            let f : Some (a, b, s) ≡ Some g = sym (closing-done ls zs ms n a b p q s same) ∙ e in
            let is : (a, b, s) ≡ g = cc in
            taken_closed a b p q s g o same is
        | inr (inl less) ↦
            let f = only-some (linked (get_or ls a 0) s (get_or zs a (pos 0))) (λ t. closing ls zs ms n (a + 1) b (p * get_or ls a 0) q t) g (sym (closing_old ls zs ms n a b p q s less) ∙ e) in
            closing_closed n (a + 1) b (p * get_or ls a 0) q f.0 g (taken_old a b p q s f.0 o less f.1) f.2
        | inr (inr more) ↦ closing_closed n a (b + 1) p (q * get_or ms b 0) s g (taken_new a b p q s o more) (sym (closing_new ls zs ms n a b p q s more) ∙ e)
      ]

pub group_closed : (l m : ℕ) (z : ℤ) (ls : List ℕ) (zs : List ℤ) (ms : List ℕ) (g : ℕ × ℕ × ℤ) → Ready (l ∷ ls) (z ∷ zs) (m ∷ ms)
    → group (l ∷ ls) (z ∷ zs) (m ∷ ms) ≡ Some g → Closed (l ∷ ls) (z ∷ zs) (m ∷ ms) g
group_closed l m z ls zs ms g r e =
    closing_closed (l ∷ ls) (z ∷ zs) (m ∷ ms) r (length (l ∷ ls) + length (m ∷ ms)) 1 1 l m z g (record {
      old_some = omega arith;
      new_some = omega arith;
      old_in = omega arith;
      new_in = omega arith;
      steps = (inr (sym (once z)), tt);
      olds = mul-one l;
      news = mul-one m;
    }) e
