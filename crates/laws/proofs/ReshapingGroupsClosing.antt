-- How a group closes, step by step.
use Rattle.std.proofs.Common.{◌≡◌, ℕ, zero, suc, ◌+◌, ◌-◌, ◌*◌, ◌<◌, ◌≤◌, true, cond, eqb, ltb, ◌⊎◌, List, [], ◌∷◌, length, get_or, take, drop, ℤ, pos, negsuc, ◌*ℤ◌, Some, None, Option, sym, refl, ap, ◌∙◌, subst, inl, inr, mul_assoc, mul-one, arith}
use Rattle.std.proofs.lemmas.List.{take_more}
use Rattle.std.proofs.lemmas.Bool.{eq-eqb, ne_eqb, lt-ltb, le-ltb, eqb-true, cases_lt, cases_eq, cases_order, cases_Bool, cond-true, cond-false}
use Rattle.laws.specs.Lengths.{product}
use Rattle.laws.proofs.ReshapingGroupsStrides.{Linear}
use Rattle.laws.specs.Merging.{same_stride}
use Rattle.laws.specs.Reshaping.{linked, only_with, closing, group, Ready}
use Rattle.laws.proofs.Lengths.{part_below}
use Rattle.laws.proofs.ReshapingGroupsProducts.{product-pos, positive-drop, near-length, product_more, product-all, product-cut}
use Rattle.laws.proofs.ReshapingGroupsProducts.{product-append}
use Rattle.laws.proofs.ReshapingGroupsStrides.{linear_snoc, linear_one}
use Rattle.laws.proofs.Integers.{once}

pub same_stride-true : (x y : ℤ) → same_stride x y ≡ true → x ≡ y
same_stride-true (pos a) (pos b) e = ap pos (eqb-true a b e)
same_stride-true (pos a) (negsuc b) e = let z : ◌≡◌ {A = ℕ} 0 1 = cc in absurd (omega arith)
same_stride-true (negsuc a) (pos b) e = let z : ◌≡◌ {A = ℕ} 0 1 = cc in absurd (omega arith)
same_stride-true (negsuc a) (negsuc b) e = ap negsuc (eqb-true a b e)

-- ---- the next old axis
pub linked-some : (l : ℕ) (s t x : ℤ) → Some x ≡ linked l s t → ((l ≡ 1) × (x ≡ s)) ⊎ ((s ≡ pos l *ℤ t) × (x ≡ t))
linked-some l s t x e = elim (cases_eq l 1) [
  | inl one ↦
      let f : linked l s t ≡ Some s = cond-true (eqb l 1) (Some s) (cond (same_stride s (pos l *ℤ t)) (Some t) None) (eq-eqb l 1 one) in
      inl (one, cc)
  | inr more ↦
      let f : linked l s t ≡ cond (same_stride s (pos l *ℤ t)) (Some t) None = cond-false (eqb l 1) (Some s) (cond (same_stride s (pos l *ℤ t)) (Some t) None) (ne_eqb l 1 more) in
      elim (cases_Bool (same_stride s (pos l *ℤ t))) [
        | inl link ↦ let g = cond-true (same_stride s (pos l *ℤ t)) (Some t) None link in inr (same_stride-true s (pos l *ℤ t) link, cc)
        | inr gap ↦ let g = cond-false (same_stride s (pos l *ℤ t)) (Some t) None gap in let z : ◌≡◌ {A = ℕ} 0 1 = cc in absurd (omega arith)
      ]
]

-- ---- one step of the definition
module _ (ls : List ℕ) (ss : List ℤ) (ms : List ℕ) (n a b p q : ℕ) (s : ℤ) where
  pub closing-done : p ≡ q → closing ls ss ms (suc n) a b p q s ≡ Some (a, b, s)
  unfolding closing
  closing-done e = cond-true (eqb p q) (Some (a, b, s)) _ (eq-eqb p q e)

  pub closing_old : p < q → closing ls ss ms (suc n) a b p q s ≡ only_with (linked (get_or ls a 0) s (get_or ss a (pos 0))) (λ t. closing ls ss ms n (a + 1) b (p * get_or ls a 0) q t)
  unfolding closing
  closing_old h = cond-false (eqb p q) (Some (a, b, s)) _ (ne_eqb p q (λ e. omega arith)) ∙ cond-true (ltb p q) _ _ (lt-ltb p q h)

  pub closing_new : q < p → closing ls ss ms (suc n) a b p q s ≡ closing ls ss ms n a (b + 1) p (q * get_or ms b 0) s
  unfolding closing
  closing_new h = cond-false (eqb p q) (Some (a, b, s)) _ (ne_eqb p q (λ e. omega arith)) ∙ cond-false (ltb p q) _ _ (le-ltb p q (omega arith))

-- ---- a group that is not closed yet
pub record Open (ls : List ℕ) (ss : List ℤ) (ms : List ℕ) (a b p q : ℕ) (s : ℤ) : Type 0 where
  pub fuel : ℕ
  pub left : fuel + (a + b) ≡ length ls + length ms + 2
  pub answer : closing ls ss ms fuel a b p q s ≡ group ls ss ms
  pub old_in : a ≤ length ls
  pub new_in : b ≤ length ms
  pub olds : p * product (drop a ls) ≡ product ls
  pub news : q * product (drop b ms) ≡ product ls

module _ (ls : List ℕ) (ss : List ℤ) (ms : List ℕ) (r : Ready ls ss ms) where
  pub open_start : 0 < length ls → 0 < length ms → Open ls ss ms 1 1 (get_or ls 0 0) (get_or ms 0 0) (get_or ss 0 (pos 0))
  open_start h k = record {
    fuel = length ls + length ms;
    left = omega arith;
    answer = refl;
    old_in = omega arith;
    new_in = omega arith;
    olds = sym (product_more ls 0 h);
    news = sym (product_more ms 0 k) ∙ sym r.same;
  }

  module _ (a b p q : ℕ) (s : ℤ) (o : Open ls ss ms a b p q s) where
    pub old_left : p < q → a < length ls
    old_left h = elim (cases_lt a (length ls)) [
      | inl l ↦ l
      | inr le ↦
          let one : p * product (drop a ls) ≡ p * 1 = ap (λ (n : ℕ). p * n) (product-all ls a le) in
          let whole = o.olds in
          let below = part_below q (product (drop b ms)) (product ls) (product-pos (drop b ms) (positive-drop b ms r.news)) o.news in
          absurd (omega (arith, mul-one p))
    ]

    pub new_left : q < p → b < length ms
    new_left h = elim (cases_lt b (length ms)) [
      | inl l ↦ l
      | inr le ↦
          let one : q * product (drop b ms) ≡ q * 1 = ap (λ (n : ℕ). q * n) (product-all ms b le) in
          let whole = o.news in
          let below = part_below p (product (drop a ls)) (product ls) (product-pos (drop a ls) (positive-drop a ls r.olds)) o.olds in
          absurd (omega (arith, mul-one q))
    ]

    some_fuel : suc (o.fuel - 1) ≡ o.fuel
    some_fuel = let l = o.left in let i = o.old_in in let j = o.new_in in omega arith

    pub old_product : a < length ls → p * get_or ls a 0 * product (drop (a + 1) ls) ≡ product ls
    old_product h = mul_assoc p (get_or ls a 0) (product (drop (a + 1) ls)) ∙ ap (λ (n : ℕ). p * n) (sym (product_more ls a h)) ∙ o.olds

    pub new_product : b < length ms → q * get_or ms b 0 * product (drop (b + 1) ms) ≡ product ls
    new_product h = mul_assoc q (get_or ms b 0) (product (drop (b + 1) ms)) ∙ ap (λ (n : ℕ). q * n) (sym (product_more ms b h)) ∙ o.news

    -- no product passes the product
    pub old_fits : a < length ls → p * get_or ls a 0 ≤ 1048576
    old_fits h = let k = part_below (p * get_or ls a 0) (product (drop (a + 1) ls)) (product ls) (product-pos (drop (a + 1) ls) (positive-drop (a + 1) ls r.olds)) (old_product h) in let m = r.small in omega arith

    pub new_fits : b < length ms → q * get_or ms b 0 ≤ 1048576
    new_fits h = let k = part_below (q * get_or ms b 0) (product (drop (b + 1) ms)) (product ls) (product-pos (drop (b + 1) ms) (positive-drop (b + 1) ms r.news)) (new_product h) in let m = r.small in omega arith

    pub open_old : p < q → (t : ℤ) → Some t ≡ linked (get_or ls a 0) s (get_or ss a (pos 0)) → Open ls ss ms (a + 1) b (p * get_or ls a 0) q t
    open_old h t e =
        let l : a < length ls = old_left h in
        let was : only_with (linked (get_or ls a 0) s (get_or ss a (pos 0))) (λ t. closing ls ss ms (o.fuel - 1) (a + 1) b (p * get_or ls a 0) q t) ≡ group ls ss ms =
        sym (closing_old ls ss ms (o.fuel - 1) a b p q s h) ∙ ap (λ n. closing ls ss ms n a b p q s) some_fuel ∙ o.answer in
        record {
          fuel = o.fuel - 1;
          left = let k = o.left in let f = some_fuel in omega arith;
          answer = ap (λ x. only_with x (λ t. closing ls ss ms (o.fuel - 1) (a + 1) b (p * get_or ls a 0) q t)) e ∙ was;
          old_in = omega arith;
          new_in = o.new_in;
          olds = old_product l;
          news = o.news;
        }

    pub open_broken : p < q → None ≡ linked (get_or ls a 0) s (get_or ss a (pos 0)) → None ≡ group ls ss ms
    open_broken h e =
        let was : only_with (linked (get_or ls a 0) s (get_or ss a (pos 0))) (λ t. closing ls ss ms (o.fuel - 1) (a + 1) b (p * get_or ls a 0) q t) ≡ group ls ss ms =
        sym (closing_old ls ss ms (o.fuel - 1) a b p q s h) ∙ ap (λ n. closing ls ss ms n a b p q s) some_fuel ∙ o.answer in
        ap (λ x. only_with x (λ t. closing ls ss ms (o.fuel - 1) (a + 1) b (p * get_or ls a 0) q t)) e ∙ was

    pub open_new : q < p → Open ls ss ms a (b + 1) p (q * get_or ms b 0) s
    open_new h =
        let l : b < length ms = new_left h in
        record {
          fuel = o.fuel - 1;
          left = let k = o.left in let f = some_fuel in omega arith;
          answer = sym (closing_new ls ss ms (o.fuel - 1) a b p q s h) ∙ ap (λ n. closing ls ss ms n a b p q s) some_fuel ∙ o.answer;
          old_in = o.old_in;
          new_in = omega arith;
          olds = o.olds;
          news = new_product l;
        }

    pub open_done : p ≡ q → Some (a, b, s) ≡ group ls ss ms
    open_done e = sym (closing-done ls ss ms (o.fuel - 1) a b p q s e) ∙ ap (λ n. closing ls ss ms n a b p q s) some_fuel ∙ o.answer

-- ---- what a closed group is
pub record Closed (ls : List ℕ) (ss : List ℤ) (ms : List ℕ) (g : ℕ × ℕ × ℤ) : Type 0 where
  pub old_some : 1 ≤ g.0
  pub new_some : 1 ≤ g.1
  pub old_in : g.0 ≤ length ls
  pub new_in : g.1 ≤ length ms
  pub line : Linear g.2 (take g.0 ls) (take g.0 ss)
  pub same : product (take g.0 ls) ≡ product (take g.1 ms)

-- products of the group so far
pub record Taken (ls : List ℕ) (ss : List ℤ) (ms : List ℕ) (a b p q : ℕ) (s : ℤ) : Type 0 where
  pub old_some : 1 ≤ a
  pub new_some : 1 ≤ b
  pub old_in : a ≤ length ls
  pub new_in : b ≤ length ms
  pub line : Linear s (take a ls) (take a ss)
  pub olds : product (take a ls) ≡ p
  pub news : product (take b ms) ≡ q

module _ (ls : List ℕ) (ss : List ℤ) (ms : List ℕ) (r : Ready ls ss ms) where
  taken_old_left : (a b p q : ℕ) (s : ℤ) → Taken ls ss ms a b p q s → p < q → a < length ls
  taken_old_left a b p q s o h = elim (cases_lt a (length ls)) [
    | inl l ↦ l
    | inr le ↦
        let cut = product-cut a ls in
        let one : product (take a ls) * product (drop a ls) ≡ product (take a ls) * 1 = ap (λ (n : ℕ). product (take a ls) * n) (product-all ls a le) in
        let below = part_below (product (take b ms)) (product (drop b ms)) (product ms) (product-pos (drop b ms) (positive-drop b ms r.news)) (product-cut b ms) in
        let e = r.same in let f = o.olds in let g = o.news in
        absurd (omega (arith, mul-one (product (take a ls))))
  ]

  taken_new_left : (a b p q : ℕ) (s : ℤ) → Taken ls ss ms a b p q s → q < p → b < length ms
  taken_new_left a b p q s o h = elim (cases_lt b (length ms)) [
    | inl l ↦ l
    | inr le ↦
        let cut = product-cut b ms in
        let one : product (take b ms) * product (drop b ms) ≡ product (take b ms) * 1 = ap (λ (n : ℕ). product (take b ms) * n) (product-all ms b le) in
        let below = part_below (product (take a ls)) (product (drop a ls)) (product ls) (product-pos (drop a ls) (positive-drop a ls r.olds)) (product-cut a ls) in
        let e = r.same in let f = o.olds in let g = o.news in
        absurd (omega (arith, mul-one (product (take b ms))))
  ]

  product_push : (a : ℕ) (xs : List ℕ) → a < length xs → product (take (a + 1) xs) ≡ product (take a xs) * get_or xs a 0
  product_push a xs h = ap product (take_more xs a 0 h) ∙ product-append (take a xs) (get_or xs a 0 ∷ []) ∙ ap (λ (n : ℕ). product (take a xs) * n) (mul-one (get_or xs a 0))

  line_push : (a : ℕ) (s t : ℤ) → a < length ls → Linear s (take a ls) (take a ss) → Some t ≡ linked (get_or ls a 0) s (get_or ss a (pos 0)) → Linear t (take (a + 1) ls) (take (a + 1) ss)
  line_push a s t h c e =
      let even = near-length ls ss r.near in
      let k : a < length ss = omega arith in
      rw (take_more ls a 0 h, take_more ss a (pos 0) k) (elim (linked-some (get_or ls a 0) s (get_or ss a (pos 0)) t e) [
        | inl one ↦ rw (one.0, one.1) (linear_one s (get_or ss a (pos 0)) (take a ls) (take a ss) c)
        | inr link ↦ rw link.1 (linear_snoc s (get_or ss a (pos 0)) (get_or ls a 0) (take a ls) (take a ss) link.0 c)
      ])

  pub taken_old : (a b p q : ℕ) (s t : ℤ) → Taken ls ss ms a b p q s → p < q → Some t ≡ linked (get_or ls a 0) s (get_or ss a (pos 0)) → Taken ls ss ms (a + 1) b (p * get_or ls a 0) q t
  taken_old a b p q s t o h e =
      let l = taken_old_left a b p q s o h in
      record {
        old_some = omega arith;
        new_some = o.new_some;
        old_in = omega arith;
        new_in = o.new_in;
        line = line_push a s t l o.line e;
        olds = product_push a ls l ∙ ap (λ (n : ℕ). n * get_or ls a 0) o.olds;
        news = o.news;
      }

  pub taken_new : (a b p q : ℕ) (s : ℤ) → Taken ls ss ms a b p q s → q < p → Taken ls ss ms a (b + 1) p (q * get_or ms b 0) s
  taken_new a b p q s o h =
      let l = taken_new_left a b p q s o h in
      record {
        old_some = o.old_some;
        new_some = omega arith;
        old_in = o.old_in;
        new_in = omega arith;
        line = o.line;
        olds = o.olds;
        news = product_push b ms l ∙ ap (λ (n : ℕ). n * get_or ms b 0) o.news;
      }

  only_with-some : (x : Option ℤ) (f : ℤ → Option (ℕ × ℕ × ℤ)) (g : ℕ × ℕ × ℤ) → only_with x f ≡ Some g → (t : ℤ) × (Some t ≡ x) × (f t ≡ Some g)
  only_with-some None f g e = let z : ◌≡◌ {A = ℕ} 0 1 = cc in absurd (omega arith)
  only_with-some (Some t) f g e = (t, refl, e)

  no_fuel : (a b p q : ℕ) (s : ℤ) (g : ℕ × ℕ × ℤ) → closing ls ss ms 0 a b p q s ≡ Some g → ⊥
  unfolding closing
  no_fuel a b p q s g e = let f : ◌≡◌ {A = Option (ℕ × ℕ × ℤ)} None (Some g) = e in let z : ◌≡◌ {A = ℕ} 0 1 = cc in omega arith

  pub closing_closed : (n a b p q : ℕ) (s : ℤ) (g : ℕ × ℕ × ℤ) → Taken ls ss ms a b p q s → closing ls ss ms n a b p q s ≡ Some g → Closed ls ss ms g
  closing_closed zero a b p q s g o e = absurd (no_fuel a b p q s g e)
  closing_closed (suc n) a b p q s g o e = elim (cases_order p q) [
    | inl same ↦
        let f : Some (a, b, s) ≡ Some g = sym (closing-done ls ss ms n a b p q s same) ∙ e in
        let is : (a, b, s) ≡ g = cc in
        subst (λ (g : ℕ × ℕ × ℤ). Closed ls ss ms g) is (record {
          old_some = o.old_some;
          new_some = o.new_some;
          old_in = o.old_in;
          new_in = o.new_in;
          line = o.line;
          same = o.olds ∙ same ∙ sym o.news;
        })
    | inr (inl less) ↦
        let f = only_with-some (linked (get_or ls a 0) s (get_or ss a (pos 0))) (λ t. closing ls ss ms n (a + 1) b (p * get_or ls a 0) q t) g (sym (closing_old ls ss ms n a b p q s less) ∙ e) in
        closing_closed n (a + 1) b (p * get_or ls a 0) q f.0 g (taken_old a b p q s f.0 o less f.1) f.2
    | inr (inr more) ↦
        closing_closed n a (b + 1) p (q * get_or ms b 0) s g (taken_new a b p q s o more) (sym (closing_new ls ss ms n a b p q s more) ∙ e)
  ]

  pub group_closed : (g : ℕ × ℕ × ℤ) → 0 < length ls → 0 < length ms → group ls ss ms ≡ Some g → Closed ls ss ms g
  group_closed g h k e = closing_closed (length ls + length ms) 1 1 (get_or ls 0 0) (get_or ms 0 0) (get_or ss 0 (pos 0)) g (first ls ss ms h k (near-length ls ss r.near)) e
    where
      first : (ls : List ℕ) (ss : List ℤ) (ms : List ℕ) → 0 < length ls → 0 < length ms → length ss ≡ length ls → Taken ls ss ms 1 1 (get_or ls 0 0) (get_or ms 0 0) (get_or ss 0 (pos 0))
      first [] ss ms h k e = absurd (omega arith)
      first (l ∷ ls) [] ms h k e = absurd (omega arith)
      first (l ∷ ls) (s ∷ ss) [] h k e = absurd (omega arith)
      first (l ∷ ls) (s ∷ ss) (m ∷ ms) h k e = record {
        old_some = omega arith;
        new_some = omega arith;
        old_in = omega arith;
        new_in = omega arith;
        line = (inr (sym (once s)), tt);
        olds = mul-one l;
        news = mul-one m;
      }
