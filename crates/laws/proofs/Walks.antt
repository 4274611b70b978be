-- The walk from tuple to tuple in row-major order.
use Rattle.std.proofs.Common.{◌≡◌, ℕ, zero, suc, ◌+◌, ◌-◌, ◌*◌, ◌<◌, ◌≤◌, List, [], ◌∷◌, length, get_or, drop, set, replicate, Some, None, Option, sym, refl, ap, ◌∙◌, subst, add-mul, one-mul, zero-mul, add-one, arith, MatchOption}
use Rattle.laws.specs.Lengths.{product}
use Rattle.laws.specs.Tuples.{Within, place}
use Rattle.laws.proofs.Tuples.{place_lt, product_at}

-- ---- the first tuple

pub first-place : (ls : List ℕ) → place (replicate (length ls) 0) ls ≡ 0
first-place [] = refl
first-place (n ∷ ls) = omega (arith, zero-mul (product ls), first-place ls)

-- ---- the next tuple: a loop from the last axis, for which one step of axis j is all that is missing

pub place_set : (ix ls : List ℕ) (j v : ℕ) → Within ix ls → j < length ls → place (set ix j v) ls + get_or ix j 0 * product (drop (suc j) ls) ≡ place ix ls + v * product (drop (suc j) ls)
place_set [] [] j v w h = absurd (omega arith)
place_set [] (n ∷ ls) j v w h = absurd w
place_set (i ∷ ix) [] j v w h = absurd w
place_set (i ∷ ix) (n ∷ ls) zero v w h = omega arith
place_set (i ∷ ix) (n ∷ ls) (suc j) v w h = omega (arith, place_set ix ls j v w.1 (omega arith))

module _ (ix ls : List ℕ) (j goal : ℕ) (w : Within ix ls) (h : j < length ls) (inv : place ix ls + product (drop (j + 1) ls) ≡ goal) where
  missing : place ix ls + product (drop (suc j) ls) ≡ goal
  missing = subst (λ m. place ix ls + product (drop m ls) ≡ goal) (add-one j) inv

  -- an index that is the last of its axis goes back to 0, and the axis before it is to step
  pub carry : get_or ix j 0 + 1 ≡ get_or ls j 0 → place (set ix j 0) ls + product (drop j ls) ≡ goal
  carry e =
      let p = product (drop (suc j) ls) in
      let whole : product (drop j ls) ≡ get_or ls j 0 * p = product_at ls j h ∙ ap (λ m. get_or ls j 0 * product (drop m ls)) (add-one j) in
      let parts : get_or ls j 0 * p ≡ get_or ix j 0 * p + 1 * p = ap (λ m. m * p) (sym e) ∙ add-mul (get_or ix j 0) 1 p in
      omega (arith, missing, whole, parts, one-mul p, zero-mul p, place_set ix ls j 0 w h)

  -- any other index steps, and the next tuple is found
  pub stop : place (set ix j (get_or ix j 0 + 1)) ls ≡ goal
  stop =
      let p = product (drop (suc j) ls) in
      omega (arith, missing, one-mul p, add-mul (get_or ix j 0) 1 p, place_set ix ls j (get_or ix j 0 + 1) w h)

pub carry_all : (from ix ls : List ℕ) (j : ℕ) → j ≤ 0 → Within from ls → place ix ls + product (drop j ls) ≡ place from ls + 1 → place from ls + 1 ≡ product ls
carry_all from ix ls j h w e =
    let none : j ≡ 0 = omega arith in
    let all : product (drop j ls) ≡ product ls = ap (λ m. product (drop m ls)) none in
    omega (arith, place_lt from ls w)

-- ---- how many tuples are left from the next one on

abbrev pub left : {D : Type 0} → (D → List ℕ) → List ℕ → Option D → ℕ
left words ls None = 0
left words ls (Some index) = product ls - place (words index) ls

pub left_less : {D : Type 0} (words : D → List ℕ) (ls ix : List ℕ) (r : Option D) → Within ix ls
    → MatchOption r (place ix ls + 1 ≡ product ls) (λ index. Within (words index) ls × (place (words index) ls ≡ place ix ls + 1)) → left words ls r < product ls - place ix ls
left_less words ls ix None w h = omega (arith, place_lt ix ls w)
left_less words ls ix (Some index) w h = omega (arith, place_lt ix ls w, h.1)
