-- Products of lengths, tuples within them, and a tuple as a number of mixed radix.
use Rattle.std.proofs.Common.{◌≡◌, ℕ, zero, suc, ◌+◌, ◌*◌, ◌/◌, ◌%◌, ◌<◌, true, false, ltb, List, [], ◌∷◌, length, get_or, drop, set, sym, refl, ap, ◌∙◌, subst, mul_comm, mul-le-mul, zero-mul, arith}
use lib.Arith.{digits_lt, digits_div, digits_mod}
use Rattle.std.proofs.lemmas.List.{drop_more}
use Rattle.std.proofs.lemmas.Bool.{and_parts, both_ways, ltb-true, lt-ltb}
use Rattle.laws.specs.Lengths.{product}
use Rattle.laws.specs.Tuples.{Within, is_within, place}

-- ---- products

pub mul-pos : (m n : ℕ) → 0 < m → 0 < n → 0 < m * n
mul-pos m n p q = omega (arith, mul-le-mul {n₁ = 1} {m₁ = 1} {n₂ = m} {m₂ = n} p q)

pub factor_left : (m n : ℕ) → 0 < m * n → 0 < m
factor_left zero n p = omega (arith, zero-mul n)
factor_left (suc m) n p = omega arith

pub factor_right : (m n : ℕ) → 0 < m * n → 0 < n
factor_right m n p = factor_left n m (subst (λ k. 0 < k) (mul_comm m n) p)

pub product_at : (ls : List ℕ) (i : ℕ) → i < length ls → product (drop i ls) ≡ get_or ls i 0 * product (drop (i + 1) ls)
product_at ls i h = ap product (drop_more ls i 0 h)

pub product-some : (ls : List ℕ) → ((j : ℕ) → j < length ls → 0 < get_or ls j 0) → 0 < product ls
product-some [] h = omega arith
product-some (n ∷ ls) h = mul-pos n (product ls) (h 0 (omega arith)) (product-some ls (λ j l. h (suc j) (omega arith)))

-- ---- tuples within lengths

pub within-length : (ix ls : List ℕ) → Within ix ls → length ix ≡ length ls
within-length [] [] w = refl
within-length [] (n ∷ ls) w = absurd w
within-length (i ∷ ix) [] w = absurd w
within-length (i ∷ ix) (n ∷ ls) w = ap suc (within-length ix ls w.1)

pub within_at : (ix ls : List ℕ) (j : ℕ) → Within ix ls → j < length ls → get_or ix j 0 < get_or ls j 0
within_at [] [] j w h = absurd (omega arith)
within_at [] (n ∷ ls) j w h = absurd w
within_at (i ∷ ix) [] j w h = absurd w
within_at (i ∷ ix) (n ∷ ls) zero w h = w.0
within_at (i ∷ ix) (n ∷ ls) (suc j) w h = within_at ix ls j w.1 (omega arith)

pub within-set : (ix ls : List ℕ) (j v : ℕ) → Within ix ls → v < get_or ls j 0 → Within (set ix j v) ls
within-set [] [] j v w h = tt
within-set [] (n ∷ ls) j v w h = absurd w
within-set (i ∷ ix) [] j v w h = absurd w
within-set (i ∷ ix) (n ∷ ls) zero v w h = (h, w.1)
within-set (i ∷ ix) (n ∷ ls) (suc j) v w h = (w.0, within-set ix ls j v w.1 h)

pub within-drop : (ix ls : List ℕ) (i : ℕ) → Within ix ls → Within (drop i ix) (drop i ls)
within-drop ix ls zero w = w
within-drop [] [] (suc i) w = tt
within-drop [] (n ∷ ls) (suc i) w = absurd w
within-drop (x ∷ ix) [] (suc i) w = absurd w
within-drop (x ∷ ix) (n ∷ ls) (suc i) w = within-drop ix ls i w.1

-- the test says what it is named after
pub is_within_lem : (ix ls : List ℕ) → is_within ix ls ≡ true → Within ix ls
is_within_lem [] [] e = tt
is_within_lem [] (n ∷ ls) e = absurd (both_ways false refl e)
is_within_lem (i ∷ ix) [] e = absurd (both_ways false refl e)
is_within_lem (i ∷ ix) (n ∷ ls) e =
    let both = and_parts (ltb i n) (is_within ix ls) e in
    (ltb-true i n both.0, is_within_lem ix ls both.1)

pub within_is : (ix ls : List ℕ) → Within ix ls → is_within ix ls ≡ true
within_is [] [] w = refl
within_is [] (n ∷ ls) w = absurd w
within_is (i ∷ ix) [] w = absurd w
within_is (i ∷ ix) (n ∷ ls) w = rw (lt-ltb i n w.0) (within_is ix ls w.1)

-- ---- a tuple as a number of mixed radix

pub place_lt : (ix ls : List ℕ) → Within ix ls → place ix ls < product ls
place_lt [] [] w = omega arith
place_lt [] (n ∷ ns) w = absurd w
place_lt (i ∷ ix) [] w = absurd w
place_lt (i ∷ ix) (n ∷ ns) w = digits_lt w.0 (place_lt ix ns w.1)

-- the lengths of a tuple are not 0
pub product-pos : (ix ls : List ℕ) → Within ix ls → 0 < product ls
product-pos ix ls w = omega (arith, place_lt ix ls w)

pub place_inj : (ix jx ls : List ℕ) → Within ix ls → Within jx ls → place ix ls ≡ place jx ls → ix ≡ jx
place_inj [] [] [] v w e = refl
place_inj [] [] (n ∷ ns) v w e = absurd v
place_inj [] (j ∷ jx) [] v w e = absurd w
place_inj [] (j ∷ jx) (n ∷ ns) v w e = absurd v
place_inj (i ∷ ix) [] [] v w e = absurd v
place_inj (i ∷ ix) [] (n ∷ ns) v w e = absurd w
place_inj (i ∷ ix) (j ∷ jx) [] v w e = absurd v
place_inj (i ∷ ix) (j ∷ jx) (n ∷ ns) v w e =
    let p = place_lt ix ns v.1 in
    let q = place_lt jx ns w.1 in
    let first : i ≡ j = sym (digits_div i p) ∙ ap (λ m. m / product ns) e ∙ digits_div j q in
    let rest : place ix ns ≡ place jx ns = sym (digits_mod i p) ∙ ap (λ m. m % product ns) e ∙ digits_mod j q in
    let tail : ix ≡ jx = place_inj ix jx ns v.1 w.1 rest in
    cc
