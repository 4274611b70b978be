-- Tuples counted in an order: the tuple with so many before it, and column-major as row-major over the lists reversed.
use Rattle.std.proofs.Common.{◌≡◌, ℕ, ◌+◌, ◌*◌, ◌/◌, ◌%◌, ◌<◌, List, [], ◌∷◌, ◌++◌, reverse, sym, refl, ap, ◌∙◌, subst, ap₂, mod-lt, mul_comm, div-add-mod', mul-one, arith}
use mathlib.Core.List.{reverse-cons}
use Rattle.std.proofs.lemmas.Nat.{div_below}
use Rattle.std.proofs.lemmas.List.{reverse-reverse}
use Rattle.laws.specs.Lengths.{product}
use Rattle.laws.specs.Tuples.{Within, place}
use Rattle.laws.specs.Reshaping.{Order, RowMajor, ColumnMajor, column_place, count_before, row_tuple, column_tuple, tuple_at}
use Rattle.laws.proofs.Tuples.{factor_left, factor_right, place_lt, place_inj}
use Rattle.laws.proofs.ReshapingSizes.{product-append, product-reverse}

-- ---- two tuples put together

pub place-append : (ix jx ks ls : List ℕ) → Within ix ks → place (ix ++ jx) (ks ++ ls) ≡ place ix ks * product ls + place jx ls
place-append [] jx [] ls w = omega arith
place-append (i ∷ ix) jx [] ls w = absurd w
place-append [] jx (k ∷ ks) ls w = absurd w
place-append (i ∷ ix) jx (k ∷ ks) ls w = omega (arith, place-append ix jx ks ls w.1, ap (λ (n : ℕ). i * n) (product-append ks ls))

within_push : (ix ls : List ℕ) (i l : ℕ) → Within ix ls → i < l → Within (ix ++ i ∷ []) (ls ++ l ∷ [])
within_push [] [] i l w h = (h, tt)
within_push (j ∷ jx) [] i l w h = absurd w
within_push [] (k ∷ ks) i l w h = absurd w
within_push (j ∷ jx) (k ∷ ks) i l w h = (w.0, within_push jx ks i l w.1 h)

-- ---- column-major is row-major over the lists reversed

pub within-reverse : (ix ls : List ℕ) → Within ix ls → Within (reverse ix) (reverse ls)
within-reverse [] [] w = tt
within-reverse (i ∷ ix) [] w = absurd w
within-reverse [] (l ∷ ls) w = absurd w
within-reverse (i ∷ ix) (l ∷ ls) w = rw (reverse-cons l ls, reverse-cons i ix) (within_push (reverse ix) (reverse ls) i l (within-reverse ix ls w.1) w.0)

pub column_reverse : (ix ls : List ℕ) → Within ix ls → place (reverse ix) (reverse ls) ≡ column_place ix ls
column_reverse [] [] w = refl
column_reverse (i ∷ ix) [] w = absurd w
column_reverse [] (l ∷ ls) w = absurd w
column_reverse (i ∷ ix) (l ∷ ls) w =
    ap₂ place (reverse-cons i ix) (reverse-cons l ls)
    ∙ place-append (reverse ix) (i ∷ []) (reverse ls) (l ∷ []) (within-reverse ix ls w.1)
    ∙ tidy (place (reverse ix) (reverse ls)) (column_place ix ls) (column_reverse ix ls w.1)
  where
    tidy : (x y : ℕ) → x ≡ y → x * (l * 1) + (i * 1 + 0) ≡ i + l * y
    tidy x y e = rw (mul-one l, mul-one i, e, mul_comm y l) (omega arith)

-- ---- different tuples have different numbers before them

pub before_lt : (o : Order) (ix ls : List ℕ) → Within ix ls → count_before o ix ls < product ls
before_lt RowMajor ix ls w = place_lt ix ls w
before_lt ColumnMajor ix ls w =
    omega (arith, place_lt (reverse ix) (reverse ls) (within-reverse ix ls w), column_reverse ix ls w, product-reverse ls)

pub before_inj : (o : Order) (ix jx ls : List ℕ) → Within ix ls → Within jx ls → count_before o ix ls ≡ count_before o jx ls → ix ≡ jx
before_inj RowMajor ix jx ls v w e = place_inj ix jx ls v w e
before_inj ColumnMajor ix jx ls v w e =
    let turned = place_inj (reverse ix) (reverse jx) (reverse ls) (within-reverse ix ls v) (within-reverse jx ls w) (column_reverse ix ls v ∙ e ∙ sym (column_reverse jx ls w)) in
    sym (reverse-reverse ix) ∙ ap reverse turned ∙ reverse-reverse jx

-- ---- the tuple with k before it

row_within : (ls : List ℕ) (k : ℕ) → k < product ls → Within (row_tuple ls k) ls
row_within [] k h = tt
row_within (l ∷ ls) k h =
    let p = factor_right l (product ls) (omega arith) in
    (div_below k (product ls) l p h, row_within ls (k % product ls) (mod-lt k p))

row_place : (ls : List ℕ) (k : ℕ) → k < product ls → place (row_tuple ls k) ls ≡ k
row_place [] k h = omega arith
row_place (l ∷ ls) k h =
    ap (λ (n : ℕ). k / product ls * product ls + n) (row_place ls (k % product ls) (mod-lt k (factor_right l (product ls) (omega arith))))
    ∙ div-add-mod' k (product ls)

-- what is left after the first axis is still below the product of the others
column_below : (l : ℕ) (ls : List ℕ) (k : ℕ) → k < l * product ls → k / l < product ls
column_below l ls k h = div_below k l (product ls) (factor_left l (product ls) (omega arith)) (subst (λ (n : ℕ). k < n) (mul_comm l (product ls)) h)

column_within : (ls : List ℕ) (k : ℕ) → k < product ls → Within (column_tuple ls k) ls
column_within [] k h = tt
column_within (l ∷ ls) k h = (mod-lt k (factor_left l (product ls) (omega arith)), column_within ls (k / l) (column_below l ls k h))

column_place_lem : (ls : List ℕ) (k : ℕ) → k < product ls → column_place (column_tuple ls k) ls ≡ k
column_place_lem [] k h = omega arith
column_place_lem (l ∷ ls) k h =
    ap (λ (n : ℕ). k % l + l * n) (column_place_lem ls (k / l) (column_below l ls k h))
    ∙ omega (arith, div-add-mod' k l, mul_comm l (k / l))

pub tuple_within : (o : Order) (ls : List ℕ) (k : ℕ) → k < product ls → Within (tuple_at o ls k) ls
tuple_within RowMajor ls k h = row_within ls k h
tuple_within ColumnMajor ls k h = column_within ls k h

pub before_tuple : (o : Order) (ls : List ℕ) (k : ℕ) → k < product ls → count_before o (tuple_at o ls k) ls ≡ k
before_tuple RowMajor ls k h = row_place ls k h
before_tuple ColumnMajor ls k h = column_place_lem ls k h
