-- What opening accepts is sound, whether the strides are given or follow from an order.
use Rattle.std.proofs.Common.{◌≡◌, ℕ, zero, suc, ◌+◌, ◌-◌, ◌*◌, ◌/◌, ◌%◌, ◌<◌, ◌≤◌, true, false, cond, not, eqb, ltb, List, [], ◌∷◌, map, length, replicate, ℤ, pos, negsuc, nat_abs, Ok, sym, refl, ap, ◌∙◌, subst, inl, inr, mul-le-mul_right, mul_assoc, mul_comm, add-mul, mul-le-mul_left, one-mul, mul-zero, zero-mul, mul-one, mul_right_comm, le-mul_of_pos_right, arith, lt→ltb, w64, to_z}
use lib.Arith.{digits_lt, digits_div, digits_mod}
use lib.ListN.{length-map, length-replicate}
use Rattle.std.proofs.lemmas.Int.{ints, to_z_pos}
use Rattle.std.proofs.lemmas.Bool.{both_ways, eqb-true, ltb-false, leb-false, not-false, cond_both, cases_Bool}
use Rattle.laws.specs.Lengths.{product, nonzero, nonzeros, some_zero}
use Rattle.laws.specs.Tuples.{Within, place}
use Rattle.laws.specs.Strides.{signed, laters, earliers, row_major, column_major}
use Rattle.laws.specs.Space.{Seen, Sound, Distinct, Bounds, up, down}
use Rattle.laws.specs.Faults.{in_rows, in_grid}
use Rattle.laws.specs.Opening.{limit, span, some_negative, some_above, overflows, too_few, overlaps, fresh, strided}
use Rattle.laws.proofs.Faults.{passed_on}
use Rattle.laws.proofs.Tuples.{factor_left, factor_right, place_inj, product-pos}
use Rattle.laws.proofs.Lengths.{nonzero-pos, nonzero_above, nonzeros-pos, product_below}
use Rattle.laws.proofs.Zeros.{some-zero-product, no-zero-product}
use Rattle.laws.proofs.Overlap.{dot, offset_dot, dot_distinct, no_overlap}

-- ---- strides that are not negative

down_pos : (ls ws : List ℕ) → down ls (map pos ws) ≡ 0
down_pos [] ws = refl
down_pos (n ∷ ls) [] = refl
down_pos (n ∷ ls) (w ∷ ws) = omega (arith, mul-zero (n - 1), down_pos ls ws)

span_pos : (ls ws : List ℕ) → span ls (map pos ws) ≡ up ls (map pos ws)
span_pos [] ws = refl
span_pos (n ∷ ls) [] = refl
span_pos (n ∷ ls) (w ∷ ws) = ap (λ k. (n - 1) * w + k) (span_pos ls ws)

dot_up : (ix ls ws : List ℕ) → Within ix ls → dot ix ws ≤ up ls (map pos ws)
dot_up [] ls ws v = omega arith
dot_up (i ∷ ix) [] ws v = absurd v
dot_up (i ∷ ix) (n ∷ ls) [] v = omega arith
dot_up (i ∷ ix) (n ∷ ls) (w ∷ ws) v =
    let step : i * w ≤ (n - 1) * w = mul-le-mul_right w (omega (arith, v.0)) in
    omega (arith, dot_up ix ls ws v.1)

up-zeros : (ls : List ℕ) (k : ℕ) → up ls (map pos (replicate k 0)) ≡ 0
up-zeros [] k = refl
up-zeros (n ∷ ls) zero = refl
up-zeros (n ∷ ls) (suc k) = omega (arith, mul-zero (n - 1), up-zeros ls k)

-- where the reach ends, if there are not too few cells
reach-ends : (cells : ℕ) (ls ws : List ℕ) → too_few cells ls (map pos ws) ≡ false → (up ls (map pos ws) ≤ cells) × (0 < product ls → up ls (map pos ws) < cells)
reach-ends cells ls ws e =
    let same = span_pos ls ws in
    elim (cases_Bool (some_zero ls)) [
      | inl on ↦
          let le = ltb-false cells (span ls (map pos ws)) (rw on at e) in
          (omega arith, λ some. absurd (omega (arith, some-zero-product ls on)))
      | inr off ↦
          let lt = leb-false cells (span ls (map pos ws)) (rw off at e) in
          (omega arith, λ some. omega arith)
    ]

module _ (cells : ℕ) (ls : List ℕ) (few : length ls ≤ 8) (narrow : cells ≤ 1048576) (small : nonzeros ls ≤ 1048576) where
  -- it is enough that the reach ends within the cells
  upward : (ws : List ℕ) → length ls ≡ length ws → Distinct ls (map pos ws) → up ls (map pos ws) ≤ cells → (0 < product ls → up ls (map pos ws) < cells)
      → Sound (fresh cells ls (map pos ws))
  upward ws paired distinct high below =
      record {
        bounds = bounds;
        distinct = distinct;
        narrow = narrow;
        small = small;
        low = omega (arith, ints, down_pos ls ws);
        high = omega (arith, ints);
        paired = paired ∙ sym (length-map ws pos);
        few = few;
      }
    where
      bounds : Bounds cells (pos 0) ls (map pos ws)
      bounds ix v =
          let lt : 0 + dot ix ws < cells = omega (arith, dot_up ix ls ws v, below (product-pos ix ls v)) in
          rw (offset_dot ix ws) (lt→ltb (0 + dot ix ws) cells lt)

  given : (ws : List ℕ) → length ls ≡ length ws → too_few cells ls (map pos ws) ≡ false → overlaps ls (map pos ws) ≡ false → Sound (fresh cells ls (map pos ws))
  given ws paired enough free =
      let ends = reach-ends cells ls ws enough in
      upward ws paired (no_overlap ls ws paired free) ends.0 ends.1

  -- the strides of an order, which are all 0 if some length is 0
  ordered : (ws : List ℕ) → product ls ≤ cells → length ls ≡ length ws → (0 < product ls → up ls (map pos ws) < product ls) → Distinct ls (map pos ws)
      → Sound (fresh cells ls (map pos (cond (some_zero ls) (replicate (length ls) 0) ws)))
  ordered ws fits paired below distinct = cond_both (some_zero ls) (replicate (length ls) 0) ws (λ ys. Sound (fresh cells ls (map pos ys))) empty full
    where
      empty : some_zero ls ≡ true → Sound (fresh cells ls (map pos (replicate (length ls) 0)))
      empty on =
          let none = some-zero-product ls on in
          let apart : Distinct ls (map pos (replicate (length ls) 0)) = λ t. absurd (omega (arith, product-pos t.one ls t.one_within)) in
          let high = up-zeros ls (length ls) in
          upward (replicate (length ls) 0) (sym (length-replicate (length ls) 0)) apart (omega arith) (λ some. absurd (omega arith))

      full : some_zero ls ≡ false → Sound (fresh cells ls (map pos ws))
      full off = let lt = below (no-zero-product ls off) in upward ws paired distinct (omega arith) (λ some. omega arith)

-- ---- given strides

naturals : (zs : List ℤ) → some_negative zs ≡ false → map pos (map nat_abs zs) ≡ zs
naturals [] e = refl
naturals (pos n ∷ zs) e = ap (λ t. pos n ∷ t) (naturals zs e)
naturals (negsuc n ∷ zs) e = absurd (both_ways true e refl)

-- what opening with a stride row does not refuse
strided_sound : (cells : ℕ) (ls : List ℕ) (zs : List ℤ) → length ls ≤ 8 → ltb limit cells ≡ false → not (eqb (length ls) (length zs)) ≡ false
    → some_negative zs ≡ false → ltb limit (nonzeros ls) ≡ false → too_few cells ls zs ≡ false → overlaps ls zs ≡ false → Sound (fresh cells ls zs)
strided_sound cells ls zs few narrow ranks upwards small enough free =
    let same = eqb-true (length ls) (length zs) (not-false (eqb (length ls) (length zs)) ranks) in
    let paired : length ls ≡ length (map nat_abs zs) = same ∙ sym (length-map zs nat_abs) in
    let sound = given cells ls few (ltb-false limit cells narrow) (ltb-false limit (nonzeros ls) small) (map nat_abs zs) paired in
    subst (λ (ys : List ℤ). too_few cells ls ys ≡ false → overlaps ls ys ≡ false → Sound (fresh cells ls ys)) (naturals zs upwards) sound enough free

-- a grid that was opened with a stride row
pub strided_opened : (cells size : ℕ) (ls : List ℕ) (zs : List ℤ) (s : Seen) → length ls ≤ 8 → Ok s ≡ strided cells size ls zs → Sound (fresh cells ls zs)
strided_opened cells size ls zs s few e =
    let narrow = passed_on (ltb limit cells) (in_rows 12) s _ e in
    let rank = passed_on (not (eqb (length ls) (length zs))) (in_rows 2) s _ narrow.1 in
    let signs = passed_on (some_negative zs) (in_rows 5) s _ rank.1 in
    let fits = passed_on (overflows size ls zs) (in_rows 6) s _ signs.1 in
    let small = passed_on (ltb limit (nonzeros ls)) (in_rows 12) s _ fits.1 in
    let steps = passed_on (some_above limit zs) (in_rows 12) s _ small.1 in
    let enough = passed_on (too_few cells ls zs) (in_grid 4) s _ steps.1 in
    let apart = passed_on (overlaps ls zs) (in_rows 5) s _ enough.1 in
    strided_sound cells ls zs few narrow.0 rank.0 signs.0 small.0 enough.0 apart.0

-- ---- row-major

pub length-laters : (ls : List ℕ) → length (laters ls) ≡ length ls
length-laters [] = refl
length-laters (n ∷ ls) = ap suc (length-laters ls)

up-laters : (ls : List ℕ) → 0 < product ls → up ls (map pos (laters ls)) < product ls
up-laters [] p = omega arith
up-laters (n ∷ ls) p =
    let first : n - 1 < n = omega (arith, factor_left n (product ls) p) in
    digits_lt first (up-laters ls (factor_right n (product ls) p))

-- a tuple's cell is its place
pub dot_laters : (ix ls : List ℕ) → dot ix (laters ls) ≡ place ix ls
dot_laters [] ls = refl
dot_laters (i ∷ ix) [] = refl
dot_laters (i ∷ ix) (n ∷ ls) = ap (λ k. i * product ls + k) (dot_laters ix ls)

pub ordered_sound_row : (cells : ℕ) (ls : List ℕ) → length ls ≤ 8 → cells ≤ 1048576 → nonzeros ls ≤ 1048576 → product ls ≤ cells → Sound (fresh cells ls (map pos (row_major ls)))
ordered_sound_row cells ls few narrow small fits =
    let distinct = dot_distinct ls (laters ls) (λ ix jx v w e. place_inj ix jx ls v w (sym (dot_laters ix ls) ∙ e ∙ dot_laters jx ls)) in
    ordered cells ls few narrow small (laters ls) fits (sym (length-laters ls)) (up-laters ls) distinct

-- ---- column-major

pub length-earliers : (a : ℕ) (ls : List ℕ) → length (earliers a ls) ≡ length ls
length-earliers a [] = refl
length-earliers a (n ∷ ls) = ap suc (length-earliers (a * n) ls)

up-earliers : (a : ℕ) (ls : List ℕ) → 0 < product ls → up ls (map pos (earliers a ls)) + a ≡ a * product ls
up-earliers a [] p = omega (arith, mul-one a)
up-earliers a (n ∷ ls) p =
    let some : n - 1 + 1 ≡ n = omega (arith, factor_left n (product ls) p) in
    let here : (n - 1) * a + 1 * a ≡ n * a = sym (add-mul (n - 1) 1 a) ∙ ap (λ k. k * a) some in
    omega (arith, here, one-mul a, mul_comm a n, mul_assoc a n (product ls), up-earliers (a * n) ls (factor_right n (product ls) p))

dot_earliers : (ix ls : List ℕ) (a b : ℕ) → dot ix (earliers (a * b) ls) ≡ dot ix (earliers a ls) * b
dot_earliers [] ls a b = sym (zero-mul b)
dot_earliers (i ∷ ix) [] a b = sym (zero-mul b)
dot_earliers (i ∷ ix) (n ∷ ls) a b =
    rw (mul_right_comm a b n, dot_earliers ix ls (a * n) b, add-mul (i * a) (dot ix (earliers (a * n) ls)) b, mul_assoc i a b)

-- the first index is the last digit
first_digit : (i n : ℕ) (ix ls : List ℕ) → dot (i ∷ ix) (earliers 1 (n ∷ ls)) ≡ dot ix (earliers 1 ls) * n + i
first_digit i n ix ls = omega (arith, mul-one i, dot_earliers ix ls 1 n)

earliers_inj : (ix jx ls : List ℕ) → Within ix ls → Within jx ls → dot ix (earliers 1 ls) ≡ dot jx (earliers 1 ls) → ix ≡ jx
earliers_inj [] [] ls v w e = refl
earliers_inj [] (j ∷ jx) [] v w e = absurd w
earliers_inj [] (j ∷ jx) (n ∷ ls) v w e = absurd v
earliers_inj (i ∷ ix) [] [] v w e = absurd v
earliers_inj (i ∷ ix) [] (n ∷ ls) v w e = absurd w
earliers_inj (i ∷ ix) (j ∷ jx) [] v w e = absurd v
earliers_inj (i ∷ ix) (j ∷ jx) (n ∷ ls) v w e =
    let c = dot ix (earliers 1 ls) in
    let d = dot jx (earliers 1 ls) in
    let same : c * n + i ≡ d * n + j = sym (first_digit i n ix ls) ∙ e ∙ first_digit j n jx ls in
    let first : i ≡ j = sym (digits_mod c v.0) ∙ ap (λ m. m % n) same ∙ digits_mod d w.0 in
    let rest : c ≡ d = sym (digits_div c v.0) ∙ ap (λ m. m / n) same ∙ digits_div d w.0 in
    let tail : ix ≡ jx = earliers_inj ix jx ls v.1 w.1 rest in
    cc

pub ordered_sound_column : (cells : ℕ) (ls : List ℕ) → length ls ≤ 8 → cells ≤ 1048576 → nonzeros ls ≤ 1048576 → product ls ≤ cells → Sound (fresh cells ls (map pos (column_major ls)))
ordered_sound_column cells ls few narrow small fits =
    let distinct = dot_distinct ls (earliers 1 ls) (λ ix jx. earliers_inj ix jx ls) in
    let below : 0 < product ls → up ls (map pos (earliers 1 ls)) < product ls = λ some. omega (arith, up-earliers 1 ls some, one-mul (product ls)) in
    ordered cells ls few narrow small (earliers 1 ls) fits (sym (length-earliers 1 ls)) below distinct

-- ---- the words of an order's strides, read as two's complement

signed-zeros : (n : ℕ) → signed (replicate n 0) ≡ map pos (replicate n 0)
signed-zeros zero = refl
signed-zeros (suc n) = ap (λ (zs : List ℤ). pos 0 ∷ zs) (signed-zeros n)

signed_more : (w : ℕ) (ws : List ℕ) → w ≤ 1048576 → signed ws ≡ map pos ws → signed (w ∷ ws) ≡ map pos (w ∷ ws)
signed_more w ws h e = let read : to_z w64 w ≡ pos w = to_z_pos w64 w (omega arith) in cc

signed-laters : (ls : List ℕ) → nonzeros ls ≤ 1048576 → signed (laters ls) ≡ map pos (laters ls)
signed-laters [] h = refl
signed-laters (n ∷ ls) h =
    let less = le-mul_of_pos_right (nonzeros ls) (nonzero-pos n) in
    let turned = mul_comm (nonzero n) (nonzeros ls) in
    signed_more (product ls) (laters ls) (omega (arith, product_below ls)) (signed-laters ls (omega arith))

signed-earliers : (a : ℕ) (ls : List ℕ) → a * nonzeros ls ≤ 1048576 → signed (earliers a ls) ≡ map pos (earliers a ls)
signed-earliers a [] h = refl
signed-earliers a (n ∷ ls) h =
    let less : a * n * nonzeros ls ≤ a * nonzero n * nonzeros ls = mul-le-mul_right (nonzeros ls) (mul-le-mul_left a (nonzero_above n)) in
    let tail = signed-earliers (a * n) ls (omega (arith, mul_assoc a (nonzero n) (nonzeros ls))) in
    signed_more a (earliers (a * n) ls) (omega (arith, le-mul_of_pos_right a (nonzeros-pos (n ∷ ls)))) tail

signed-order : (ls ws : List ℕ) → signed ws ≡ map pos ws → signed (cond (some_zero ls) (replicate (length ls) 0) ws) ≡ map pos (cond (some_zero ls) (replicate (length ls) 0) ws)
signed-order ls ws e = cond_both (some_zero ls) (replicate (length ls) 0) ws (λ ys. signed ys ≡ map pos ys) (λ _. signed-zeros (length ls)) (λ _. e)

pub signed_row : (ls : List ℕ) → nonzeros ls ≤ 1048576 → signed (row_major ls) ≡ map pos (row_major ls)
signed_row ls small = signed-order ls (laters ls) (signed-laters ls small)

pub signed_column : (ls : List ℕ) → nonzeros ls ≤ 1048576 → signed (column_major ls) ≡ map pos (column_major ls)
signed_column ls small = signed-order ls (earliers 1 ls) (signed-earliers 1 ls (omega (arith, one-mul (nonzeros ls))))
