-- Merging leaves a grid whose tuples stand for tuples of the merged one.
use Rattle.std.proofs.Common.{◌≡◌, ℕ, zero, suc, ◌+◌, ◌-◌, ◌*◌, ◌/◌, ◌%◌, ◌<◌, ◌≤◌, Bool, true, false, cond, ◌||◌, eqb, leb, ◌≢◌, List, length, get_or, set, ℤ, pos, negsuc, ◌+ℤ◌, ◌*ℤ◌, ◌≤ℤ◌, None, sym, refl, ap, ◌∙◌, subst, inl, inr, mod-lt, mul_comm, mul-le-mul_left, mul-zero, div-add-mod', zero-mul, mul-one, le_of_mul-le-mul_right, arith}
use mathlib.Core.Path.{fun_ext}
use lib.IntN.{zero-*ℤ, +ℤ_idr}
use Rattle.std.proofs.lemmas.Nat.{div_below}
use Rattle.std.proofs.lemmas.List.{length-set, get_or-set_same, get_or-set_other, set-set, set_comm, set-get_or}
use Rattle.std.proofs.lemmas.Int.{ints}
use Rattle.std.proofs.lemmas.Bool.{cases_eq, cond-true, cond-false, leb-true, leb-false, eqb-true, eq-eqb, ne_eqb, both_ways}
use Rattle.std.proofs.lemmas.Bool.Decides.{nat_tests}
use Rattle.laws.specs.Lengths.{nonzero, nonzeros}
use Rattle.laws.specs.Tuples.{Within}
use Rattle.laws.specs.Space.{Seen, Sound, offset, plus, minus, reach, up, down}
use Rattle.laws.specs.Collapsing.{len_at, stride_at, axis_fault}
use Rattle.laws.specs.Merging.{same_stride, merge_fault, mergeable, merged_stride, merged_lens, merged_back, merged}
use Rattle.laws.proofs.Faults.{none_both}
use Rattle.laws.proofs.Tuples.{mul-pos, factor_left, within-length, within_at}
use Rattle.laws.proofs.Lengths.{nonzero-pos}
use Rattle.laws.proofs.Places.{within_unset, offset-index, offset_stride, reach-length, reach_stride, nonzeros-set}
use Rattle.laws.proofs.Joining.{Joins, take_short, into_short, in_step, joined_cell, joined_reach, plus_times, minus_times}
use Rattle.laws.proofs.Cuts.{Cut, cut-whole}
use Rattle.laws.proofs.Refining.{Refined, cut_refined, sound_refined}
use Rattle.laws.proofs.Collapsing.{axis_below}

-- ---- the size

nonzero-suc : (k : ℕ) → nonzero (suc k) ≡ suc k
nonzero-suc k = ap (λ t. cond t 1 (suc k)) (ne_eqb (suc k) 0 (omega arith))

nonzero-product : (n m : ℕ) → nonzero (n * m) ≤ nonzero n * nonzero m
nonzero-product zero m = rw (zero-mul m) (omega (arith, nonzero-pos m))
nonzero-product (suc n) zero = rw (mul-zero (suc n)) (omega (arith, nonzero-pos (suc n)))
nonzero-product (suc n) (suc m) =
    let e : nonzero (suc n * suc m) ≡ suc n * suc m = ap (λ t. cond t 1 (suc n * suc m)) (ne_eqb (suc n * suc m) 0 (omega arith)) in
    subst (λ k. k ≤ nonzero (suc n) * nonzero (suc m)) (sym e)
    (subst (λ k. suc n * suc m ≤ k * nonzero (suc m)) (sym (nonzero-suc n)) (subst (λ k. suc n * suc m ≤ suc n * k) (sym (nonzero-suc m)) (omega arith)))

-- take's length after it
end_below : (k : ℕ) → cond (eqb k 0) 0 1 ≤ 1
end_below k = grind (arith, nat_tests)

nonzero_end : (k : ℕ) → nonzero (cond (eqb k 0) 0 1) ≡ 1
nonzero_end k = grind (arith, nat_tests)

-- ---- two axes that join

module _ (ls : List ℕ) (zs : List ℤ) (take into : ℕ) (y : ℤ) (apart : take ≢ into) (a : take < length ls) (b : into < length ls) (l : length ls ≡ length zs)
    (joins : Joins (get_or ls take 0) (get_or ls into 0) (get_or zs take (pos 0)) (get_or zs into (pos 0)) y) where
  abbrev m : ℕ
  m = get_or ls take 0

  abbrev n : ℕ
  n = get_or ls into 0

  abbrev x : ℤ
  x = get_or zs take (pos 0)

  abbrev z : ℤ
  z = get_or zs into (pos 0)

  abbrev end : ℕ
  end = cond (eqb (n * m) 0) 0 1

  abbrev ns : List ℕ
  ns = merged_lens take into ls

  abbrev ys : List ℤ
  ys = set zs into y

  abbrev worked : List ℕ → List ℕ
  worked t = set (set t take (get_or t into 0 / n)) into (get_or t into 0 % n)

  apart' : into ≢ take
  apart' e = apart (sym e)

  take-before : get_or (set ls into (n * m)) take 0 ≡ m
  take-before = get_or-set_other ls into take (n * m) 0 apart

  long : length (set ls into (n * m)) ≡ length ls
  long = length-set ls into (n * m)

  merged-reach : (f : ℤ → ℕ) → ((k : ℕ) (w : ℤ) → f (pos k *ℤ w) ≡ k * f w) → reach f ns ys ≤ reach f ls zs
  merged-reach f times =
      let yl : length ys ≡ length zs = length-set zs into y in
      let y-into : get_or ys into (pos 0) ≡ y = get_or-set_same zs into y (pos 0) (omega arith) in
      let y-take : get_or ys take (pos 0) ≡ x = get_or-set_other zs into take y (pos 0) apart in
      let four : end - 1 ≡ 0 = omega (arith, end_below (n * m)) in
      let five : (end - 1) * f x ≡ 0 = ap (λ k. k * f x) four ∙ zero-mul (f x) in
      go (reach f ns ys) (reach f ls zs) (reach f ls ys) (reach f (set ls into (n * m)) ys) ((m - 1) * f x) ((n - 1) * f z) ((n - 1) * f y) ((n * m - 1) * f y) ((end - 1) * f x)
      (reach_stride f ls zs into y b l)
      (rw y-into at (reach-length f ls ys into (n * m) b (l ∙ sym yl)))
      (rw (y-take, take-before) at (reach-length f (set ls into (n * m)) ys take end (omega (arith, long)) (long ∙ l ∙ sym yl)))
      five (joined_reach f times m n x z y joins)
    where
      go : (r s t u mx nz ny py ex : ℕ) → t + nz ≡ s + ny → u + ny ≡ t + py → r + mx ≡ u + ex → ex ≡ 0 → py ≤ nz + mx → r ≤ s
      go r s t u mx nz ny py ex p q w v h = omega arith

  merged-small : nonzeros ns ≤ nonzeros ls
  merged-small =
      go (nonzeros ns) (nonzeros (set ls into (n * m))) (nonzeros ls) (nonzero m) (nonzero n) (nonzero (n * m))
      (rw (take-before, nonzero_end (n * m)) at (nonzeros-set (set ls into (n * m)) take end (omega (arith, long))))
      (nonzeros-set ls into (n * m) b) (nonzero-product n m) (mul-pos (nonzero n) (nonzero m) (nonzero-pos n) (nonzero-pos m))
    where
      go : (r u s sm sn sp : ℕ) → r * sm ≡ u * 1 → u * sn ≡ s * sp → sp ≤ sn * sm → 0 < sn * sm → r ≤ s
      go r u s sm sn sp p q h k =
          let e : r * (sn * sm) ≡ s * sp = (let f : r * (sn * sm) ≡ r * sm * sn = omega arith in f ∙ ap (λ i. i * sn) (p ∙ mul-one u) ∙ q) in
          le_of_mul-le-mul_right {m = r} {n = s} {k = sn * sm} (subst (λ i. i ≤ s * (sn * sm)) (sym e) (mul-le-mul_left s h)) k

  module _ (ix : List ℕ) (w : Within ix ns) where
    ix_long : length ix ≡ length ls
    ix_long = within-length ix ns w ∙ length-set (set ls into (n * m)) take end ∙ long

    into_below : get_or ix into 0 < n * m
    into_below =
        let h = within_at ix ns into w (omega (arith, length-set (set ls into (n * m)) take end, long)) in
        subst (λ k. get_or ix into 0 < k) (get_or-set_other (set ls into (n * m)) take into end 0 apart' ∙ get_or-set_same ls into (n * m) 0 b) h

    take_none : get_or ix take 0 ≡ 0
    take_none =
        let h = within_at ix ns take w (omega (arith, length-set (set ls into (n * m)) take end, long)) in
        let e : get_or ns take 0 ≡ end = get_or-set_same (set ls into (n * m)) take end 0 (omega (arith, long)) in
        omega (arith, h, e, end_below (n * m))

    into_some : 0 < n
    into_some = factor_left n m (omega (arith, into_below))

    worked_within : Within (worked ix) ls
    worked_within =
        within_unset (set ix take (get_or ix into 0 / n)) ls into (n * m) (get_or ix into 0 % n)
        (within_unset ix (set ls into (n * m)) take end (get_or ix into 0 / n) w
        (subst (λ k. get_or ix into 0 / n < k) (sym take-before) (div_below (get_or ix into 0) n m into_some (subst (λ k. get_or ix into 0 < k) (mul_comm n m) into_below))))
        (mod-lt (get_or ix into 0) into_some)

    worked_cell : pos 0 +ℤ offset ix ys ≡ offset (worked ix) zs
    worked_cell =
        let i = get_or ix into 0 in
        let q = i / n in
        let r = i % n in
        go (offset ix ys) (offset ix zs) (offset (set ix take q) zs) (offset (worked ix) zs) (pos i *ℤ z) (pos i *ℤ y) (pos 0 *ℤ x) (pos q *ℤ x) (pos r *ℤ z)
        (offset_stride ix zs into y (omega (arith, ix_long)) (ix_long ∙ l))
        (rw take_none at (offset-index ix zs take q (omega (arith, ix_long)) (ix_long ∙ l)))
        (zero-*ℤ x)
        (rw (get_or-set_other ix take into q 0 apart') at (offset-index (set ix take q) zs into r (omega (arith, ix_long, length-set ix take q)) (length-set ix take q ∙ ix_long ∙ l)))
        (joined_cell m n i x z y joins into_below)
      where
        go : (oy oz ot ow iz iy nx qx rz : ℤ) → oy +ℤ iz ≡ oz +ℤ iy → ot +ℤ nx ≡ oz +ℤ qx → nx ≡ pos 0 → ow +ℤ iz ≡ ot +ℤ rz → iy ≡ rz +ℤ qx → pos 0 +ℤ oy ≡ ow
        go oy oz ot ow iz iy nx qx rz p q h s t = omega (arith, ints)

    -- the tuple again, from the one that it stands for
    again : set (set (worked ix) into (get_or (worked ix) take 0 * n + get_or (worked ix) into 0)) take 0 ≡ ix
    again =
        let i = get_or ix into 0 in
        let q = i / n in
        let r = i % n in
        let w-take : get_or (worked ix) take 0 ≡ q = get_or-set_other (set ix take q) into take r 0 apart ∙ get_or-set_same ix take q 0 (omega (arith, ix_long)) in
        let w-into : get_or (worked ix) into 0 ≡ r = get_or-set_same (set ix take q) into r 0 (omega (arith, ix_long, length-set ix take q)) in
        let e : get_or (worked ix) take 0 * n + get_or (worked ix) into 0 ≡ i = ap (λ k. k * n + get_or (worked ix) into 0) w-take ∙ ap (λ k. q * n + k) w-into ∙ div-add-mod' i n in
        ap (λ k. set (set (worked ix) into k) take 0) e
        ∙ ap (λ t. set t take 0) (set-set (set ix take q) into r i ∙ set_comm ix take into q i apart)
        ∙ set-set (set ix into i) take q 0
        ∙ ap (λ t. set t take 0) (set-get_or ix into 0)
        ∙ ap (λ k. set ix take k) (sym take_none)
        ∙ set-get_or ix take 0

  merged-cut : Cut ls zs ns ys (pos 0) worked
  merged-cut = record {
    within = worked_within;
    cell = worked_cell;
    apart = λ ix jx w u e. sym (again ix w) ∙ ap (λ t. set (set t into (get_or t take 0 * n + get_or t into 0)) take 0) e ∙ again jx u;
    top = raised (up ns ys) (up ls zs) (merged-reach plus plus_times);
    bottom = lowered (down ns ys) (down ls zs) (merged-reach minus minus_times);
    paired = length-set (set ls into (n * m)) take end ∙ long ∙ l ∙ sym (length-set zs into y);
    small = merged-small;
  }
    where
      raised : (j k : ℕ) → j ≤ k → (pos 0 +ℤ pos j) ≤ℤ pos k
      raised j k h = omega (arith, ints)

      lowered : (j k : ℕ) → j ≤ k → pos j ≤ℤ (pos 0 +ℤ pos k)
      lowered j k h = omega (arith, ints)

-- ---- what a yes tells

pub same_stride_lem : (x y : ℤ) → same_stride x y ≡ true → x ≡ y
same_stride_lem (pos a) (pos b) e = ap pos (eqb-true a b e)
same_stride_lem (pos a) (negsuc b) e = absurd (both_ways false refl e)
same_stride_lem (negsuc a) (pos b) e = absurd (both_ways false refl e)
same_stride_lem (negsuc a) (negsuc b) e = ap negsuc (eqb-true a b e)

joins_where : (m n : ℕ) (x z : ℤ) (p q : Bool) → leb m 1 ≡ p → leb n 1 ≡ q → (p || (q || same_stride x (pos n *ℤ z))) ≡ true → Joins m n x z (cond p z (cond q x z))
joins_where m n x z true q e f h = take_short (leb-true m 1 e) refl
joins_where m n x z false true e f h = into_short (leb-true n 1 f) refl
joins_where m n x z false false e f h = in_step (leb-false m 1 e) (leb-false n 1 f) (same_stride_lem x (pos n *ℤ z) h) refl

or_false : (b : Bool) → (b || false) ≡ true → b ≡ true
or_false true e = refl
or_false false e = e

length_alone : (n : ℕ) → n ≤ 1 → cond (eqb (n * n) 0) 0 1 ≡ n
length_alone zero h = refl
length_alone (suc zero) h = refl
length_alone (suc (suc n)) h = absurd (omega arith)

-- a tuple worked back, with one axis for both and with two
back_one : (axis : ℕ) (ls : List ℕ) → (λ (t : List ℕ). t) ≡ merged_back axis axis ls
back_one axis ls = fun_ext (λ t. sym (cond-true (eqb axis axis) t _ (eq-eqb axis axis refl)))

back_two : (take into : ℕ) (ls : List ℕ) → take ≢ into → (λ (t : List ℕ). set (set t take (get_or t into 0 / get_or ls into 0)) into (get_or t into 0 % get_or ls into 0)) ≡ merged_back take into ls
back_two take into ls ne = fun_ext (λ t. sym (cond-false (eqb take into) t _ (ne_eqb take into ne)))

-- an axis merged with itself keeps its length and its stride, so nothing changes
module _ (s : Seen) (axis : ℕ) (e : mergeable axis axis s ≡ true) where
  abbrev length-here : ℕ
  length-here = len_at s axis

  abbrev stride_here : ℤ
  stride_here = stride_at s axis

  short : leb length-here 1 ≡ true
  short = or_false (leb length-here 1) (subst (λ t. (leb length-here 1 || cond t false (leb length-here 1 || same_stride stride_here (pos length-here *ℤ stride_here))) ≡ true) (eq-eqb axis axis refl) e)

  same-lens : merged_lens axis axis s.lens ≡ s.lens
  same-lens =
      set-set s.lens axis (length-here * length-here) (cond (eqb (length-here * length-here) 0) 0 1)
      ∙ ap (set s.lens axis) (length_alone length-here (leb-true length-here 1 short))
      ∙ set-get_or s.lens axis 0

  same-strides : set s.strides axis (merged_stride axis axis s) ≡ s.strides
  same-strides = ap (set s.strides axis) (cond-true (leb length-here 1) stride_here _ short) ∙ set-get_or s.strides axis (pos 0)

  pub merged_alone : merged axis axis s ≡ s
  merged_alone = λ i. record { cells = s.cells; start = s.start; lens = same-lens i; strides = same-strides i }

module _ (s : Seen) (h : Sound s) where
  abbrev MergedCut : ℕ → ℕ → Type 0
  MergedCut take into = Cut s.lens s.strides (merged_lens take into s.lens) (set s.strides into (merged_stride take into s)) (pos 0) (merged_back take into s.lens)

  one_axis : (axis : ℕ) → mergeable axis axis s ≡ true → MergedCut axis axis
  one_axis axis e =
      subst (Cut s.lens s.strides (merged_lens axis axis s.lens) (set s.strides axis (merged_stride axis axis s)) (pos 0)) (back_one axis s.lens)
      (rw (same-lens s axis e, same-strides s axis e) (cut-whole s.lens s.strides h.paired))

  two_axes : (take into : ℕ) → take ≢ into → take < length s.lens → into < length s.lens → mergeable take into s ≡ true → MergedCut take into
  two_axes take into ne a b e =
      let ls = s.lens in
      let zs = s.strides in
      let n = len_at s into in
      let m = len_at s take in
      let off : eqb take into ≡ false = ne_eqb take into ne in
      let y = merged_stride take into s in
      let said = subst (λ t. (leb m 1 || cond t false (leb n 1 || same_stride (stride_at s take) (pos n *ℤ stride_at s into))) ≡ true) off e in
      subst (Cut ls zs (merged_lens take into ls) (set zs into y) (pos 0)) (back_two take into ls ne)
      (merged-cut ls zs take into y ne a b h.paired (joins_where m n (stride_at s take) (stride_at s into) (leb m 1) (leb n 1) refl refl said))

  module _ (take into : ℕ) (e : merge_fault take into s ≡ None) (said : mergeable take into s ≡ true) where
    pub merged_refined : Refined s (merged take into s) (merged_back take into s.lens)
    merged_refined =
        let parts = none_both (axis_fault s take) (axis_fault s into) e in
        let long : length (merged_lens take into s.lens) ≤ 8 = simp length-set h.few in
        cut_refined s s.start _ _ (pos 0) (merged_back take into s.lens) h (sym (+ℤ_idr s.start)) long
        (elim (cases_eq take into) [
          | inl p ↦ subst (MergedCut take) p (one_axis take (subst (λ i. mergeable take i s ≡ true) (sym p) said))
          | inr ne ↦ two_axes take into ne (axis_below s take parts.0) (axis_below s into parts.1) said
        ])

    pub merging_sound : Sound (merged take into s)
    merging_sound = sound_refined s (merged take into s) (merged_back take into s.lens) merged_refined h
