-- Merging two axes of a layout, by what code reads of it.
use Rattle.std.proofs.Common.{◌≡◌, ℕ, zero, suc, ◌*◌, ◌^◌, ◌<◌, ◌≤◌, min, Bool, true, false, cond, eqb, leb, List, [], ◌∷◌, get_or, set, ℤ, pos, ◌*ℤ◌, nat_abs, None, Ok, Option, sym, refl, ap, ◌∙◌, subst, ap₂, mul-le-mul, arith, w64, to_z}
use Rattle.std.proofs.lemmas.List.{map-set}
use Rattle.std.proofs.lemmas.Bool.{lt-leb, ne_eqb}
use Rattle.std.proofs.lemmas.Bool.Decides.{nat_tests}
use Rattle.laws.specs.Strides.{signed}
use Rattle.laws.specs.Space.{Sound}
use Rattle.laws.specs.Faults.{Fault, or_else, unless}
use Rattle.laws.specs.Collapsing.{len_at, stride_at, axis_fault}
use Rattle.laws.specs.Merging.{same_stride, merge_fault, mergeable, merged_stride, merged_lens, merged}
use Rattle.laws.specs.Calls.{Merging, Done, No, refused_or, accepted, after}
use Rattle.laws.proofs.Limits.{length-small, stride_small}
use Rattle.laws.proofs.Merging.{merging_sound}
use Rattle.dimension.specs.Rows.{listed}
use Rattle.grid.specs.declared.layout.Layout.{Layout}
use Rattle.grid.specs.declared.error.GridCall.TheVariants.{Merge}
use Rattle.grid.specs.Errors.{calling}
use Rattle.grid.specs.Layouts.{seen}
use Rattle.grid.proofs.Layouts.{sound, Kept, kept}

-- ---- what code reads

signed_any : (ws : List ℕ) (i : ℕ) → to_z w64 (get_or ws i 0) ≡ get_or (signed ws) i (pos 0)
signed_any [] i = refl
signed_any (w ∷ ws) zero = refl
signed_any (w ∷ ws) (suc i) = signed_any ws i

min_one : (p : ℕ) → min p 1 ≡ cond (eqb p 0) 0 1
min_one p = grind (arith, nat_tests)

module _ (l : Layout) where
  pub stride_word : (axis w : ℕ) → w ≡ get_or (listed l.strides) axis 0 → to_z w64 w ≡ stride_at (seen l) axis
  stride_word axis w e = ap (to_z w64) e ∙ signed_any (listed l.strides) axis

  pub length_fits : (axis n : ℕ) → n ≡ get_or (listed l.lens) axis 0 → n ≤ 1048576
  length_fits axis n e = omega (arith, length-small (seen l) axis (sound l))

  pub stride_fits : (axis n w : ℕ) → n ≡ get_or (listed l.lens) axis 0 → w ≡ get_or (listed l.strides) axis 0 → 1 < n → nat_abs (to_z w64 w) ≤ 1048576
  stride_fits axis n w e f h = subst (λ (z : ℤ). nat_abs z ≤ 1048576) (sym (stride_word axis w f)) (stride_small (seen l) axis (sound l) (omega arith))

  pub product_word : (take into m n : ℕ) → m ≡ get_or (listed l.lens) into 0 → n ≡ get_or (listed l.lens) take 0 → m * n < 2 ^ 64
  product_word take into m n e f = omega (arith, mul-le-mul (length_fits into m e) (length_fits take n f))

-- ---- the test

pub by_strides : (l : Layout) (take into m n x y : ℕ) → m ≡ get_or (listed l.lens) take 0 → n ≡ get_or (listed l.lens) into 0 → x ≡ get_or (listed l.strides) take 0 → y ≡ get_or (listed l.strides) into 0
    → 1 < m → 1 < n → (take ≡ into → ⊥) → same_stride (to_z w64 x) (pos n *ℤ to_z w64 y) ≡ mergeable take into (seen l)
by_strides l take into m n x y m-is n-is x-is y-is long longer apart =
    let first : leb (len_at (seen l) take) 1 ≡ false = lt-leb _ _ (omega arith) in
    let second : leb (len_at (seen l) into) 1 ≡ false = lt-leb _ _ (omega arith) in
    let other : eqb take into ≡ false = ne_eqb take into apart in
    rw (first, other, second)
    (ap (λ (z : ℤ). same_stride z (pos n *ℤ to_z w64 y)) (stride_word l take x x-is)
    ∙ ap (λ (z : ℤ). same_stride (stride_at (seen l) take) (pos n *ℤ z)) (stride_word l into y y-is)
    ∙ ap (λ (k : ℕ). same_stride (stride_at (seen l) take) (pos k *ℤ stride_at (seen l) into)) n-is)

-- ---- the answer, and the grid after it

module _ (l : Layout) (take into : ℕ) where
  pub passed : axis_fault (seen l) take ≡ None → axis_fault (seen l) into ≡ None → merge_fault take into (seen l) ≡ None
  passed a b = ap (λ (o : Option Fault). or_else o (axis_fault (seen l) into)) a ∙ b

  pub answered_with : merge_fault take into (seen l) ≡ None → (b : Bool) → b ≡ mergeable take into (seen l) → Ok b ≡ calling Merge (unless (merge_fault take into (seen l)) (mergeable take into (seen l)))
  answered_with e b said = ap (λ (t : Bool). Ok t) said ∙ sym (ap (λ (o : Option Fault). calling Merge (unless o (mergeable take into (seen l)))) e)

  module _ (e : merge_fault take into (seen l) ≡ None) (said : true ≡ mergeable take into (seen l)) (m n w : ℕ) (lens strides : List ℕ)
      (m-is : m ≡ get_or (listed l.lens) into 0) (n-is : n ≡ get_or (listed l.lens) take 0) (w-is : to_z w64 w ≡ merged_stride take into (seen l))
      (lens-is : lens ≡ set (set (listed l.lens) into (m * n)) take (min (m * n) 1)) (strides-is : strides ≡ set (listed l.strides) into w) where
    product_is : m * n ≡ get_or (listed l.lens) into 0 * get_or (listed l.lens) take 0
    product_is = ap₂ (λ (i j : ℕ). i * j) m-is n-is

    lens-on : lens ≡ merged_lens take into (listed l.lens)
    lens-on =
        lens-is ∙ ap (set (set (listed l.lens) into (m * n)) take) (min_one (m * n))
        ∙ ap (λ (p : ℕ). set (set (listed l.lens) into p) take (cond (eqb p 0) 0 1)) product_is

    strides-on : signed strides ≡ set (signed (listed l.strides)) into (merged_stride take into (seen l))
    strides-on = ap signed strides-is ∙ map-set (λ (v : ℕ). to_z w64 v) (listed l.strides) into w ∙ ap (set (signed (listed l.strides)) into) w-is

    merge_is : record { cells = l.cells; start = pos l.start; lens = lens; strides = signed strides } ≡ merged take into (seen l)
    merge_is = λ i. record { cells = l.cells; start = pos l.start; lens = lens-on i; strides = strides-on i }

    pub merge_after : record { cells = l.cells; start = pos l.start; lens = lens; strides = signed strides } ≡ after (Merging take into) (seen l)
    merge_after =
        merge_is
        ∙ sym (ap (λ (o : Option Fault). cond (accepted (refused_or o (cond (mergeable take into (seen l)) Done No))) (merged take into (seen l)) (seen l)) e
        ∙ ap (λ (b : Bool). cond (accepted (cond b Done No)) (merged take into (seen l)) (seen l)) (sym said))

    pub merge_kept : Kept l.cells l.start lens (signed strides)
    merge_kept = kept l.cells l.start lens (signed strides) (subst Sound (sym merge_is) (merging_sound (seen l) (sound l) take into e (sym said)))
