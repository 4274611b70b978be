-- The plain model's rules make of lengths and tuples what the grid's rules make of them.
use Rattle.std.proofs.Common.{◌≡◌, ℕ, zero, suc, ◌+◌, ◌-◌, ◌*◌, ◌/◌, ◌%◌, ◌<◌, ◌≤◌, Bool, true, false, cond, eqb, ltb, leb, List, [], ◌∷◌, length, get_or, set, ℤ, pos, negsuc, ◌+ℤ◌, nat_abs, ◌≤ℤ◌, None, sym, refl, ap, ◌∙◌, ap₂, inl, inr, arith}
use Rattle.std.proofs.lemmas.List.FromFn.{length-map-range_with_len, get_or-map-range_with_len}
use Rattle.std.proofs.lemmas.List.{length-set, get_or-set_same, get_or-set_other, set_comm, ext_get_or}
use Rattle.std.proofs.lemmas.Int.{ints}
use Rattle.std.proofs.lemmas.Bool.{cases_eq, and_from, and_left, and_right, le-leb, lt-leb, lt-ltb, le-ltb, eq-eqb, ne_eqb}
use Rattle.laws.specs.Tuples.{Within}
use Rattle.laws.specs.Elements.{Elem, Slice, Index, NewAxis, outside, outside_index, bad_step, entries, entry}
use Rattle.laws.specs.Slicing.{first_fault, sliced_lens, sliced_back}
use Rattle.laws.specs.Merging.{merged_lens, merged_back}
use Rattle.laws.specs.Model.{stepped, between, how_many, kept_by, lens_by, back_by, changed, lens_joined, back_joined}
use Rattle.laws.proofs.Faults.{none_unless}
use Rattle.laws.proofs.Resolving.{step_some, entries-within, entries_past, entries-few, entry-low, entry-high}

-- ---- a range

-- how many pass, where just the first r do
count_front : (n r : ℕ) (f : ℕ → Bool) → r ≤ n → ((j : ℕ) → j < r → f j ≡ true) → ((j : ℕ) → r ≤ j → j < n → f j ≡ false) → how_many n f ≡ r
count_front zero r f h on off = omega arith
count_front (suc n) r f h on off =
    elim (cases_eq r (suc n)) [
      | inl e ↦ rw (on n (omega arith)) (omega (arith, count_front n n f (omega arith) (λ j l. on j (omega arith)) (λ j l k. absurd (omega arith))))
      | inr e ↦ rw (off n (omega arith) (omega arith)) (omega (arith, count_front n r f (omega arith) on (λ j l k. off j l (omega arith))))
    ]

between-low : (a b : ℕ) (z : ℤ) → (z +ℤ pos 1) ≤ℤ pos a → between a b z ≡ false
between-low a b (pos i) h = and_left (leb a i) (ltb i b) (lt-leb a i (omega (arith, ints)))
between-low a b (negsuc i) h = refl

module _ (a b : ℕ) where
  stepped_is : (j : ℕ) (p : ℤ) → j * nat_abs p < b - a → stepped a b p j ≡ pos (entry a b p j)
  stepped_is j (pos n) h = refl
  stepped_is j (negsuc n) h = omega (arith, ints)

  stepped_in : (j : ℕ) (p : ℤ) → j * nat_abs p < b - a → between a b (stepped a b p j) ≡ true
  stepped_in j p h =
      let i = entry a b p j in
      ap (between a b) (stepped_is j p h) ∙ and_from (leb a i) (ltb i b) (le-leb a i (entry-low a b j p h)) (lt-ltb i b (entry-high a b j p h))

  stepped_out : (j : ℕ) (p : ℤ) → b - a ≤ j * nat_abs p → between a b (stepped a b p j) ≡ false
  stepped_out j (pos n) h = and_right (leb a (a + j * n)) (ltb (a + j * n) b) (le-ltb (a + j * n) b (omega arith))
  stepped_out j (negsuc n) h = between-low a b (stepped a b (negsuc n) j) (omega (arith, ints))

  kept_entries : (p : ℤ) → 0 < nat_abs p → kept_by a b p ≡ entries a b p
  kept_entries p s =
      count_front b (entries a b p) (λ j. between a b (stepped a b p j)) (entries-few a b p s)
      (λ j h. stepped_in j p (entries-within a b p s j h)) (λ j h k. stepped_out j p (entries_past a b p s j h))

-- ---- slicing

pub slicing-lens : (k : ℕ) (es : List Elem) (ds : List ℕ) → first_fault k es ds ≡ None → sliced_lens es ds ≡ lens_by es ds
slicing-lens k [] ds f = refl
slicing-lens k (NewAxis ∷ es) ds f = ap (λ t. 1 ∷ t) (slicing-lens (suc k) es ds f)
slicing-lens k (Slice s e p ∷ es) [] f = refl
slicing-lens k (Slice s e p ∷ es) (d ∷ ds) f =
    let here = none_unless (outside d s e) _ _ f in
    let step = none_unless (bad_step p) _ _ here.1 in
    ap₂ ◌∷◌ (sym (kept_entries _ _ p (step_some p step.0))) (slicing-lens (suc k) es ds step.1)
slicing-lens k (Index i ∷ es) [] f = refl
slicing-lens k (Index i ∷ es) (d ∷ ds) f = slicing-lens (suc k) es ds (none_unless (outside_index d i) _ _ f).1

pub slicing-back : (k : ℕ) (es : List Elem) (ds t : List ℕ) → first_fault k es ds ≡ None → Within t (sliced_lens es ds) → sliced_back es ds t ≡ back_by es ds t
slicing-back k [] ds t f w = refl
slicing-back k (NewAxis ∷ es) ds [] f w = refl
slicing-back k (NewAxis ∷ es) ds (j ∷ t) f w = slicing-back (suc k) es ds t f w.1
slicing-back k (Slice s e p ∷ es) [] t f w = refl
slicing-back k (Slice s e p ∷ es) (d ∷ ds) [] f w = refl
slicing-back k (Slice s e p ∷ es) (d ∷ ds) (j ∷ t) f w =
    let here = none_unless (outside d s e) _ _ f in
    let step = none_unless (bad_step p) _ _ here.1 in
    let inner = entries-within _ _ p (step_some p step.0) j w.0 in
    ap₂ ◌∷◌ (sym (ap nat_abs (stepped_is _ _ j p inner))) (slicing-back (suc k) es ds t step.1 w.1)
slicing-back k (Index i ∷ es) [] t f w = refl
slicing-back k (Index i ∷ es) (d ∷ ds) t f w = ap₂ ◌∷◌ refl (slicing-back (suc k) es ds t (none_unless (outside_index d i) _ _ f).1 w)

-- ---- merging

-- a row with two places written, place by place
module _ (take there into here : ℕ) (ns : List ℕ) where
  abbrev number : ℕ → ℕ
  number k = cond (eqb k take) there (cond (eqb k into) here (get_or ns k 0))

  number_at : (k : ℕ) → k < length ns → get_or (set (set ns into here) take there) k 0 ≡ number k
  number_at k h =
      let long = length-set ns into here in
      elim (cases_eq k take) [
        | inl e ↦ rw (e, eq-eqb take take refl) (get_or-set_same (set ns into here) take there 0 (omega arith))
        | inr e ↦ rw (ne_eqb k take e) (get_or-set_other (set ns into here) take k there 0 e ∙ other)
      ]
    where
      other : get_or (set ns into here) k 0 ≡ cond (eqb k into) here (get_or ns k 0)
      other =
          elim (cases_eq k into) [
            | inl e ↦ rw (e, eq-eqb into into refl) (get_or-set_same ns into here 0 (omega arith))
            | inr e ↦ rw (ne_eqb k into e) (get_or-set_other ns into k here 0 e)
          ]

  written : set (set ns into here) take there ≡ changed take there into here ns
  written =
      let long : length (set (set ns into here) take there) ≡ length ns = length-set (set ns into here) take there ∙ length-set ns into here in
      ext_get_or 0 (set (set ns into here) take there) (changed take there into here ns) (long ∙ sym (length-map-range_with_len number 0 (length ns)))
      (λ k h. number_at k (omega arith) ∙ sym (get_or-map-range_with_len number 0 (length ns) k k 0 (omega arith) (omega arith)))

pub merging-lens : (take into : ℕ) (ds : List ℕ) → merged_lens take into ds ≡ lens_joined take into ds
merging-lens take into ds = written take _ into _ ds

pub merging-back : (take into : ℕ) (ds t : List ℕ) → merged_back take into ds t ≡ back_joined take into ds t
merging-back take into ds t =
    let q = get_or t into 0 / get_or ds into 0 in
    let r = get_or t into 0 % get_or ds into 0 in
    elim (cases_eq take into) [
      | inl e ↦ rw (eq-eqb take into e)
      | inr e ↦ rw (ne_eqb take into e) (set_comm t take into q r e ∙ written take q into r t)
    ]
