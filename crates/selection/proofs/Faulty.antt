-- The first faulty element, as a loop looks for it.
use Rattle.std.proofs.Common.{◌≡◌, ℕ, suc, ◌+◌, Bool, true, false, cond, List, ◌∷◌, length, get_or, drop, ℤ, Some, None, Ok, Option, sym, refl, ap, ◌∙◌, add-zero, add-one, arith}
use Rattle.std.proofs.lemmas.List.{drop_more}
use Rattle.laws.specs.Faults.{Fault, refuse}
use Rattle.laws.specs.Elements.{Elem, Slice, Index, NewAxis, in_count, resolved, upper, outside, outside_index, bad_step}
use Rattle.laws.specs.Slicing.{first_fault}
use Rattle.selection.specs.Slices.{is_new_axis}
use Rattle.selection.specs.Errors.{at_place}
use Rattle.selection.specs.Resolving.{fault_in, elem_fault}
use Rattle.selection.proofs.Counts.{adds, takes_more}

abbrev or_else : Option Fault → Option Fault → Option Fault
or_else (Some f) o = Some f
or_else None o = o

-- two checks, and one, before what comes after them
two_checks : {A : Type 0} (o t : Bool) (f g : Fault) (x : A) (r : Option Fault) → cond o (Some f) (cond t (Some g) r) ≡ or_else (fault_in (refuse o f (refuse t g (Ok x)))) r
two_checks true t f g x r = refl
two_checks false true f g x r = refl
two_checks false false f g x r = refl

one_check : {A : Type 0} (o : Bool) (f : Fault) (x : A) (r : Option Fault) → cond o (Some f) r ≡ or_else (fault_in (refuse o f (Ok x))) r
one_check true f x r = refl
one_check false f x r = refl

-- an element on its axis, and then the rest
range_cons : (k d : ℕ) (s : ℤ) (b : Option ℤ) (p : ℤ) (es : List Elem) (ds : List ℕ)
    → first_fault k (Slice s b p ∷ es) (d ∷ ds) ≡ or_else (elem_fault k d (Slice s b p)) (first_fault (suc k) es ds)
range_cons k d s b p es ds =
    let ends : ℕ × ℕ = (resolved d s, upper d s b) in
    two_checks (outside d s b) (bad_step p) (at_place 14 k) (at_place 15 k) ends (first_fault (suc k) es ds)

index-cons : (k d : ℕ) (i : ℤ) (es : List Elem) (ds : List ℕ)
    → first_fault k (Index i ∷ es) (d ∷ ds) ≡ or_else (elem_fault k d (Index i)) (first_fault (suc k) es ds)
index-cons k d i es ds = one_check (outside_index d i) (at_place 14 k) (resolved d i) (first_fault (suc k) es ds)

fault-cons : (k axis : ℕ) (e : Elem) (es : List Elem) (ws : List ℕ) → axis + in_count (e ∷ es) ≡ length ws
    → first_fault k (e ∷ es) (drop axis ws) ≡ or_else (elem_fault k (get_or ws axis 0) e) (first_fault (k + 1) es (drop (axis + adds (is_new_axis e)) ws))
fault-cons k axis (Slice s b p) es ws h =
    ap (first_fault k (Slice s b p ∷ es)) (drop_more ws axis 0 (omega arith))
    ∙ range_cons k (get_or ws axis 0) s b p es (drop (axis + 1) ws)
    ∙ ap (λ n. or_else (elem_fault k (get_or ws axis 0) (Slice s b p)) (first_fault n es (drop (axis + 1) ws))) (sym (add-one k))
fault-cons k axis (Index i) es ws h =
    ap (first_fault k (Index i ∷ es)) (drop_more ws axis 0 (omega arith))
    ∙ index-cons k (get_or ws axis 0) i es (drop (axis + 1) ws)
    ∙ ap (λ n. or_else (elem_fault k (get_or ws axis 0) (Index i)) (first_fault n es (drop (axis + 1) ws))) (sym (add-one k))
fault-cons k axis NewAxis es ws h =
    ap (λ n. first_fault n es (drop axis ws)) (sym (add-one k)) ∙ ap (λ n. first_fault (k + 1) es (drop n ws)) (sym (add-zero axis))

-- what is left from place k on, before which the axes up to `axis` are used up
module _ (left rest : List Elem) (ws : List ℕ) (k axis : ℕ) (e : Elem) (split : left ≡ e ∷ rest) (all : axis + in_count left ≡ length ws) where
  pub counts_more : axis + adds (is_new_axis e) + in_count rest ≡ length ws
  counts_more = omega (arith, all, ap in_count split, takes_more e rest)

  fault_at : first_fault k left (drop axis ws) ≡ or_else (elem_fault k (get_or ws axis 0) e) (first_fault (k + 1) rest (drop (axis + adds (is_new_axis e)) ws))
  fault_at =
      ap (λ r. first_fault k r (drop axis ws)) split
      ∙ fault-cons k axis e rest ws (ap (λ r. axis + in_count r) (sym split) ∙ all)

  module _ (d : ℕ) (length-is : d ≡ get_or ws axis 0) where
    pub fault-found : (f : Fault) → Some f ≡ elem_fault k d e → Some f ≡ first_fault k left (drop axis ws)
    fault-found f r =
        let told : elem_fault k (get_or ws axis 0) e ≡ Some f = ap (λ n. elem_fault k n e) (sym length-is) ∙ sym r in
        sym (fault_at ∙ ap (λ o. or_else o (first_fault (k + 1) rest (drop (axis + adds (is_new_axis e)) ws))) told)

    pub fault_passed : None ≡ elem_fault k d e → first_fault (k + 1) rest (drop (axis + adds (is_new_axis e)) ws) ≡ first_fault k left (drop axis ws)
    fault_passed r =
        let told : elem_fault k (get_or ws axis 0) e ≡ None = ap (λ n. elem_fault k n e) (sym length-is) ∙ sym r in
        sym (fault_at ∙ ap (λ o. or_else o (first_fault (k + 1) rest (drop (axis + adds (is_new_axis e)) ws))) told)
