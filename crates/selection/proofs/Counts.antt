-- The counts of a list of elements, by element and as a test counts them.
use Rattle.std.proofs.Common.{◌≡◌, ℕ, ◌+◌, Bool, true, false, not, count_by, List, ◌∷◌, refl, arith}
use Rattle.std.proofs.lemmas.List.Recursion.{is_count_by}
use Rattle.laws.specs.Elements.{Elem, Slice, Index, NewAxis, in_count, out_count}
use Rattle.selection.specs.declared.slice.SliceInfoElem.{SliceInfoElem}
use Rattle.selection.specs.declared.slice.SliceInfoElem.TheVariants as held
use Rattle.selection.specs.Slices.{elem_of, elems_of, is_index, is_new_axis}

-- what one element adds to a count that leaves it out or not
abbrev pub adds : Bool → ℕ
adds true = 0
adds false = 1

pub takes_more : (e : Elem) (es : List Elem) → in_count (e ∷ es) ≡ adds (is_new_axis e) + in_count es
takes_more (Slice s e p) es = omega arith
takes_more (Index i) es = omega arith
takes_more NewAxis es = omega arith

-- the axes that a list takes, and leaves, are the elements that pass a test
pub takes-counted : (xs : List SliceInfoElem) → in_count (elems_of xs) ≡ count_by (λ x. not (is_new_axis (elem_of x))) xs
takes-counted = is_count_by (λ xs. in_count (elems_of xs)) (λ x. not (is_new_axis (elem_of x))) refl (elim [
  | held.Slice r ↦ λ xs. omega arith
  | held.Index i ↦ λ xs. omega arith
  | held.NewAxis ↦ λ xs. refl
])

pub leaves-counted : (xs : List SliceInfoElem) → out_count (elems_of xs) ≡ count_by (λ x. not (is_index (elem_of x))) xs
leaves-counted = is_count_by (λ xs. out_count (elems_of xs)) (λ x. not (is_index (elem_of x))) refl (elim [
  | held.Slice r ↦ λ xs. omega arith
  | held.Index i ↦ λ xs. refl
  | held.NewAxis ↦ λ xs. omega arith
])
