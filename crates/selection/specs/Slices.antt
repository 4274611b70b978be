-- The elements of a selection as code holds them, and what they mean.
use Rattle.std.specs.Prelude.{Bool, true, false, List, map, Some, None, Option}
use Rattle.laws.specs.Elements.{Elem, Slice, Index, NewAxis}
use Rattle.selection.specs.declared.slice.SliceInfoElem.{SliceInfoElem}
use Rattle.selection.specs.declared.slice.SliceInfoElem.TheVariants as held

-- what an element means
abbrev pub elem_of : SliceInfoElem → Elem
elem_of (held.Slice r) = Slice r.start r.end r.step
elem_of (held.Index i) = Index i
elem_of held.NewAxis = NewAxis

-- what a list of elements means, and the element at a place
abbrev pub elems_of : List SliceInfoElem → List Elem
elems_of xs = map elem_of xs

abbrev pub meant : Option SliceInfoElem → Option Elem
meant None = None
meant (Some x) = Some (elem_of x)

abbrev pub is_index : Elem → Bool
is_index (Slice s e p) = false
is_index (Index i) = true
is_index NewAxis = false

abbrev pub is_new_axis : Elem → Bool
is_new_axis (Slice s e p) = false
is_new_axis (Index i) = false
is_new_axis NewAxis = true
