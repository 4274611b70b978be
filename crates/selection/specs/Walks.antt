-- An iterator over the elements of a selection.
use Rattle.std.specs.Prelude.{List, drop, take}
use Rattle.laws.specs.Elements.{Elem}
use Rattle.selection.specs.declared.elems.Elems.{Elems}

-- the elements at the places that are left, of a selection whose elements are given
abbrev pub elems_left : {S : Type 0} → (S → List Elem) → Elems S → List Elem
elems_left elems x = drop x.places.start (take x.places.end (elems x.sel.now))
