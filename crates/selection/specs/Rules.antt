-- The elements of a range on one axis, and what making such a rule answers.
use Rattle.std.specs.Prelude.{ℕ, List, replicate, ℤ, pos, None, Ok, Option, Result, nat_le, nat_lt, slice_set}
use Rattle.std.proofs.Common.{sym}
use Rattle.laws.specs.Faults.{Fault, refuse}
use Rattle.laws.specs.Elements.{Elem, Slice}
use Rattle.laws.proofs.Selections.{takes_among, leaves_among}
use Rattle.selection.specs.declared.rule.AxisRule.{AxisRule}
use Rattle.selection.specs.Args.{Counted}
use Rattle.selection.specs.Errors.{in_selection, at_place}

-- a whole axis
abbrev pub whole : Elem
whole = Slice (pos 0) None (pos 1)

-- all axes whole but one, which has a range
abbrev pub one_range : ℕ → ℕ → ℤ → Option ℤ → ℤ → List Elem
one_range rank axis s e p = slice_set (replicate rank whole) axis (Slice s e p)

abbrev pub ruled : AxisRule → List Elem
ruled x = one_range x.rank x.axis x.range.start x.range.end x.range.step

pub ruled_owed : (x : AxisRule) → Counted (ruled x) x.rank x.rank
ruled_owed x = record {
  takes = sym (takes_among x.rank x.axis (pos 0) None (pos 1) x.range.start x.range.end x.range.step);
  leaves = sym (leaves_among x.rank x.axis (pos 0) None (pos 1) x.range.start x.range.end x.range.step);
}

-- making the rule; 11 for a rank above 8, then 14 at the axis where that is not below the rank
abbrev pub ruling : ℕ → ℕ → ℤ → Option ℤ → ℤ → Result (List Elem) Fault
ruling rank axis s e p =
    refuse (nat_lt 8 rank) (in_selection 11)
    (refuse (nat_le rank axis) (at_place 14 axis)
    (Ok (one_range rank axis s e p)))
