-- What an element makes of an axis of length d, and why it is refused.
use Rattle.std.specs.Prelude.{ℕ, ◌<◌, ◌≤◌, cond, not, List, length, ℤ, Some, None, Ok, Err, Option, Result, ◌==◌, nat_lt, unsigned_abs}
use Rattle.laws.specs.Faults.{Fault, refuse}
use Rattle.laws.specs.Elements.{Elem, Slice, Index, NewAxis, resolved, before, ending, ending_before, upper, outside, outside_index, bad_step, in_count, out_count}
use Rattle.selection.specs.Errors.{in_selection, at_place}

-- a place, or none below 0; and the same for an end that may be absent
abbrev pub placed : ℕ → ℤ → Option ℕ
placed d p = cond (before d p) None (Some (resolved d p))

abbrev pub placed_end : ℕ → Option ℤ → Option ℕ
placed_end d e = cond (ending_before d e) None (Some (ending d e))

-- where a range begins and stops, or none where it is outside
abbrev pub spanned : ℕ → ℤ → Option ℤ → Option (ℕ × ℕ)
spanned d s e = cond (outside d s e) None (Some (resolved d s, upper d s e))

-- the same for the range at place k of a selection; 14 where it is outside, then 15 for a bad step
abbrev pub ranged : ℕ → ℕ → ℤ → Option ℤ → ℤ → Result (ℕ × ℕ) Fault
ranged k d s e p =
    refuse (outside d s e) (at_place 14 k)
    (refuse (bad_step p) (at_place 15 k)
    (Ok (resolved d s, upper d s e)))

-- the index at place k of a selection; 14 where it is outside
abbrev pub indexed : ℕ → ℕ → ℤ → Result ℕ Fault
indexed k d i = refuse (outside_index d i) (at_place 14 k) (Ok (resolved d i))

-- a range within its axis, with a step that is neither 0 nor too great
pub record Bounded (d : ℕ) (p : ℤ) (from to : ℕ) : Type 0 where
  pub order : from ≤ to
  pub within : to ≤ d
  pub moves : 0 < unsigned_abs p
  pub small : unsigned_abs p ≤ 1048576

-- the fault of an answer, if it is one
abbrev pub fault_in : {A : Type 0} → Result A Fault → Option Fault
fault_in (Ok x) = None
fault_in (Err f) = Some f

-- why the element at place k is refused, if it is; a new axis never is
abbrev pub elem_fault : ℕ → ℕ → Elem → Option Fault
elem_fault k d (Slice s e p) = fault_in (ranged k d s e p)
elem_fault k d (Index i) = fault_in (indexed k d i)
elem_fault k d NewAxis = None

-- a selection's two counts on axes of these lengths; 13 where it takes another count than there are, then 11 where it leaves more than eight
abbrev pub counts_fit : List Elem → List ℕ → Result (Unit {0}) Fault
counts_fit es ds =
    refuse (not (in_count es == length ds)) (in_selection 13)
    (refuse (nat_lt 8 (out_count es)) (in_selection 11)
    (Ok tt))
