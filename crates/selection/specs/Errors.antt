-- The faults of a selection, each with its number and its place.
use Rattle.std.specs.Prelude.{ℕ, Some, None, Ok, Err, Option, Result}
use Rattle.laws.specs.Faults.{Fault, InSelection}
use Rattle.selection.specs.declared.error.SliceFault.{SliceFault}
use Rattle.selection.specs.declared.error.SliceFault.TheVariants.{IncompatibleShape, RankLimit, AxisCount, Outside, BadStep}

abbrev pub slice_number : SliceFault → ℕ
slice_number IncompatibleShape = 1
slice_number RankLimit = 11
slice_number AxisCount = 13
slice_number (Outside k) = 14
slice_number (BadStep k) = 15

-- only 14 and 15 name a place
abbrev pub slice_place : SliceFault → Option ℕ
slice_place IncompatibleShape = None
slice_place RankLimit = None
slice_place AxisCount = None
slice_place (Outside k) = Some k
slice_place (BadStep k) = Some k

-- a fault of a selection, with no place and at a place
abbrev pub in_selection : ℕ → Fault
in_selection n = record { number = n; layer = InSelection; place = None }

abbrev pub at_place : ℕ → ℕ → Fault
at_place n k = record { number = n; layer = InSelection; place = Some k }

abbrev pub slice_fault_of : SliceFault → Fault
slice_fault_of f = record { number = slice_number f; layer = InSelection; place = slice_place f }

-- an answer as the rules speak of it: what a value shows, or the fault's number, layer and place
abbrev pub answered : {A B : Type 0} → (A → B) → Result A SliceFault → Result B Fault
answered shows (Ok x) = Ok (shows x)
answered shows (Err f) = Err (slice_fault_of f)

-- the fault that was found, if one was
abbrev pub found : Option SliceFault → Option Fault
found None = None
found (Some f) = Some (slice_fault_of f)
