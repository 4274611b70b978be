-- The faults of the grid: why a call is refused, and by which call.
use Rattle.std.specs.Prelude.{Ok, Err, Result}
use Rattle.laws.specs.Faults.{Fault, in_grid}
use Rattle.laws.specs.Collapsing.{outside_axis}
use Rattle.dimension.specs.Errors.{row_fault}
use Rattle.selection.specs.Errors.{slice_fault_of}
use Rattle.grid.specs.declared.error.Cause.{Cause}
use Rattle.grid.specs.declared.error.Cause.TheVariants.{Rows, Selection, OutOfBounds, Outside}
use Rattle.grid.specs.declared.error.GridCall.{GridCall}
use Rattle.grid.specs.declared.error.GridFault.{GridFault}
use Rattle.grid.specs.declared.error.During.{During}

-- a fault of the rows or of a selection stays what it is; 4, and 14 at an axis, are the grid's own
abbrev pub cause_fault : Cause → Fault
cause_fault (Rows f) = row_fault f
cause_fault (Selection f) = slice_fault_of f
cause_fault OutOfBounds = in_grid 4
cause_fault (Outside axis) = outside_axis axis

-- a fault beside the call that was refused
pub record Refusal : Type 0 where
  pub fault : Fault
  pub call : GridCall

abbrev pub told : GridFault → Refusal
told f = record { fault = cause_fault f.cause; call = f.call }

-- a lower layer's answer with the call noted beside its fault
abbrev pub noted : {A F : Type 0} → Result A F → GridCall → Result A (During F)
noted (Ok x) call = Ok x
noted (Err f) call = Err (record { fault = f; call = call })

-- a rule's answer, given by this call
abbrev pub calling : {A : Type 0} → GridCall → Result A Fault → Result A Refusal
calling call (Ok x) = Ok x
calling call (Err f) = Err (record { fault = f; call = call })

-- an answer as the rules speak of it: what a value shows, or the fault and the call
abbrev pub answered : {A B : Type 0} → (A → B) → Result A GridFault → Result B Refusal
answered shows (Ok x) = Ok (shows x)
answered shows (Err f) = Err (told f)
