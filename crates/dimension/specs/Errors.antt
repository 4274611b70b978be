-- The faults of the rows, each with its number.
use Rattle.std.specs.Prelude.{ℕ, Ok, Err, Result}
use Rattle.laws.specs.Faults.{Fault, in_rows, InRows, InSelection, InGrid}
use Rattle.laws.specs.Faults as faults
use Rattle.dimension.specs.declared.error.RowFault.{RowFault}
use Rattle.dimension.specs.declared.error.RowFault.TheVariants.{IncompatibleShape, IncompatibleLayout, Unsupported, Overflow, RankLimit, SizeLimit}
use Rattle.dimension.specs.declared.error.Layer.{Layer}
use Rattle.dimension.specs.declared.error.Layer.TheVariants.{Rows, Selection, Grid}

abbrev pub row_number : RowFault → ℕ
row_number IncompatibleShape = 1
row_number IncompatibleLayout = 2
row_number Unsupported = 5
row_number Overflow = 6
row_number RankLimit = 11
row_number SizeLimit = 12

-- a layer as the rules name it
abbrev pub layer_of : Layer → faults.Layer
layer_of Rows = InRows
layer_of Selection = InSelection
layer_of Grid = InGrid

-- a fault of the rows names no place
abbrev pub row_fault : RowFault → Fault
row_fault f = in_rows (row_number f)

-- an answer as the rules speak of it: what a value shows, or the fault's number, layer and place
abbrev pub answered : {A B : Type 0} → (A → B) → Result A RowFault → Result B Fault
answered shows (Ok x) = Ok (shows x)
answered shows (Err f) = Err (row_fault f)
