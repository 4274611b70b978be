-- The calls that change a grid and their answers, as the rules see them.
use Rattle.std.specs.Prelude.{◌≡◌, List, [], ◌∷◌, Ok, Err, Result}
use Rattle.laws.specs.Elements.{Elem}
use Rattle.laws.specs.Calls as rules
use Rattle.grid.specs.declared.calls.Call.{Call}
use Rattle.grid.specs.declared.calls.Call.TheVariants.{Slice, Collapse, Merge}
use Rattle.grid.specs.declared.calls.Outcome.{Outcome}
use Rattle.grid.specs.declared.calls.Outcome.TheVariants.{No, Done}
use Rattle.grid.specs.declared.error.GridCall.{GridCall}
use Rattle.grid.specs.declared.error.GridCall.TheVariants as named
use Rattle.grid.specs.declared.error.GridFault.{GridFault}
use Rattle.grid.specs.Errors.{cause_fault}

-- what a call means, by the elements of its selection
abbrev pub meaning : {S : Type 0} → (S → List Elem) → Call S → rules.Call
meaning elems (Slice sel) = rules.Slicing (elems sel)
meaning elems (Collapse axis index) = rules.Collapsing axis index
meaning elems (Merge take into) = rules.Merging take into

-- the name of a call
abbrev pub name_of : {S : Type 0} → Call S → GridCall
name_of (Slice sel) = named.Slice
name_of (Collapse axis index) = named.Collapse
name_of (Merge take into) = named.Merge

-- an answer as the rules speak of it
abbrev pub saying : Result Outcome GridFault → rules.Answer
saying (Err f) = rules.Refused (cause_fault f.cause)
saying (Ok No) = rules.No
saying (Ok Done) = rules.Done

-- a refusal names the call
abbrev pub Naming : GridCall → Result Outcome GridFault → Type 0
Naming call (Err f) = f.call ≡ call
Naming call (Ok outcome) = Unit {0}

-- each refusal of a list names its call
abbrev pub Names : {S : Type 0} → List (Call S) → List (Result Outcome GridFault) → Type 0
Names [] said = Unit {0}
Names (c ∷ cs) [] = Unit {0}
Names (c ∷ cs) (a ∷ said) = Naming (name_of c) a × Names cs said
