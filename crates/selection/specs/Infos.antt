-- The elements of a stored selection, and what storing a list answers.
use Rattle.std.specs.Prelude.{ℕ, Bool, false, not, List, length, take, Some, None, Ok, Option, Result, ◌==◌, nat_lt}
use Rattle.laws.specs.Faults.{Fault, refuse}
use Rattle.laws.specs.Elements.{Elem, in_count, out_count}
use Rattle.selection.specs.declared.info.SliceInfo.{SliceInfo}
use Rattle.selection.specs.Slices.{elems_of}
use Rattle.selection.specs.Args.{Counted}
use Rattle.selection.specs.Errors.{in_selection}

-- the elements of a stored selection
abbrev pub stored : SliceInfo → List Elem
stored x = elems_of (take x.len x.elems)

pub stored_owed : (x : SliceInfo) → Counted (stored x) x.in_ndim x.out_ndim
stored_owed x = record { takes = x.takes; leaves = x.leaves }

-- whether a count is not the expected one, where one is expected
abbrev pub unexpected : Option ℕ → ℕ → Bool
unexpected None n = false
unexpected (Some m) n = not (m == n)

-- storing a list; 11 for more than sixteen elements, then 1 where it takes, or leaves, another number of axes than expected
abbrev pub storing : Option ℕ → Option ℕ → List Elem → Result (List Elem) Fault
storing ins outs es =
    refuse (nat_lt 16 (length es)) (in_selection 11)
    (refuse (unexpected ins (in_count es)) (in_selection 1)
    (refuse (unexpected outs (out_count es)) (in_selection 1)
    (Ok es)))
