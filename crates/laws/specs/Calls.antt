-- The calls that change a grid, what each answers, and the grid after it.
use Rattle.std.specs.Prelude.{ℕ, Bool, true, false, cond, List, [], ◌∷◌, map, Some, None, Option}
use Rattle.laws.specs.Space.{Seen}
use Rattle.laws.specs.Faults.{Fault}
use Rattle.laws.specs.Elements.{Elem}
use Rattle.laws.specs.Slicing.{slice_fault, sliced}
use Rattle.laws.specs.Collapsing.{collapse_fault, collapsed}
use Rattle.laws.specs.Merging.{merge_fault, mergeable, merged}

-- slicing by a selection; collapsing an axis to an index; merging take into another axis
pub data Call : Type 0 where
  Slicing : List Elem → Call
  Collapsing : ℕ → ℕ → Call
  Merging : ℕ → ℕ → Call

-- a fault, merging's no, or done
pub data Answer : Type 0 where
  Refused : Fault → Answer
  No : Answer
  Done : Answer

-- refused with a fault where there is one
abbrev pub refused_or : Option Fault → Answer → Answer
refused_or (Some f) a = Refused f
refused_or None a = a

abbrev pub answer : Call → Seen → Answer
answer (Slicing es) s = refused_or (slice_fault es s.lens) Done
answer (Collapsing axis index) s = refused_or (collapse_fault axis index s) Done
answer (Merging take into) s = refused_or (merge_fault take into s) (cond (mergeable take into s) Done No)

-- neither a fault nor a no
abbrev pub accepted : Answer → Bool
accepted (Refused f) = false
accepted No = false
accepted Done = true

-- what an accepted call makes of the grid
abbrev pub effect : Call → Seen → Seen
effect (Slicing es) s = sliced es s
effect (Collapsing axis index) s = collapsed axis index s
effect (Merging take into) s = merged take into s

-- the grid after a call; any other call changes nothing
abbrev pub after : Call → Seen → Seen
after c s = cond (accepted (answer c s)) (effect c s) s

-- ---- a list of calls

-- the grid after it
abbrev pub run : Seen → List Call → Seen
run s [] = s
run s (c ∷ cs) = run (after c s) cs

-- what each call answers
abbrev pub answers : Seen → List Call → List Answer
answers s [] = []
answers s (c ∷ cs) = answer c s ∷ answers (after c s) cs

-- which calls were accepted
abbrev pub taken : Seen → List Call → List Bool
taken s cs = map accepted (answers s cs)
