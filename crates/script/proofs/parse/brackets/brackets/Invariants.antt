use Rattle.std.proofs.Common.{◌≡◌, ◌-◌, ◌≤◌, length}
use Rattle.script.specs.Cursors.{bytes}
use Rattle.script.proofs.parse.brackets.brackets.Given as goal

abbrev pub invariant-loop-entries : goal.invariant-loop-entries
invariant-loop-entries g l = (bytes l.cursor ≡ bytes l.initial.cursor) × (l.initial.cursor.at ≤ l.cursor.at)

abbrev pub decreases-loop-entries : goal.decreases-loop-entries
decreases-loop-entries g l = length (bytes l.cursor) - l.cursor.at
