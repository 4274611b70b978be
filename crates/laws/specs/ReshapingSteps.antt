-- One turn of the walk of reshaping: where a group ends, the strides written, and what is left to do.
use Rattle.std.specs.Prelude.{◌≡◌, ℕ, suc, ◌+◌, ◌<◌, ◌≤◌, List, [], ◌∷◌, length, take, drop, ℤ, pos, Some, None, Ok, Err, Option, Result, int_div}
use Rattle.laws.specs.Faults.{Fault, in_rows}
use Rattle.laws.specs.Reshaping.{put, walk, Ready}

-- how many axes the group has; 2 where there is none
abbrev pub ends : Option (ℕ × ℕ × ℤ) → Result (ℕ × ℕ) Fault
ends None = Err (in_rows 2)
ends (Some g) = Ok (g.0, g.1)

-- w divided by one length after another
abbrev pub quotients : ℤ → List ℕ → List ℤ
quotients w [] = []
quotients w (m ∷ ms) = int_div w (pos m) ∷ quotients (int_div w (pos m)) ms

-- from the cursors i and j to f and t, with the strides written before and after
pub record Step (ls : List ℕ) (ss : List ℤ) (ms : List ℕ) (i j : ℕ) (old new : List ℤ) (f t : ℕ) : Type 0 where
  pub on : i + j < f + t
  pub old_in : f ≤ length ls
  pub new_in : t ≤ length ms
  pub long : length new ≡ length old
  pub ready : Ready (drop f ls) (drop f ss) (drop t ms)
  pub rest : (n : ℕ) → put (take j old) (walk (suc n) (drop i ls) (drop i ss) (drop j ms)) ≡ put (take t new) (walk n (drop f ls) (drop f ss) (drop t ms))

-- the walk is refused at the cursors i and j
abbrev pub Refused : List ℕ → List ℤ → List ℕ → ℕ → ℕ → Fault → Type 0
Refused ls ss ms i j f = (n : ℕ) → walk (suc n) (drop i ls) (drop i ss) (drop j ms) ≡ Err f
