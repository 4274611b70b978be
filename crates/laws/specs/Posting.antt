-- Filling by a selection: what it is refused for, and the cells after it.
use Rattle.std.specs.Prelude.{◌≡◌, ℕ, cond, List, length, Some, None, Option, ◌==◌}
use Rattle.laws.specs.Space.{Seen}
use Rattle.laws.specs.Faults.{Fault, in_grid}
use Rattle.laws.specs.Filling.{filled}
use Rattle.laws.specs.Elements.{Elem}
use Rattle.laws.specs.Slicing.{slice_fault, sliced}

-- 4 where another count of cells is lent, then what slicing is refused for
abbrev pub post_fault : List Elem → Seen → ℕ → Option Fault
post_fault es s n = cond (n == s.cells) (slice_fault es s.lens) (Some (in_grid 4))

-- a refusal leaves all as it was
abbrev pub left_or : {A : Type 0} → Option Fault → A → A → A
left_or (Some f) before after = before
left_or None before after = after

-- the lent cells after it: those of the slice hold the value
abbrev pub posted : {X : Type 0} → List Elem → Seen → X → List X → List X
posted es s v xs = left_or (post_fault es s (length xs)) xs (filled (sliced es s) v xs)

-- two fillings in either order: each gets the answer that it would get alone, and the cells end the same
pub record EitherOrder {X : Type 0} (s : Seen) (es us : List Elem) (v w : X) (xs : List X) : Type 0 where
  pub second : post_fault us s (length (posted es s v xs)) ≡ post_fault us s (length xs)
  pub first : post_fault es s (length (posted us s w xs)) ≡ post_fault es s (length xs)
  pub cells : posted us s w (posted es s v xs) ≡ posted es s v (posted us s w xs)
