-- What holds of a grid after any list of calls, of meeting on it and of filling by a selection.
use Rattle.std.specs.Prelude.{◌≡◌, ◌↔◌, List, length, None, Decides}
use Rattle.laws.specs.Space.{Seen, Sound}
use Rattle.laws.specs.Filling.{Filled}
use Rattle.laws.specs.Elements.{Elem}
use Rattle.laws.specs.Slicing.{slice_fault, sliced}
use Rattle.laws.specs.Calls.{Call, run}
use Rattle.laws.specs.History.{Kept}
use Rattle.laws.specs.Meeting.{Meet, Shared, meeting}
use Rattle.laws.specs.Posting.{posted, EitherOrder}

-- the grid accepts a selection
abbrev pub Accepts : Seen → List Elem → Type 0
Accepts s es = slice_fault es s.lens ≡ None

-- the verdict of meeting is whether the two slices have a cell in common; fillings fill the slice; and after a no the two fillings commute
pub record Holds (X : Type 0) (s : Seen) : Type 0 where
  pub said : (es us : List Elem) → Accepts s es → Accepts s us → Decides (meeting es us s.lens) (Meet s.lens es us)
  pub meets : (es us : List Elem) → Accepts s es → Accepts s us → Meet s.lens es us ↔ Shared (sliced es s) (sliced us s)
  pub fills : (es : List Elem) → Accepts s es → (v : X) (xs : List X) → length xs ≡ s.cells → Filled (sliced es s) v xs (posted es s v xs)
  pub commutes : (es us : List Elem) → Accepts s es → Accepts s us → (Meet s.lens es us → ⊥) → (v w : X) (xs : List X) → EitherOrder s es us v w xs

-- the whole promise for cells of one kind
abbrev pub Whole : Type 0 → Type 0
Whole X = (fresh : Seen) → Sound fresh → (cs : List Call) → Sound (run fresh cs) × Kept fresh cs × Holds X (run fresh cs)
