-- What is kept through any list of calls on a fresh grid.
use Rattle.std.specs.Prelude.{◌≡◌, ℕ, ◌<◌, List, pos}
use Rattle.laws.specs.Tuples.{Within}
use Rattle.laws.specs.Space.{Seen, Sound, cell}
use Rattle.laws.specs.Filling.{Reaches, Lies}
use Rattle.laws.specs.Calls.{Call, run, taken}
use Rattle.laws.specs.Model.{Model, started, followed}

-- the plain model of a history
abbrev pub model : Seen → List Call → Model
model fresh cs = followed (started fresh.lens) cs (taken fresh cs)

-- no cell that the fresh grid does not reach, none for two tuples, and all lent; the lengths of the model; and for each tuple the cell of the fresh tuple that it stands for
pub record Kept (fresh : Seen) (cs : List Call) : Type 0 where
  pub only : (k : ℕ) → Lies (run fresh cs) k → Lies fresh k
  pub once : (k : ℕ) (ix jx : List ℕ) → Reaches (run fresh cs) ix k → Reaches (run fresh cs) jx k → ix ≡ jx
  pub inside : (ix : List ℕ) → Within ix (run fresh cs).lens → (k : ℕ) × (k < fresh.cells) × (cell (run fresh cs) ix ≡ pos k)
  pub lengths : (run fresh cs).lens ≡ (model fresh cs).lens
  pub fresh_tuple : (ix : List ℕ) → Within ix (run fresh cs).lens → Within ((model fresh cs).fresh ix) fresh.lens
  pub fresh_cell : (ix : List ℕ) → Within ix (run fresh cs).lens → cell (run fresh cs) ix ≡ cell fresh ((model fresh cs).fresh ix)

-- a sound grid stays sound, and all this is kept, whatever the calls
abbrev pub Keeps : Type 0
Keeps = (fresh : Seen) → Sound fresh → (cs : List Call) → Sound (run fresh cs) × Kept fresh cs
