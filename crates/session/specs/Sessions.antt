-- What a command leaves of the cells, the grid and the postings.
use Rattle.std.specs.Prelude.{◌≡◌, ℕ, [], replicate, pos, Some, vec_items, Option}
use Rattle.cells.specs.declared.pay.PayLine.{PayLine}
use Rattle.grid.specs.declared.layout.Layout.{Layout}
use Rattle.session.specs.declared.answer.Answer.{Answer}
use Rattle.session.specs.declared.answer.Answer.TheVariants as answer
use Rattle.script.specs.declared.command.Command.{Command}
use Rattle.script.specs.declared.command.Command.TheVariants as command
use Rattle.script.specs.declared.command.Kind.{Kind}
use Rattle.script.specs.declared.command.Kind.TheVariants as kind
use Rattle.session.specs.declared.lent.Lent.{Lent}
use Rattle.session.specs.declared.lent.Lent.TheVariants.{Cents, Lines}
use Rattle.session.specs.declared.session.Session.{Session}

-- the lent cells are of the same kind and hold the same values
abbrev pub SameCells : Lent → Lent → Type 0
SameCells (Cents a) (Cents b) = vec_items b ≡ vec_items a
SameCells (Lines a) (Lines b) = vec_items b ≡ vec_items a
SameCells (Cents a) (Lines b) = ⊥
SameCells (Lines a) (Cents b) = ⊥

-- a pay line of zeros
abbrev pub blank : PayLine
blank = record { person = 0; code = 0; cents = pos 0 }

-- so many cells of a kind, all zero
abbrev pub Zeros : ℕ → Kind → Lent → Type 0
Zeros n kind.Cents (Cents v) = vec_items v ≡ replicate n (pos 0)
Zeros n kind.Lines (Lines v) = vec_items v ≡ replicate n blank
Zeros n kind.Cents (Lines v) = ⊥
Zeros n kind.Lines (Cents v) = ⊥

-- the session has the same cells, the same grid and the same postings
pub record Kept (before after : Session) : Type 0 where
  pub cells : SameCells before.lent after.lent
  pub grid : after.grid ≡ before.grid
  pub posted : vec_items after.posted ≡ vec_items before.posted

-- new cells are lent, all zero, and nothing is posted to them
pub record Relent (count : ℕ) (of : Kind) (before after : Session) : Type 0 where
  pub cells : Zeros count of after.lent
  pub grid : after.grid ≡ before.grid
  pub posted : vec_items after.posted ≡ []

-- the answer shows the open grid
abbrev pub Shows : Answer → Option Layout → Type 0
Shows (answer.Grid layout) grid = grid ≡ Some layout
Shows (answer.Yes layout) grid = grid ≡ Some layout
Shows (answer.No layout) grid = grid ≡ Some layout
Shows answer.Done grid = ⊥
Shows (answer.Ruled rule) grid = ⊥
Shows (answer.Counted taken left) grid = ⊥
Shows (answer.Found value) grid = ⊥
Shows (answer.Cells values) grid = ⊥
Shows (answer.Report report) grid = ⊥

-- a grid is opened over the same cells, the answer shows it, and nothing is posted to it
pub record Reopened (before after : Session) (told : Answer) : Type 0 where
  pub cells : SameCells before.lent after.lent
  pub grid : Shows told after.grid
  pub posted : vec_items after.posted ≡ []

-- the grid is changed or stays over the same cells, and the answer shows it
pub record Regridded (before after : Session) (told : Answer) : Type 0 where
  pub cells : SameCells before.lent after.lent
  pub grid : Shows told after.grid

-- what a performed command leaves
abbrev pub Performed : Command → Session → Session → Answer → Type 0
Performed (command.Lend count of) before after told = Relent count.value of before after
Performed (command.Open opening) before after told = Reopened before after told
Performed (command.Change change) before after told = Regridded before after told
Performed (command.Fill filling) before after told = after.grid ≡ before.grid
Performed (command.Rule ruling) before after told = Kept before after
Performed (command.Info storing) before after told = Kept before after
Performed (command.Read index) before after told = Kept before after
Performed command.Cells before after told = Kept before after
Performed command.Report before after told = Kept before after
