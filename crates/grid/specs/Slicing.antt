-- A slice under way: what is known of it before each element of the selection.
use Rattle.std.specs.Prelude.{◌≡◌, ℕ, ◌+◌, ◌≤◌, List, ◌∷◌, length, drop, pos, Some, Result, MatchResult}
use Rattle.laws.specs.Strides.{signed}
use Rattle.laws.specs.Space.{Seen}
use Rattle.laws.specs.Elements.{Elem, out_count}
use Rattle.laws.specs.Slicing.{first_fault}
use Rattle.laws.proofs.SlicingLoop.{Cutting}
use Rattle.dimension.specs.Rows.{listed}
use Rattle.selection.specs.declared.error.SliceFault.{SliceFault}
use Rattle.selection.specs.Errors.{slice_fault_of}
use Rattle.grid.specs.declared.layout.slicing.Cut.{Cut}

-- the grid over so many cells that the elements so far leave
abbrev pub leaving : ℕ → Cut → Seen
leaving cells c = record { cells = cells; start = pos c.start; lens = listed c.lens; strides = signed (listed c.strides) }

-- before element k: what there is leads on to the sliced grid, and there is room for the axes to come
pub record Under (s : Seen) (es : List Elem) (k : ℕ) (c : Cut) : Type 0 where
  pub cutting : Cutting s es k c.axis (pos c.start) (listed c.lens) (signed (listed c.strides))
  pub within : c.axis ≤ length s.lens
  pub room : length (listed c.lens) + out_count (drop k es) ≤ 8
  pub paired : length (listed c.strides) ≡ length (listed c.lens)

-- one element more, or the selection's first fault
abbrev pub Goes : Seen → Cut → ℕ → Elem → Result (Unit {0}) SliceFault → Cut → Type 0
Goes s c k e r n =
    (es : List Elem) → Under s es k c → drop k es ≡ e ∷ drop (k + 1) es
    → MatchResult r (λ _. Under s es (k + 1) n) (λ f. first_fault 0 es s.lens ≡ Some (slice_fault_of f))
