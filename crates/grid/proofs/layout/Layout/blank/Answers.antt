use Rattle.std.proofs.Common.{ℕ, List, [], ◌∷◌, sym, subst, lit≤}
use Rattle.laws.specs.Strides.{signed}
use Rattle.laws.specs.Space.{Sound}
use Rattle.laws.specs.Opening.{fresh}
use Rattle.laws.proofs.Opened.{ordered_sound_row}
use Rattle.dimension.specs.Rows.{listed}
use Rattle.grid.proofs.Layouts.{kept}
use Rattle.grid.proofs.layout.Layout.blank.Goals as goal

pub invariant_of-result : goal.invariant_of-result
invariant_of-result c =
    let row = c.copy_of-row.result in
    kept 0 0 (listed row) (signed (listed row))
    (subst (λ (xs : List ℕ). Sound (fresh 0 xs (signed xs))) (sym c.copy_of-row.ensures) (ordered_sound_row 0 (0 ∷ []) (lit≤ tt) (lit≤ tt) (lit≤ tt) (lit≤ tt)))
