-- What the checks of the rows passed, and that what opening in an order accepts is sound.
use Rattle.std.proofs.Common.{◌≡◌, ℕ, ◌≤◌, false, ltb, List, map, length, pos, Ok}
use Rattle.std.proofs.lemmas.Bool.{ltb-false}
use Rattle.laws.specs.Lengths.{product, nonzeros}
use Rattle.laws.specs.Strides.{signed}
use Rattle.laws.specs.Space.{Sound}
use Rattle.laws.specs.Faults.{in_rows}
use Rattle.laws.specs.Opening.{limit, most, fresh}
use Rattle.laws.proofs.Faults.{passed_on}
use Rattle.laws.proofs.Opened.{ordered_sound_row, ordered_sound_column, signed_row, signed_column}
use Rattle.dimension.specs.declared.order.Order.{Order}
use Rattle.dimension.specs.declared.order.Order.TheVariants.{RowMajor, ColumnMajor}
use Rattle.grid.specs.Layouts.{in_order, shaped}

pub ordered_sound : (order : Order) (cells : ℕ) (ls : List ℕ) → length ls ≤ 8 → ltb limit cells ≡ false → ltb limit (nonzeros ls) ≡ false → product ls ≤ cells
    → Sound (fresh cells ls (map pos (in_order order ls)))
ordered_sound RowMajor cells ls few narrow small fits = ordered_sound_row cells ls few (ltb-false limit cells narrow) (ltb-false limit (nonzeros ls) small) fits
ordered_sound ColumnMajor cells ls few narrow small fits = ordered_sound_column cells ls few (ltb-false limit cells narrow) (ltb-false limit (nonzeros ls) small) fits

pub signed-order : (order : Order) (ls : List ℕ) → ltb limit (nonzeros ls) ≡ false → signed (in_order order ls) ≡ map pos (in_order order ls)
signed-order RowMajor ls small = signed_row ls (ltb-false limit (nonzeros ls) small)
signed-order ColumnMajor ls small = signed_column ls (ltb-false limit (nonzeros ls) small)

-- ---- what was passed on the way to an answer

pub shape_passed : (cells : ℕ) (ls : List ℕ) (n : ℕ) → Ok n ≡ shaped cells ls
    → (ltb limit cells ≡ false) × (ltb most (nonzeros ls) ≡ false) × (ltb limit (nonzeros ls) ≡ false) × (n ≡ product ls)
shape_passed cells ls n e =
    let a = passed_on (ltb limit cells) (in_rows 12) n _ e in
    let b = passed_on (ltb most (nonzeros ls)) (in_rows 6) n _ a.1 in
    let c = passed_on (ltb limit (nonzeros ls)) (in_rows 12) n (Ok (product ls)) b.1 in
    let last = c.1 in
    (a.0, b.0, c.0, cc)
