-- A layout and the ways to open one, as the rules see them.
use Rattle.std.specs.Prelude.{ℕ, not, List, [], ◌∷◌, length, ℤ, pos, Ok, Result, ◌==◌, nat_lt}
use Rattle.laws.specs.Strides.{signed, onward, row_major, column_major}
use Rattle.laws.specs.Space.{Seen}
use Rattle.laws.specs.Lengths.{product, nonzeros}
use Rattle.laws.specs.Faults.{Fault, in_rows, refuse}
use Rattle.laws.specs.Opening.{Given, InRowMajor, InColumnMajor, ByStrides, most, limit, span, overflows, some_negative, some_above}
use Rattle.dimension.specs.Rows.{listed}
use Rattle.dimension.specs.declared.order.Order.{Order}
use Rattle.dimension.specs.declared.order.Order.TheVariants.{RowMajor, ColumnMajor}
use Rattle.grid.specs.declared.layout.Layout.{Layout}
use Rattle.grid.specs.declared.shape_builder.Strides.{Strides}
use Rattle.grid.specs.declared.shape_builder.Strides.TheVariants.{C, F, Custom}

-- the cell count, the start, and the words of the two rows
abbrev pub seen : Layout → Seen
seen l = record { cells = l.cells; start = pos l.start; lens = listed l.lens; strides = signed (listed l.strides) }

-- the word so many strides on along one axis after another, counted in 64 bits, as far as both rows go
abbrev pub onwards : ℕ → List ℕ → List ℕ → ℕ
onwards from [] ws = from
onwards from (i ∷ ix) [] = from
onwards from (i ∷ ix) (w ∷ ws) = onwards (onward from i w) ix ws

-- where a tuple's indices lead from the start by a layout's stride words
abbrev pub counted_cell : Layout → List ℕ → ℕ
counted_cell l ix = onwards l.start ix (listed l.strides)

-- the strides of an order
abbrev pub in_order : Order → List ℕ → List ℕ
in_order RowMajor ls = row_major ls
in_order ColumnMajor ls = column_major ls

-- how the strides are given, by the words of the row that holds them
abbrev pub given : {S : Type 0} → (S → List ℕ) → Strides S → Given
given words C = InRowMajor
given words F = InColumnMajor
given words (Custom row) = ByStrides (signed (words row))

-- the size, where no check of an order refuses the rows
abbrev pub shaped : ℕ → List ℕ → Result ℕ Fault
shaped cells ls =
    refuse (nat_lt limit cells) (in_rows 12)
    (refuse (nat_lt most (nonzeros ls)) (in_rows 6)
    (refuse (nat_lt limit (nonzeros ls)) (in_rows 12)
    (Ok (product ls))))

-- the reach, where no check of a stride row refuses the rows
abbrev pub reaching : ℕ → ℕ → List ℕ → List ℤ → Result ℕ Fault
reaching cells size ls zs =
    refuse (nat_lt limit cells) (in_rows 12)
    (refuse (not (length ls == length zs)) (in_rows 2)
    (refuse (some_negative zs) (in_rows 5)
    (refuse (overflows size ls zs) (in_rows 6)
    (refuse (nat_lt limit (nonzeros ls)) (in_rows 12)
    (refuse (some_above limit zs) (in_rows 12)
    (Ok (span ls zs)))))))
