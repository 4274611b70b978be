-- Reshaping over rows: orders as the rules name them, and the old rows that are taken.
use Rattle.std.specs.Prelude.{ℕ, Bool, not, ◌&&◌, List, length, ℤ, Ok, Result, ◌==◌, nat_le, nat_lt}
use Rattle.laws.specs.Lengths.{product, nonzeros}
use Rattle.laws.specs.Faults.{Fault, in_rows, refuse}
use Rattle.laws.specs.Opening.{most, limit, span}
use Rattle.laws.specs.Reshaping.{restrided}
use Rattle.laws.specs.Reshaping as rules
use Rattle.dimension.specs.declared.order.Order.{Order}
use Rattle.dimension.specs.declared.order.Order.TheVariants.{RowMajor, ColumnMajor}

-- an order as the rules name it
abbrev pub order_of : Order → rules.Order
order_of RowMajor = rules.RowMajor
order_of ColumnMajor = rules.ColumnMajor

-- whether lengths and strides are such as every grid has: of one rank, with neither the reach nor what the nonzero lengths multiply to past the limit
abbrev pub gridlike : List ℕ → List ℤ → Bool
gridlike ls zs = length ls == length zs && (nat_le (nonzeros ls) limit && nat_le (span ls zs) limit)

-- the size of the new lengths: 6 and 12 as for any lengths, and 1 where the old lengths have another size
abbrev pub resized : List ℕ → List ℕ → Result ℕ Fault
resized ls ms =
    refuse (nat_lt most (nonzeros ms)) (in_rows 6)
    (refuse (nat_lt limit (nonzeros ms)) (in_rows 12)
    (refuse (not (product ms == product ls)) (in_rows 1)
    (Ok (product ms))))

-- the new strides; 2 for old rows that no grid has
abbrev pub guarded : rules.Order → List ℕ → List ℤ → List ℕ → Result (List ℤ) Fault
guarded o ls zs ms = refuse (not (gridlike ls zs)) (in_rows 2) (restrided o ls zs ms)
