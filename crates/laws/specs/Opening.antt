-- Opening a grid: its size, its reach, when two tuples would overlap, and what is refused in which order.
use Rattle.std.specs.Prelude.{ℕ, zero, suc, ◌+◌, ◌-◌, ◌*◌, ◌^◌, Bool, true, false, cond, not, ◌&&◌, ◌||◌, ltb, List, [], ◌∷◌, map, length, ℤ, pos, negsuc, Ok, Result, ◌==◌, nat_le, nat_lt, slice_index, slice_index_or, unsigned_abs}
use Rattle.laws.specs.Lengths.{product, nonzeros, some_of, some_zero, some_below}
use Rattle.laws.specs.Strides.{row_major, column_major}
use Rattle.laws.specs.Space.{Seen, reach}
use Rattle.laws.specs.Faults.{Fault, in_rows, in_grid, refuse}

-- the most that a size, a reach or a count of bytes may be
abbrev pub most : ℕ
most = 2 ^ 63 - 1

-- the most that a grid's cells, size and strides may be
abbrev pub limit : ℕ
limit = 1048576

-- the reach of a grid, whatever the strides' signs
abbrev pub span : List ℕ → List ℤ → ℕ
span ls zs = reach unsigned_abs ls zs

-- the size of a shape; 6 where the product of its nonzero lengths is above 2^63 − 1
abbrev pub sized : List ℕ → Result ℕ Fault
sized ls = refuse (nat_lt most (nonzeros ls)) (in_rows 6) (Ok (product ls))

-- whether that product, the reach or the reach in bytes is above 2^63 − 1
abbrev pub overflows : ℕ → List ℕ → List ℤ → Bool
overflows size ls zs = nat_lt most (nonzeros ls) || (nat_lt most (span ls zs) || nat_lt most (span ls zs * size))

-- the reach over elements of this size; 2 where the ranks differ, then 6
abbrev pub reached : ℕ → List ℕ → List ℤ → Result ℕ Fault
reached size ls zs =
    refuse (not (length ls == length zs)) (in_rows 2)
    (refuse (overflows size ls zs) (in_rows 6)
    (Ok (span ls zs)))

-- whether some stride is negative
abbrev pub is_negative : ℤ → Bool
is_negative (pos n) = false
is_negative (negsuc n) = true

abbrev pub some_negative : List ℤ → Bool
some_negative zs = some_of is_negative zs

-- 5 where some stride is negative
abbrev pub non_negative : List ℤ → Result (Unit {0}) Fault
non_negative zs = refuse (some_negative zs) (in_rows 5) (Ok tt)

-- whether some stride's magnitude is above m
abbrev pub some_above : ℕ → List ℤ → Bool
some_above m zs = some_of (λ z. ltb m (unsigned_abs z)) zs

-- what an axis of length n and stride z adds to the reach of the axes of magnitude at most m
abbrev pub share : ℕ → ℕ → ℤ → ℕ
share m n z = cond (nat_le (unsigned_abs z) m) ((n - 1) * unsigned_abs z) 0

-- the reach of the axes of magnitude at most m, and the same with axis k left out
abbrev pub span_to : ℕ → List ℕ → List ℤ → ℕ
span_to m [] zs = 0
span_to m (n ∷ ns) [] = 0
span_to m (n ∷ ns) (z ∷ zs) = share m n z + span_to m ns zs

abbrev pub span_others : ℕ → ℕ → List ℕ → List ℤ → ℕ
span_others k m [] zs = 0
span_others k m (n ∷ ns) [] = 0
span_others zero m (n ∷ ns) (z ∷ zs) = span_to m ns zs
span_others (suc k) m (n ∷ ns) (z ∷ zs) = share m n z + span_others k m ns zs

-- whether axis k is longer than 1 and the others of its magnitude or less reach at least that far
abbrev pub crowded : List ℕ → List ℤ → ℕ → Bool
crowded ls zs k =
    nat_lt 1 (slice_index ls k) && nat_le (unsigned_abs (slice_index_or zs k (pos 0))) (span_others k (unsigned_abs (slice_index_or zs k (pos 0))) ls zs)

-- whether overlap is found; a grid without cells has none
abbrev pub overlaps : List ℕ → List ℤ → Bool
overlaps ls zs = not (some_zero ls) && some_below (length ls) (crowded ls zs)

-- whether there are too few cells for these strides; without cells the reach may end where the lent cells end
abbrev pub too_few : ℕ → List ℕ → List ℤ → Bool
too_few cells ls zs = cond (some_zero ls) (nat_lt cells (span ls zs)) (nat_le cells (span ls zs))

-- an opened grid starts at cell 0
abbrev pub fresh : ℕ → List ℕ → List ℤ → Seen
fresh cells ls zs = record { cells = cells; start = pos 0; lens = ls; strides = zs }

-- opening in an order
abbrev pub ordered : ℕ → List ℕ → List ℕ → Result Seen Fault
ordered cells ls ws =
    refuse (nat_lt limit cells) (in_rows 12)
    (refuse (nat_lt most (nonzeros ls)) (in_rows 6)
    (refuse (nat_lt limit (nonzeros ls)) (in_rows 12)
    (refuse (nat_lt cells (product ls)) (in_grid 4)
    (Ok (fresh cells ls (map pos ws))))))

-- opening with a stride row, over elements of this size
abbrev pub strided : ℕ → ℕ → List ℕ → List ℤ → Result Seen Fault
strided cells size ls zs =
    refuse (nat_lt limit cells) (in_rows 12)
    (refuse (not (length ls == length zs)) (in_rows 2)
    (refuse (some_negative zs) (in_rows 5)
    (refuse (overflows size ls zs) (in_rows 6)
    (refuse (nat_lt limit (nonzeros ls)) (in_rows 12)
    (refuse (some_above limit zs) (in_rows 12)
    (refuse (too_few cells ls zs) (in_grid 4)
    (refuse (overlaps ls zs) (in_rows 5)
    (Ok (fresh cells ls zs)))))))))

-- how the strides are given
pub data Given : Type 0 where
  InRowMajor : Given
  InColumnMajor : Given
  ByStrides : List ℤ → Given

-- opening over this many cells of this size, with these lengths
abbrev pub opening : ℕ → ℕ → List ℕ → Given → Result Seen Fault
opening cells size ls InRowMajor = ordered cells ls (row_major ls)
opening cells size ls InColumnMajor = ordered cells ls (column_major ls)
opening cells size ls (ByStrides zs) = strided cells size ls zs
