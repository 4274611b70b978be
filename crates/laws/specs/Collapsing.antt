-- Collapsing: one axis is left with one index.
use Rattle.std.specs.Prelude.{ℕ, cond, length, ℤ, pos, ◌+ℤ◌, ◌*ℤ◌, Some, None, Option, Result, nat_lt, slice_index, slice_index_or, slice_set}
use Rattle.laws.specs.Space.{Seen}
use Rattle.laws.specs.Faults.{Fault, InGrid, or_else, unless}

-- the length and the stride of an axis
abbrev pub len_at : Seen → ℕ → ℕ
len_at s axis = slice_index s.lens axis

abbrev pub stride_at : Seen → ℕ → ℤ
stride_at s axis = slice_index_or s.strides axis (pos 0)

-- 14 in the grid, at this axis
abbrev pub outside_axis : ℕ → Fault
outside_axis axis = record { number = 14; layer = InGrid; place = Some axis }

-- where there is no such axis
abbrev pub axis_fault : Seen → ℕ → Option Fault
axis_fault s axis = cond (nat_lt axis (length s.lens)) None (Some (outside_axis axis))

-- first the axis, then the index, which lies below the axis's length
abbrev pub collapse_fault : ℕ → ℕ → Seen → Option Fault
collapse_fault axis index s = or_else (axis_fault s axis) (cond (nat_lt index (len_at s axis)) None (Some (outside_axis axis)))

-- of the axis length 1 is left, with its stride, and the start goes that many strides on as the index says
abbrev pub collapsed : ℕ → ℕ → Seen → Seen
collapsed axis index s = record {
  cells = s.cells;
  start = s.start +ℤ pos index *ℤ stride_at s axis;
  lens = slice_set s.lens axis 1;
  strides = s.strides;
}

-- what collapsing answers
abbrev pub collapsing : ℕ → ℕ → Seen → Result Seen Fault
collapsing axis index s = unless (collapse_fault axis index s) (collapsed axis index s)
