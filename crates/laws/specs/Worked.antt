-- The rules worked through on small grids.
use Rattle.std.specs.Prelude.{◌≡◌, ℕ, ◌^◌, true, [], ◌∷◌, ℤ, pos, neg_ℤ, Some, None, Ok, Err, Result}
use Rattle.laws.specs.Strides.{row_major, column_major}
use Rattle.laws.specs.Space.{Seen}
use Rattle.laws.specs.Faults.{Fault, in_rows, in_selection, in_grid}
use Rattle.laws.specs.Opening.{sized, fresh, opening, InRowMajor, ByStrides}
use Rattle.laws.specs.Elements.{Elem, Slice}
use Rattle.laws.specs.Slicing.{slicing}
use Rattle.laws.specs.Reshaping.{RowMajor, ColumnMajor, restrided}
use Rattle.laws.specs.Calls.{Merging, Done, No, answer, after}
use Rattle.laws.specs.Meeting.{picks, meeting}

-- six cells as two rows of three
abbrev rows : Seen
rows = fresh 6 (2 ∷ 3 ∷ []) (pos 3 ∷ pos 1 ∷ [])

-- what a range makes of ten cells in a row, and that it leaves this length and stride from this start
abbrev cut : Elem → Result Seen Fault
cut range = slicing (range ∷ []) (fresh 10 (10 ∷ []) (pos 1 ∷ []))

abbrev Leaves : Elem → ℕ → ℤ → ℤ → Type 0
Leaves range length stride start = cut range ≡ Ok (record { cells = 10; start = start; lens = length ∷ []; strides = stride ∷ [] })

-- two ranges of such a row that meet at 9
abbrev thirds : Elem
thirds = Slice (pos 0) (Some (pos 10)) (neg_ℤ (pos 3))

abbrev fourths : Elem
fourths = Slice (pos 1) (Some (pos 10)) (pos 4)

pub record Worked : Type 0 where
  -- sizes: 0 where a length is 0, but the other lengths may still be too large
  pub size_none : sized (2 ∷ 0 ∷ 3 ∷ []) ≡ Ok 0
  pub size_large : sized (2 ^ 40 ∷ 2 ^ 40 ∷ 0 ∷ []) ≡ Err (in_rows 6)
  -- strides of the two orders
  pub row_strides : row_major (2 ∷ 3 ∷ 4 ∷ []) ≡ 12 ∷ 4 ∷ 1 ∷ []
  pub column_strides : column_major (2 ∷ 3 ∷ 4 ∷ []) ≡ 1 ∷ 2 ∷ 6 ∷ []
  -- opening: overlap, too few cells, and just enough
  pub open_overlap : opening 8 8 (2 ∷ 3 ∷ []) (ByStrides (pos 3 ∷ pos 2 ∷ [])) ≡ Err (in_rows 5)
  pub open_few : opening 5 8 (2 ∷ 3 ∷ []) InRowMajor ≡ Err (in_grid 4)
  pub open_enough : opening 6 8 (2 ∷ 3 ∷ []) InRowMajor ≡ Ok rows
  -- slicing: backward, nothing, one index alone, and places at and past either end
  pub slice_back : Leaves thirds 4 (neg_ℤ (pos 3)) (pos 9)
  pub slice_none : Leaves (Slice (pos 4) (Some (pos 4)) (neg_ℤ (pos 1))) 0 (pos 0) (pos 0)
  pub slice_one : Leaves (Slice (pos 3) (Some (pos 4)) (pos 5)) 1 (pos 0) (pos 3)
  pub end_first : Leaves (Slice (pos 0) (Some (neg_ℤ (pos 10))) (pos 1)) 0 (pos 0) (pos 0)
  pub end_before : cut (Slice (pos 0) (Some (neg_ℤ (pos 11))) (pos 1)) ≡ Err (in_selection 14 (Some 0))
  pub start_last : Leaves (Slice (pos 10) None (pos 1)) 0 (pos 0) (pos 0)
  pub start_past : cut (Slice (pos 11) None (pos 1)) ≡ Err (in_selection 14 (Some 0))
  -- meeting
  pub meet : meeting (thirds ∷ []) (fourths ∷ []) (10 ∷ []) ≡ true
  pub meet_thirds : picks 10 thirds 9 ≡ true
  pub meet_fourths : picks 10 fourths 9 ≡ true
  -- reshaping: one group, lengths 1 between groups and within one, and axes that are not in step
  pub reshape_rows : restrided RowMajor (2 ∷ 3 ∷ []) (pos 3 ∷ pos 1 ∷ []) (3 ∷ 2 ∷ []) ≡ Ok (pos 2 ∷ pos 1 ∷ [])
  pub reshape_ones : restrided RowMajor (2 ∷ 1 ∷ 3 ∷ 1 ∷ 1 ∷ []) (pos 3 ∷ pos 9 ∷ pos 1 ∷ pos 8 ∷ pos 7 ∷ []) (2 ∷ 1 ∷ 1 ∷ 3 ∷ 1 ∷ [])
      ≡ Ok (pos 3 ∷ pos 9 ∷ pos 1 ∷ pos 1 ∷ pos 8 ∷ [])
  pub reshape_column : restrided ColumnMajor (1 ∷ 10 ∷ []) (pos 7 ∷ pos 1 ∷ []) (1 ∷ 5 ∷ 1 ∷ 1 ∷ 2 ∷ []) ≡ Ok (pos 7 ∷ pos 1 ∷ pos 5 ∷ pos 5 ∷ pos 5 ∷ [])
  pub reshape_refused : restrided RowMajor (2 ∷ 3 ∷ []) (pos 4 ∷ pos 1 ∷ []) (6 ∷ []) ≡ Err (in_rows 2)
  -- merging: the slower axis into the faster, but not the other way
  pub merge_yes : answer (Merging 0 1) rows ≡ Done
  pub merge_lens : (after (Merging 0 1) rows).lens ≡ 1 ∷ 6 ∷ []
  pub merge_no : answer (Merging 1 0) rows ≡ No
