-- The rules give what was worked through by hand.
use Rattle.std.proofs.Common.{refl}
use Rattle.laws.specs.Reshaping.{closing, walk, regrouped}
use Rattle.laws.specs.Worked.{Worked}

pub worked : Worked
unfolding closing walk regrouped
worked = record {
  size_none = refl;
  size_large = refl;
  row_strides = refl;
  column_strides = refl;
  open_overlap = refl;
  open_few = refl;
  open_enough = refl;
  slice_back = refl;
  slice_none = refl;
  slice_one = refl;
  end_first = refl;
  end_before = refl;
  start_last = refl;
  start_past = refl;
  meet = refl;
  meet_thirds = refl;
  meet_fourths = refl;
  reshape_rows = refl;
  reshape_ones = refl;
  reshape_column = refl;
  reshape_refused = refl;
  merge_yes = refl;
  merge_lens = refl;
  merge_no = refl;
}
