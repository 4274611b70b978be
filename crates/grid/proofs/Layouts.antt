-- Every layout is sound, and from a sound grid a layout can be made.
use Rattle.std.proofs.Common.{◌≡◌, ℕ, ◌+◌, ◌≤◌, List, length, ℤ, pos, arith}
use Rattle.std.proofs.lemmas.Int.{ints}
use Rattle.laws.specs.Lengths.{nonzeros}
use Rattle.laws.specs.Space.{Sound, Bounds, Distinct, up, down}
use Rattle.dimension.specs.Rows.{listed_owed}
use Rattle.grid.specs.declared.layout.Layout.{Layout}
use Rattle.grid.specs.Layouts.{seen}

pub sound : (l : Layout) → Sound (seen l)
sound l =
    let low = l.low in
    let high = l.high in
    record {
      bounds = l.bounds;
      distinct = l.distinct;
      narrow = l.narrow;
      small = l.small;
      low = omega (arith, ints);
      high = omega (arith, ints);
      paired = l.paired;
      few = (listed_owed l.lens).few;
    }

-- the facts that a layout's type keeps, in their order
abbrev pub Kept : ℕ → ℕ → List ℕ → List ℤ → Type 0
Kept cells start ls zs = record {
  bounds : Bounds cells (pos start) ls zs;
  distinct : Distinct ls zs;
  narrow : cells ≤ 1048576;
  small : nonzeros ls ≤ 1048576;
  low : down ls zs ≤ start;
  high : start + up ls zs ≤ cells;
  paired : length ls ≡ length zs;
}

pub kept : (cells start : ℕ) (ls : List ℕ) (zs : List ℤ) → Sound (record { cells = cells; start = pos start; lens = ls; strides = zs }) → Kept cells start ls zs
kept cells start ls zs s =
    let low = s.low in
    let high = s.high in
    record {
      bounds = s.bounds;
      distinct = s.distinct;
      narrow = s.narrow;
      small = s.small;
      low = omega (arith, ints);
      high = omega (arith, ints);
      paired = s.paired;
    }
