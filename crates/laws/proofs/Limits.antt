-- What keeps the numbers of a sound grid small.
use Rattle.std.proofs.Common.{ℕ, zero, suc, ◌-◌, ◌*◌, ◌^◌, ◌<◌, ◌≤◌, T, List, [], ◌∷◌, get_or, ℤ, pos, negsuc, ◌+ℤ◌, nat_abs, ◌≤ℤ◌, mul-le-mul_right, mul-le-mul, one-mul, mul-one, arith}
use Rattle.std.proofs.lemmas.Int.{ints}
use Rattle.laws.specs.Lengths.{nonzeros}
use Rattle.laws.specs.Space.{Seen, Sound, inside, plus, minus, up, down}
use Rattle.laws.specs.Collapsing.{len_at, stride_at}
use Rattle.laws.proofs.Lengths.{nonzero-pos, nonzero_above, nonzeros-pos}
use Rattle.laws.proofs.Reach.{reach_at}
use Rattle.laws.proofs.Words.{pos-inside}

-- a start between the two parts of the reach is a word
pub start-inside : (z : ℤ) (n d u : ℕ) → pos d ≤ℤ z → (z +ℤ pos u) ≤ℤ pos n → n ≤ 1048576 → T (inside (2 ^ 64) z)
start-inside (pos m) n d u p q r = pos-inside (2 ^ 64) m (omega (arith, ints))
start-inside (negsuc m) n d u p q r = absurd (omega (arith, ints))

length_below : (ls : List ℕ) (j : ℕ) → get_or ls j 0 ≤ nonzeros ls
length_below [] j = omega arith
length_below (n ∷ ls) zero = omega (arith, mul-one n, mul-le-mul {n₁ = n} {m₁ = 1} (nonzero_above n) (nonzeros-pos ls))
length_below (n ∷ ls) (suc j) = omega (arith, one-mul (nonzeros ls), mul-le-mul_right {m = 1} (nonzeros ls) (nonzero-pos n), length_below ls j)

pub length-small : (s : Seen) (axis : ℕ) → Sound s → len_at s axis ≤ 1048576
length-small s axis h = omega (arith, length_below s.lens axis, h.small)

-- the strides that have no limit are those of axes no longer than 1
pub stride_small : (s : Seen) (axis : ℕ) → Sound s → 1 < len_at s axis → nat_abs (stride_at s axis) ≤ 1048576
stride_small s axis h long =
    go (stride_at s axis) (len_at s axis - 1) (up s.lens s.strides) (down s.lens s.strides) s.start s.cells (omega arith)
    (reach_at plus s.lens s.strides axis h.paired) (reach_at minus s.lens s.strides axis h.paired) h.low h.high h.narrow
  where
    go : (z : ℤ) (k u d : ℕ) (start : ℤ) (cells : ℕ) → 1 ≤ k → k * plus z ≤ u → k * minus z ≤ d → pos d ≤ℤ start → (start +ℤ pos u) ≤ℤ pos cells → cells ≤ 1048576 → nat_abs z ≤ 1048576
    go (pos n) k u d start cells one p q low high narrow = omega (arith, ints, one-mul n, mul-le-mul_right {m = 1} n one)
    go (negsuc n) k u d start cells one p q low high narrow = omega (arith, ints, one-mul (suc n), mul-le-mul_right {m = 1} (suc n) one)
