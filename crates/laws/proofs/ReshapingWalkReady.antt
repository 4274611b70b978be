-- What the walk of reshaping needs, where neither the reach nor what the nonzero lengths multiply to passes the limit, as in every grid.
use Rattle.std.proofs.Common.{◌≡◌, ℕ, zero, suc, ◌+◌, ◌-◌, ◌*◌, ◌<◌, ◌≤◌, List, [], ◌∷◌, length, ℤ, pos, negsuc, ◌+ℤ◌, ◌≤ℤ◌, sym, mul-zero, arith}
use Rattle.std.proofs.lemmas.Int.{ints}
use Rattle.laws.specs.Lengths.{product, nonzeros}
use Rattle.laws.specs.Space.{Seen, Sound, up, down}
use Rattle.laws.specs.Opening.{span}
use Rattle.laws.specs.Reshaping.{Positive, Near, Ready}
use Rattle.laws.proofs.Lengths.{product_below}

pub span-near : (ls : List ℕ) (zs : List ℤ) → length ls ≡ length zs → span ls zs ≤ 1048576 → Near ls zs
span-near [] [] e h = tt
span-near [] (z ∷ zs) e h = absurd (omega arith)
span-near (l ∷ ls) [] e h = absurd (omega arith)
span-near (l ∷ ls) (z ∷ zs) e h = (omega arith, span-near ls zs (omega arith) (omega arith))

pub product-positive : (ls : List ℕ) → 0 < product ls → Positive ls
product-positive [] h = tt
product-positive (zero ∷ ls) h = absurd (omega arith)
product-positive (suc l ∷ ls) h = (omega arith, product-positive ls (rest (product ls) h))
  where
    rest : (n : ℕ) → 0 < suc l * n → 0 < n
    rest zero p = absurd (omega (arith, mul-zero (suc l)))
    rest (suc n) p = omega arith

pub all-ready : (ls : List ℕ) (zs : List ℤ) (ms : List ℕ) → length ls ≡ length zs → nonzeros ls ≤ 1048576 → span ls zs ≤ 1048576 → product ms ≡ product ls → 0 < product ms → Ready ls zs ms
all-ready ls zs ms even small far same some = record {
  olds = product-positive ls (omega arith);
  news = product-positive ms some;
  near = span-near ls zs even far;
  same = sym same;
  small = omega (arith, product_below ls);
}

-- the reach is its part upwards and its part downwards
span_parts : (ls : List ℕ) (zs : List ℤ) → span ls zs ≡ up ls zs + down ls zs
span_parts [] zs = omega arith
span_parts (l ∷ ls) [] = omega arith
span_parts (l ∷ ls) (pos n ∷ zs) = omega (arith, span_parts ls zs, mul-zero (l - 1))
span_parts (l ∷ ls) (negsuc n ∷ zs) = omega (arith, span_parts ls zs, mul-zero (l - 1))

pub sound_span : (s : Seen) → Sound s → span s.lens s.strides ≤ 1048576
sound_span s h = go s.start s.cells (up s.lens s.strides) (down s.lens s.strides) (span s.lens s.strides) h.low h.high h.narrow (span_parts s.lens s.strides)
  where
    go : (z : ℤ) (n u d far : ℕ) → pos d ≤ℤ z → (z +ℤ pos u) ≤ℤ pos n → n ≤ 1048576 → far ≡ u + d → far ≤ 1048576
    go z n u d far low high narrow e = omega (arith, ints)
