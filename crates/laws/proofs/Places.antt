-- One place of a row written: what that makes of tuples, of the sum of index × stride, of the reach and of the size.
use Rattle.std.proofs.Common.{◌≡◌, ℕ, zero, suc, ◌+◌, ◌-◌, ◌*◌, ◌<◌, List, [], ◌∷◌, length, get_or, set, ℤ, pos, ◌+ℤ◌, ◌*ℤ◌, sym, ap, ◌∙◌, mul_assoc, arith}
use Rattle.std.proofs.lemmas.Int.{ints}
use Rattle.laws.specs.Lengths.{nonzero, nonzeros}
use Rattle.laws.specs.Tuples.{Within}
use Rattle.laws.specs.Space.{offset, reach}

-- a tuple within lengths of which one was written, with its index there written in turn
pub within_unset : (ix ls : List ℕ) (j n k : ℕ) → Within ix (set ls j n) → k < get_or ls j 0 → Within (set ix j k) ls
within_unset ix [] j n k w h = absurd (omega arith)
within_unset [] (m ∷ ls) zero n k w h = absurd w
within_unset [] (m ∷ ls) (suc j) n k w h = absurd w
within_unset (i ∷ ix) (m ∷ ls) zero n k w h = (h, w.1)
within_unset (i ∷ ix) (m ∷ ls) (suc j) n k w h = (w.0, within_unset ix ls j n k w.1 h)

swap : (a b x y z : ℤ) → x +ℤ y ≡ z +ℤ b → (a +ℤ x) +ℤ y ≡ (a +ℤ z) +ℤ b
swap a b x y z e = omega (arith, ints)

turn : (a b c : ℤ) → (a +ℤ b) +ℤ c ≡ (c +ℤ b) +ℤ a
turn a b c = omega (arith, ints)

pub offset-index : (ix : List ℕ) (zs : List ℤ) (j k : ℕ) → j < length ix → length ix ≡ length zs
    → offset (set ix j k) zs +ℤ pos (get_or ix j 0) *ℤ get_or zs j (pos 0) ≡ offset ix zs +ℤ pos k *ℤ get_or zs j (pos 0)
offset-index [] zs j k h l = absurd (omega arith)
offset-index (i ∷ ix) [] j k h l = absurd (omega arith)
offset-index (i ∷ ix) (z ∷ zs) zero k h l = turn (pos k *ℤ z) (offset ix zs) (pos i *ℤ z)
offset-index (i ∷ ix) (z ∷ zs) (suc j) k h l = swap (pos i *ℤ z) _ _ _ _ (offset-index ix zs j k (omega arith) (omega arith))

pub offset_stride : (ix : List ℕ) (zs : List ℤ) (j : ℕ) (y : ℤ) → j < length ix → length ix ≡ length zs
    → offset ix (set zs j y) +ℤ pos (get_or ix j 0) *ℤ get_or zs j (pos 0) ≡ offset ix zs +ℤ pos (get_or ix j 0) *ℤ y
offset_stride [] zs j y h l = absurd (omega arith)
offset_stride (i ∷ ix) [] j y h l = absurd (omega arith)
offset_stride (i ∷ ix) (z ∷ zs) zero y h l = turn (pos i *ℤ y) (offset ix zs) (pos i *ℤ z)
offset_stride (i ∷ ix) (z ∷ zs) (suc j) y h l = swap (pos i *ℤ z) _ _ _ _ (offset_stride ix zs j y (omega arith) (omega arith))

module _ (f : ℤ → ℕ) where
  pub reach-length : (ls : List ℕ) (zs : List ℤ) (j n : ℕ) → j < length ls → length ls ≡ length zs
      → reach f (set ls j n) zs + (get_or ls j 0 - 1) * f (get_or zs j (pos 0)) ≡ reach f ls zs + (n - 1) * f (get_or zs j (pos 0))
  reach-length [] zs j n h l = absurd (omega arith)
  reach-length (m ∷ ls) [] j n h l = absurd (omega arith)
  reach-length (m ∷ ls) (z ∷ zs) zero n h l = omega arith
  reach-length (m ∷ ls) (z ∷ zs) (suc j) n h l = omega (arith, reach-length ls zs j n (omega arith) (omega arith))

  pub reach_stride : (ls : List ℕ) (zs : List ℤ) (j : ℕ) (y : ℤ) → j < length ls → length ls ≡ length zs
      → reach f ls (set zs j y) + (get_or ls j 0 - 1) * f (get_or zs j (pos 0)) ≡ reach f ls zs + (get_or ls j 0 - 1) * f y
  reach_stride [] zs j y h l = absurd (omega arith)
  reach_stride (m ∷ ls) [] j y h l = absurd (omega arith)
  reach_stride (m ∷ ls) (z ∷ zs) zero y h l = omega arith
  reach_stride (m ∷ ls) (z ∷ zs) (suc j) y h l = omega (arith, reach_stride ls zs j y (omega arith) (omega arith))

pub nonzeros-set : (ls : List ℕ) (j n : ℕ) → j < length ls → nonzeros (set ls j n) * nonzero (get_or ls j 0) ≡ nonzeros ls * nonzero n
nonzeros-set [] j n h = absurd (omega arith)
nonzeros-set (m ∷ ls) zero n h = swapped (nonzero n) (nonzero m) (nonzeros ls)
  where
    swapped : (a b c : ℕ) → a * c * b ≡ b * c * a
    swapped a b c = omega arith
nonzeros-set (m ∷ ls) (suc j) n h =
    mul_assoc (nonzero m) (nonzeros (set ls j n)) (nonzero (get_or ls j 0))
    ∙ ap (λ k. nonzero m * k) (nonzeros-set ls j n (omega arith))
    ∙ sym (mul_assoc (nonzero m) (nonzeros ls) (nonzero n))
