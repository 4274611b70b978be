-- No tuple lies past the reach, and where no length is 0 some tuple lies at each end of it.
use Rattle.std.proofs.Common.{◌≡◌, ℕ, ◌+◌, ◌-◌, ◌*◌, ◌<◌, List, [], ◌∷◌, length, ℤ, pos, negsuc, ◌+ℤ◌, ◌*ℤ◌, neg_ℤ, ◌≤ℤ◌, refl, ◌∙◌, ap₂, mul-zero, arith}
use Rattle.std.proofs.lemmas.Int.{ints}
use Rattle.laws.specs.Tuples.{Within}
use Rattle.laws.specs.Space.{offset, plus, minus, up, down}
use Rattle.laws.specs.Reshaping.{Positive}
use Rattle.laws.proofs.Axes.{index-high, index-low}

-- ---- no tuple lies past it

sum-high : (x y : ℤ) (a b : ℕ) → x ≤ℤ pos a → y ≤ℤ pos b → (x +ℤ y) ≤ℤ pos (a + b)
sum-high x y a b h k = omega (arith, ints)

sum_low : (x y : ℤ) (a b : ℕ) → pos 0 ≤ℤ (x +ℤ pos a) → pos 0 ≤ℤ (y +ℤ pos b) → pos 0 ≤ℤ ((x +ℤ y) +ℤ pos (a + b))
sum_low x y a b h k = omega (arith, ints)

pub offset-high : (ix ls : List ℕ) (zs : List ℤ) → Within ix ls → offset ix zs ≤ℤ pos (up ls zs)
offset-high [] [] zs w = omega (arith, ints)
offset-high (i ∷ ix) [] zs w = absurd w
offset-high [] (l ∷ ls) zs w = absurd w
offset-high (i ∷ ix) (l ∷ ls) [] w = omega (arith, ints)
offset-high (i ∷ ix) (l ∷ ls) (z ∷ zs) w = sum-high (pos i *ℤ z) (offset ix zs) ((l - 1) * plus z) (up ls zs) (index-high i l z w.0) (offset-high ix ls zs w.1)

pub offset-low : (ix ls : List ℕ) (zs : List ℤ) → Within ix ls → pos 0 ≤ℤ (offset ix zs +ℤ pos (down ls zs))
offset-low [] [] zs w = omega (arith, ints)
offset-low (i ∷ ix) [] zs w = absurd w
offset-low [] (l ∷ ls) zs w = absurd w
offset-low (i ∷ ix) (l ∷ ls) [] w = omega (arith, ints)
offset-low (i ∷ ix) (l ∷ ls) (z ∷ zs) w = sum_low (pos i *ℤ z) (offset ix zs) ((l - 1) * minus z) (down ls zs) (index-low i l z w.0) (offset-low ix ls zs w.1)

-- ---- and some tuple lies at each end

axis_top : (l : ℕ) (z : ℤ) → 0 < l → (i : ℕ) × (i < l) × (pos i *ℤ z ≡ pos ((l - 1) * plus z))
axis_top l (pos k) h = (l - 1, omega arith, refl)
axis_top l (negsuc k) h = (0, h, omega (arith, ints, mul-zero (l - 1)))

axis_bottom : (l : ℕ) (z : ℤ) → 0 < l → (i : ℕ) × (i < l) × (pos i *ℤ z ≡ neg_ℤ (pos ((l - 1) * minus z)))
axis_bottom l (pos k) h = (0, h, omega (arith, ints, mul-zero (l - 1)))
axis_bottom l (negsuc k) h = (l - 1, omega arith, refl)

pub top : (ls : List ℕ) (zs : List ℤ) → Positive ls → length zs ≡ length ls → (ix : List ℕ) × Within ix ls × (offset ix zs ≡ pos (up ls zs))
top [] zs p e = ([], tt, refl)
top (l ∷ ls) [] p e = absurd (omega arith)
top (l ∷ ls) (z ∷ zs) p e =
    let r = top ls zs p.1 (omega arith) in
    let a = axis_top l z p.0 in
    (a.0 ∷ r.0, (a.1, r.1), ap₂ ◌+ℤ◌ a.2 r.2)

pub bottom : (ls : List ℕ) (zs : List ℤ) → Positive ls → length zs ≡ length ls → (ix : List ℕ) × Within ix ls × (offset ix zs ≡ neg_ℤ (pos (down ls zs)))
bottom [] zs p e = ([], tt, refl)
bottom (l ∷ ls) [] p e = absurd (omega arith)
bottom (l ∷ ls) (z ∷ zs) p e =
    let r = bottom ls zs p.1 (omega arith) in
    let a = axis_bottom l z p.0 in
    (a.0 ∷ r.0, (a.1, r.1), ap₂ ◌+ℤ◌ a.2 r.2 ∙ sum ((l - 1) * minus z) (down ls zs))
  where
    sum : (a b : ℕ) → neg_ℤ (pos a) +ℤ neg_ℤ (pos b) ≡ neg_ℤ (pos (a + b))
    sum a b = omega (arith, ints)
