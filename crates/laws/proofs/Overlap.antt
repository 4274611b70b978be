-- What the overlap rule accepts shares no cell.
use Rattle.std.proofs.Common.{◌≡◌, ℕ, zero, suc, ◌+◌, ◌-◌, ◌*◌, ◌<◌, ◌≤◌, false, leb, ◌≢◌, ◌⊎◌, List, [], ◌∷◌, map, length, get_or, pos, sym, refl, ap, ap₂, inl, inr, mul-le-mul_right, arith}
use native.Mathlib.Decide.{ℕ_discrete, dec_lt}
use lib.ListN.{get_or-map}
use Rattle.std.proofs.lemmas.Bool.{lt-ltb, leb-false}
use Rattle.laws.specs.Lengths.{some_zero}
use Rattle.laws.specs.Tuples.{Within}
use Rattle.laws.specs.Space.{offset, Distinct}
use Rattle.laws.specs.Opening.{share, span_to, span_others, crowded, overlaps}
use Rattle.laws.proofs.Zeros.{below_none, within-no-zero}

-- ---- strides that are not negative

-- the sum of index × stride
abbrev pub dot : List ℕ → List ℕ → ℕ
dot [] ws = 0
dot (i ∷ ix) [] = 0
dot (i ∷ ix) (w ∷ ws) = i * w + dot ix ws

pub offset_dot : (ix ws : List ℕ) → offset ix (map pos ws) ≡ pos (dot ix ws)
offset_dot [] ws = refl
offset_dot (i ∷ ix) [] = refl
offset_dot (i ∷ ix) (w ∷ ws) = rw (offset_dot ix ws)

-- where different tuples have different sums, they have different cells
pub dot_distinct : (ls ws : List ℕ) → ((ix jx : List ℕ) → Within ix ls → Within jx ls → dot ix ws ≡ dot jx ws → ix ≡ jx) → Distinct ls (map pos ws)
dot_distinct ls ws same t =
    let e : dot t.one ws ≡ dot t.other ws = cc (offset_dot t.one ws, offset_dot t.other ws) in
    same t.one t.other t.one_within t.other_within e

-- ---- two tuples within the lengths, side by side

data Rows : List ℕ → List ℕ → List ℕ → List ℕ → Type 0 where
  none : Rows [] [] [] []
  more : {ls ws ix jx : List ℕ} (n w i j : ℕ) → i < n → j < n → Rows ls ws ix jx → Rows (n ∷ ls) (w ∷ ws) (i ∷ ix) (j ∷ jx)

rows : (ls ws ix jx : List ℕ) → length ls ≡ length ws → Within ix ls → Within jx ls → Rows ls ws ix jx
rows [] [] [] [] e v w = none
rows [] [] [] (j ∷ jx) e v w = absurd w
rows [] [] (i ∷ ix) jx e v w = absurd v
rows [] (z ∷ ws) ix jx e v w = absurd (omega arith)
rows (n ∷ ls) [] ix jx e v w = absurd (omega arith)
rows (n ∷ ls) (z ∷ ws) [] jx e v w = absurd v
rows (n ∷ ls) (z ∷ ws) (i ∷ ix) [] e v w = absurd w
rows (n ∷ ls) (z ∷ ws) (i ∷ ix) (j ∷ jx) e v w = more n z i j v.0 w.0 (rows ls ws ix jx (omega arith) v.1 w.1)

flip : {ls ws ix jx : List ℕ} → Rows ls ws ix jx → Rows ls ws jx ix
flip none = none
flip (more n w i j p q r) = more n w j i q p (flip r)

-- an axis on which they differ is longer than 1
long : {ls ws ix jx : List ℕ} → Rows ls ws ix jx → (k : ℕ) → get_or ix k 0 ≢ get_or jx k 0 → 1 < get_or ls k 0
long none k d = absurd (d refl)
long (more n w i j p q r) zero d = omega arith
long (more n w i j p q r) (suc k) d = long r k d

-- the axes on which they differ have strides of at most m
abbrev Low : ℕ → List ℕ → List ℕ → List ℕ → Type 0
Low m ws ix jx = (k : ℕ) → get_or ix k 0 ≢ get_or jx k 0 → get_or ws k 0 ≤ m

axis : (m n w i j : ℕ) → j < n → (i ≢ j → w ≤ m) → j * w ≤ i * w + share m n (pos w)
axis m n w i j h low = go (ℕ_discrete i j)
  where
    go : Dec (i ≡ j) → j * w ≤ i * w + share m n (pos w)
    go (yes e) = grind (arith, ap (λ (k : ℕ). k * w) e)
    go (no d) = let p : w ≤ m = low d in let q : j * w ≤ (n - 1) * w = mul-le-mul_right w (omega arith) in grind arith

bound : {ls ws ix jx : List ℕ} (m : ℕ) → Rows ls ws ix jx → Low m ws ix jx → dot jx ws ≤ dot ix ws + span_to m ls (map pos ws)
bound m none low = omega arith
bound m (more n w i j p q r) low = omega (arith, axis m n w i j q (low 0), bound m r (λ k. low (suc k)))

-- the greater index on axis k outweighs all other axes
exceeds : {ls ws ix jx : List ℕ} (m k : ℕ) → Rows ls ws ix jx → Low m ws ix jx → k < length ls → get_or jx k 0 < get_or ix k 0
    → dot jx ws + get_or ws k 0 ≤ dot ix ws + span_others k m ls (map pos ws)
exceeds m k none low h lt = absurd (omega arith)
exceeds m zero (more n w i j p q r) low h lt = omega (arith, mul-le-mul_right w lt, bound m r (λ k. low (suc k)))
exceeds m (suc k) (more n w i j p q r) low h lt =
    omega (arith, axis m n w i j q (low 0), exceeds m k r (λ k. low (suc k)) (omega arith) lt)

-- where they differ, there is a place of greatest stride
Greatest : List ℕ → List ℕ → List ℕ → List ℕ → Type 0
Greatest ls ws ix jx = (k : ℕ) × (k < length ls) × (get_or ix k 0 ≢ get_or jx k 0) × Low (get_or ws k 0) ws ix jx

greatest : {ls ws ix jx : List ℕ} → Rows ls ws ix jx → (ix ≡ jx) ⊎ Greatest ls ws ix jx
unfolding Greatest
greatest none = inl refl
greatest (more {ls = ls} {ws = ws} {ix = ix} {jx = jx} n w i j p q r) = go (ℕ_discrete i j) (greatest r)
  where
    Goal : Type 0
    Goal = ((i ∷ ix) ≡ (j ∷ jx)) ⊎ Greatest (n ∷ ls) (w ∷ ws) (i ∷ ix) (j ∷ jx)

    under : (m : ℕ) → (i ≢ j → w ≤ m) → Low m ws ix jx → Low m (w ∷ ws) (i ∷ ix) (j ∷ jx)
    under m here low zero d = here d
    under m here low (suc k) d = low k d

    same : ix ≡ jx → Low w ws ix jx
    same e k d = absurd (d (ap (λ (t : List ℕ). get_or t k 0) e))

    go : Dec (i ≡ j) → (ix ≡ jx) ⊎ Greatest ls ws ix jx → Goal
    go (yes e) (inl f) = inl (ap₂ ◌∷◌ e f)
    go (yes e) (inr g) = inr (suc g.0, omega (arith, g.1), g.2, under (get_or ws g.0 0) (λ d. absurd (d e)) g.3)
    go (no d) (inl f) = inr (zero, omega arith, d, under w (λ _. omega arith) (same f))
    go (no d) (inr g) = at (dec_lt w (get_or ws g.0 0))
      where
        at : Dec (w < get_or ws g.0 0) → Goal
        at (yes h) = inr (suc g.0, omega (arith, g.1), g.2, under (get_or ws g.0 0) (λ _. omega arith) g.3)
        at (no h) = inr (zero, omega arith, d, under w (λ _. omega arith) (λ k c. omega (arith, g.3 k c)))

-- ---- the rule

-- the stride of each axis longer than 1 is above the reach of the other axes of no greater stride
apart : (ls ws : List ℕ) → some_zero ls ≡ false → overlaps ls (map pos ws) ≡ false → (k : ℕ) → k < length ls → 1 < get_or ls k 0
    → span_others k (get_or ws k 0) ls (map pos ws) < get_or ws k 0
apart ls ws some e k h l =
    let free = below_none (length ls) (crowded ls (map pos ws)) (rw some at e) k h in
    let off : leb (get_or ws k 0) (span_others k (get_or ws k 0) ls (map pos ws)) ≡ false = rw (lt-ltb 1 (get_or ls k 0) l, get_or-map pos ws k 0) at free in
    leb-false (get_or ws k 0) (span_others k (get_or ws k 0) ls (map pos ws)) off

-- where no overlap is found, different tuples have different cells
pub no_overlap : (ls ws : List ℕ) → length ls ≡ length ws → overlaps ls (map pos ws) ≡ false → Distinct ls (map pos ws)
unfolding Greatest
no_overlap ls ws paired e = dot_distinct ls ws same
  where
    same : (ix jx : List ℕ) → Within ix ls → Within jx ls → dot ix ws ≡ dot jx ws → ix ≡ jx
    same ix jx v w meet = go (greatest r)
      where
        r : Rows ls ws ix jx
        r = rows ls ws ix jx paired v w

        go : (ix ≡ jx) ⊎ Greatest ls ws ix jx → ix ≡ jx
        go (inl f) = f
        go (inr (k, h, d, low)) = absurd (at (dec_lt (get_or ix k 0) (get_or jx k 0)))
          where
            free : span_others k (get_or ws k 0) ls (map pos ws) < get_or ws k 0
            free = apart ls ws (within-no-zero ix ls v) e k h (long r k d)

            at : Dec (get_or ix k 0 < get_or jx k 0) → ⊥
            at (yes lt) = omega (arith, free, exceeds (get_or ws k 0) k (flip r) (λ k c. low k (λ s. c (sym s))) h lt)
            at (no ge) = omega (arith, free, exceeds (get_or ws k 0) k r low h (omega arith))
