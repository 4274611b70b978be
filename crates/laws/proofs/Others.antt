-- The reach of those other axes whose magnitude is not greater, as a loop over all axes adds it up.
use Rattle.std.proofs.Common.{◌≡◌, ℕ, zero, suc, ◌+◌, ◌-◌, ◌*◌, ◌<◌, ◌≤◌, Bool, true, false, cond, eqb, leb, List, [], ◌∷◌, ℤ, nat_abs, refl, ap, ◌∙◌, arith}
use Rattle.std.proofs.lemmas.Bool.{eq-eqb, ne_eqb}
use Rattle.laws.specs.Opening.{span, share, span_to, span_others}

-- what axis j adds where axis k is left out
abbrev pub part : ℕ → ℕ → ℕ → ℕ → ℤ → ℕ
part j k m n z = cond (eqb j k) 0 (share m n z)

-- what the axes from j on add
abbrev pub parts_from : ℕ → ℕ → ℕ → List ℕ → List ℤ → ℕ
parts_from j k m [] zs = 0
parts_from j k m (n ∷ ns) [] = 0
parts_from j k m (n ∷ ns) (z ∷ zs) = part j k m n z + parts_from (suc j) k m ns zs

parts_past : (j k m : ℕ) (ls : List ℕ) (zs : List ℤ) → k < j → parts_from j k m ls zs ≡ span_to m ls zs
parts_past j k m [] zs h = refl
parts_past j k m (n ∷ ls) [] h = refl
parts_past j k m (n ∷ ls) (z ∷ zs) h =
    let other : eqb j k ≡ false = ne_eqb j k (λ e. omega arith) in
    rw (other, parts_past (suc j) k m ls zs (omega arith))

pub parts_are : (j k m : ℕ) (ls : List ℕ) (zs : List ℤ) → parts_from j (j + k) m ls zs ≡ span_others k m ls zs
parts_are j k m [] zs = refl
parts_are j k m (n ∷ ls) [] = refl
parts_are j zero m (n ∷ ls) (z ∷ zs) =
    let same : eqb j (j + 0) ≡ true = eq-eqb j (j + 0) (omega arith) in
    rw (same, parts_past (suc j) (j + 0) m ls zs (omega arith)) (omega arith)
parts_are j (suc k) m (n ∷ ls) (z ∷ zs) =
    let other : eqb j (j + suc k) ≡ false = ne_eqb j (j + suc k) (λ e. omega arith) in
    let on : j + suc k ≡ suc j + k = omega arith in
    rw other (ap (λ r. share m n z + r) (ap (λ i. parts_from (suc j) i m ls zs) on ∙ parts_are (suc j) k m ls zs))

-- an axis that is left out or too great adds nothing, and so no more than the whole reach is added up
share_below : (m n : ℕ) (z : ℤ) (b : Bool) → cond b ((n - 1) * nat_abs z) 0 ≤ (n - 1) * nat_abs z
share_below m n z true = omega arith
share_below m n z false = omega arith

part_below : (j k m n : ℕ) (z : ℤ) (b : Bool) → cond b 0 (share m n z) ≤ (n - 1) * nat_abs z
part_below j k m n z true = omega arith
part_below j k m n z false = share_below m n z (leb (nat_abs z) m)

parts_below : (j k m : ℕ) (ls : List ℕ) (zs : List ℤ) → parts_from j k m ls zs ≤ span ls zs
parts_below j k m [] zs = omega arith
parts_below j k m (n ∷ ls) [] = omega arith
parts_below j k m (n ∷ ls) (z ∷ zs) = omega (arith, part_below j k m n z (eqb j k), parts_below (suc j) k m ls zs)

pub others_below : (k m : ℕ) (ls : List ℕ) (zs : List ℤ) → span_others k m ls zs ≤ span ls zs
others_below k m ls zs = omega (arith, parts_below 0 (0 + k) m ls zs, parts_are 0 k m ls zs)
