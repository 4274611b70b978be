-- What the guard of the old rows gives, and that every grid passes it.
use Rattle.std.proofs.Common.{◌≡◌, ℕ, zero, suc, true, false, not, ◌&&◌, eqb, ltb, leb, List, ◌∷◌, length, replicate, ℤ, pos, Ok, Err, Result, sym, refl, ap, ◌∙◌, arith}
use Rattle.std.proofs.lemmas.Bool.{and_parts, eq-eqb, eqb-true, leb-true, le-leb, not-false}
use Rattle.laws.specs.Lengths.{product, nonzeros}
use Rattle.laws.specs.Faults.{Fault, in_rows, refuse}
use Rattle.laws.specs.Opening.{most, limit, span}
use Rattle.laws.specs.Space.{Seen, Sound}
use Rattle.laws.specs.Strides.{signed}
use Rattle.laws.specs.Reshaping.{Order, restrided, Ready}
use Rattle.laws.proofs.Faults.{passed, passed_with, passed_on, refused}
use Rattle.laws.proofs.ReshapingWalkReady.{all-ready, sound_span}
use Rattle.dimension.specs.declared.error.RowFault.{RowFault}
use Rattle.dimension.specs.declared.dynindeximpl.IxDyn.{IxDyn}
use Rattle.dimension.specs.Errors.{answered, row_fault}
use Rattle.dimension.specs.Rows.{listed, zeros}
use Rattle.reshaping.specs.Reshapes.{gridlike, resized, guarded}

-- every grid is taken
pub grid-guarded : (o : Order) (s : Seen) (ms : List ℕ) → Sound s → guarded o s.lens s.strides ms ≡ restrided o s.lens s.strides ms
grid-guarded o s ms h =
    let rank : eqb (length s.lens) (length s.strides) ≡ true = eq-eqb _ _ h.paired in
    let small : leb (nonzeros s.lens) limit ≡ true = le-leb _ _ h.small in
    let far : leb (span s.lens s.strides) limit ≡ true = le-leb _ _ (sound_span s h) in
    rw (rank, small, far)

-- what the checks of the new lengths give
record Resized (ls ms : List ℕ) (n : ℕ) : Type 0 where
  fit : ltb most (nonzeros ms) ≡ false
  small : ltb limit (nonzeros ms) ≡ false
  same : not (eqb (product ms) (product ls)) ≡ false
  is : n ≡ product ms

resized_ok : (ls ms : List ℕ) (n : ℕ) → Ok n ≡ resized ls ms → Resized ls ms n
resized_ok ls ms n e =
    let same : Result ℕ Fault = refuse (not (eqb (product ms) (product ls))) (in_rows 1) (Ok (product ms)) in
    let fit = passed_on (ltb most (nonzeros ms)) (in_rows 6) n (refuse (ltb limit (nonzeros ms)) (in_rows 12) same) e in
    let small = passed_on (ltb limit (nonzeros ms)) (in_rows 12) n same fit.1 in
    record {
      fit = fit.0;
      small = small.0;
      same = passed (not (eqb (product ms) (product ls))) (in_rows 1) n (product ms) small.1;
      is = passed_with (not (eqb (product ms) (product ls))) (in_rows 1) n (product ms) small.1;
    }

pub ready : (ls : List ℕ) (zs : List ℤ) (ms : List ℕ) (n : ℕ) → true ≡ gridlike ls zs → Ok n ≡ resized ls ms → (n ≡ 0 → ⊥) → Ready ls zs ms
ready ls zs ms n g e some =
    let rank = and_parts (eqb (length ls) (length zs)) (leb (nonzeros ls) limit && leb (span ls zs) limit) (sym g) in
    let limits = and_parts (leb (nonzeros ls) limit) (leb (span ls zs) limit) rank.1 in
    let new = resized_ok ls ms n e in
    let size = new.is in
    all-ready ls zs ms (eqb-true _ _ rank.0) (leb-true _ _ limits.0) (leb-true _ _ limits.1) (eqb-true _ _ (not-false _ new.same)) (omega arith)

signed-zeros : (n : ℕ) → signed (replicate n 0) ≡ replicate n (pos 0)
signed-zeros zero = refl
signed-zeros (suc n) = ap (λ (zs : List ℤ). pos 0 ∷ zs) (signed-zeros n)

-- without cells all strides are 0
pub none : (o : Order) (ls : List ℕ) (zs : List ℤ) (ms : List ℕ) (n : ℕ) (r : Result IxDyn RowFault) → true ≡ gridlike ls zs → Ok n ≡ resized ls ms → n ≡ 0
    → answered listed r ≡ zeros (length ms) → answered (λ (row : IxDyn). signed (listed row)) r ≡ guarded o ls zs ms
none o ls zs ms n r g e empty h =
    let new = resized_ok ls ms n e in
    let zero : eqb (product ms) 0 ≡ true = eq-eqb _ _ (sym new.is ∙ empty) in
    rw (← g, new.fit, new.small, new.same, zero) (row r h)
  where
    row : (r : Result IxDyn RowFault) → answered listed r ≡ zeros (length ms)
        → answered (λ (row : IxDyn). signed (listed row)) r ≡ refuse (ltb 8 (length ms)) (in_rows 11) (Ok (replicate (length ms) (pos 0)))
    row (Ok x) h =
        let few = passed (ltb 8 (length ms)) (in_rows 11) (listed x) (replicate (length ms) 0) h in
        rw few (ap Ok (ap signed (passed_with (ltb 8 (length ms)) (in_rows 11) (listed x) (replicate (length ms) 0) h) ∙ signed-zeros (length ms)))
    row (Err f) h = refused (ltb 8 (length ms)) (in_rows 11) (row_fault f) (replicate (length ms) 0) (Ok (replicate (length ms) (pos 0))) h
