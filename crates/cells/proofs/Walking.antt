-- The count of the lent cells, and the first tuple of a walk.
use Rattle.std.proofs.Common.{◌≡◌, ℕ, false, not, eqb, List, [], ◌∷◌, length, replicate, Ok, Err, Result, sym, ap, ◌∙◌, subst, arith, MatchOption}
use Rattle.std.specs.Result.{result_ok}
use Rattle.std.proofs.lemmas.Bool.{eqb-true, eqb-false, not-false, or_parts}
use Rattle.laws.specs.Lengths.{product, some_zero}
use Rattle.laws.specs.Tuples.{Within, place}
use Rattle.laws.specs.Space.{Seen}
use Rattle.laws.specs.Faults.{in_grid}
use Rattle.laws.specs.Filling.{lent}
use Rattle.laws.proofs.Faults.{passed}
use Rattle.laws.proofs.Walks.{first-place}
use Rattle.dimension.specs.declared.dynindeximpl.IxDyn.{IxDyn}
use Rattle.dimension.specs.declared.error.RowFault.{RowFault}
use Rattle.dimension.specs.Errors.{answered}
use Rattle.dimension.specs.Rows.{listed}
use Rattle.grid.specs.declared.error.GridCall.{GridCall}
use Rattle.grid.specs.Errors.{calling}
use Rattle.grid.proofs.Errors.{called}

-- what is not refused has the layout's count
pub lent_whole : (call : GridCall) (s : Seen) (n : ℕ) (u : Unit {0}) → Ok u ≡ calling call (lent s n) → n ≡ s.cells
lent_whole call s n u e = eqb-true n s.cells (not-false (eqb n s.cells) (passed (not (eqb n s.cells)) (in_grid 4) u tt (called call u (lent s n) e)))

-- where no length is 0, the tuple of zeros is within the lengths
zeros_within : (ls : List ℕ) → some_zero ls ≡ false → Within (replicate (length ls) 0) ls
zeros_within [] e = tt
zeros_within (n ∷ ls) e =
    let both = or_parts (eqb n 0) (some_zero ls) e in
    (omega (arith, eqb-false n 0 both.0), zeros_within ls both.1)

pub first_zeros : (ls : List ℕ) (r : Result IxDyn RowFault) → some_zero ls ≡ false → answered listed r ≡ Ok (replicate (length ls) 0)
    → MatchOption (result_ok r) (product ls ≡ 0) (λ ix. Within (listed ix) ls × (place (listed ix) ls ≡ 0))
first_zeros ls (Ok row) none e =
    let same : listed row ≡ replicate (length ls) 0 = cc in
    (subst (λ (ix : List ℕ). Within ix ls) (sym same) (zeros_within ls none), ap (λ (ix : List ℕ). place ix ls) same ∙ first-place ls)
first_zeros ls (Err f) none e = let z : ◌≡◌ {A = ℕ} 0 1 = cc in absurd (omega arith)
