-- Reshaping a layout, by the strides that code finds for it.
use Rattle.std.proofs.Common.{◌≡◌, ℕ, List, ℤ, pos, None, Ok, Err, Result, sym, ap, ◌∙◌, subst, arith}
use Rattle.laws.specs.Strides.{signed}
use Rattle.laws.specs.Space.{Sound}
use Rattle.laws.specs.Faults.{Fault, unless}
use Rattle.laws.specs.Reshaping.{Order, restrided, refusal_of, strides_of, reshape_fault, reshaped, reshaping, reshaped_back}
use Rattle.laws.proofs.Refining.{sound_refined}
use Rattle.laws.proofs.Reshaping.{reshaped_refined}
use Rattle.dimension.specs.declared.error.RowFault.{RowFault}
use Rattle.dimension.specs.declared.dynindeximpl.IxDyn.{IxDyn}
use Rattle.dimension.specs.Errors.{row_fault}
use Rattle.dimension.specs.Errors as rows
use Rattle.dimension.specs.Rows.{listed}
use Rattle.reshaping.specs.Reshapes.{guarded}
use Rattle.reshaping.proofs.Guards.{grid-guarded}
use Rattle.grid.specs.declared.layout.Layout.{Layout}
use Rattle.grid.specs.declared.error.GridCall.TheVariants.{Reshape}
use Rattle.grid.specs.declared.error.During.{During}
use Rattle.grid.specs.Errors.{noted, calling}
use Rattle.grid.specs.Layouts.{seen}
use Rattle.grid.proofs.Layouts.{sound, Kept, kept}

module _ (l : Layout) (o : Order) (ms : List ℕ) (r : Result IxDyn RowFault) (is : rows.answered (λ (row : IxDyn). signed (listed row)) r ≡ guarded o (seen l).lens (seen l).strides ms) where
  abbrev rule : Result (List ℤ) Fault
  rule = restrided o (seen l).lens (seen l).strides ms

  ruled : rows.answered (λ (row : IxDyn). signed (listed row)) r ≡ rule
  ruled = is ∙ grid-guarded o (seen l) ms (sound l)

  -- the strides that were found are the rule's
  found : (q : Result IxDyn RowFault) (strides : IxDyn) → Ok strides ≡ noted q Reshape → rows.answered (λ (row : IxDyn). signed (listed row)) q ≡ rule → Ok (signed (listed strides)) ≡ rule
  found (Ok x) strides e h = let same : strides ≡ x = cc in ap (λ (row : IxDyn). Ok (signed (listed row))) same ∙ h
  found (Err f) strides e h = let z : ◌≡◌ {A = ℕ} 0 1 = cc in absurd (omega arith)

  -- a refusal is the rule's, with the call
  pub refused : (d : During RowFault) → Err d ≡ noted r Reshape → Err (record { fault = row_fault d.fault; call = d.call }) ≡ calling Reshape (reshaping o ms (seen l))
  refused d e = go r d e ruled
    where
      go : (q : Result IxDyn RowFault) (d : During RowFault) → Err d ≡ noted q Reshape → rows.answered (λ (row : IxDyn). signed (listed row)) q ≡ rule
          → Err (record { fault = row_fault d.fault; call = d.call }) ≡ calling Reshape (reshaping o ms (seen l))
      go (Ok x) d e h = let z : ◌≡◌ {A = ℕ} 0 1 = cc in absurd (omega arith)
      go (Err f) d e h =
          let same : d ≡ record { fault = f; call = Reshape } = cc in
          ap (λ (x : During RowFault). Err (record { fault = row_fault x.fault; call = x.call })) same
          ∙ ap (λ (q : Result (List ℤ) Fault). calling Reshape (unless (refusal_of q) (reshaped o ms (seen l)))) h

  module _ (strides lens : IxDyn) (e : Ok strides ≡ noted r Reshape) (lens-is : listed lens ≡ ms) where
    new : Ok (signed (listed strides)) ≡ rule
    new = found r strides e ruled

    passed : reshape_fault o ms (seen l) ≡ None
    passed = sym (ap (λ (q : Result (List ℤ) Fault). refusal_of q) new)

    reshape_is : record { cells = l.cells; start = pos l.start; lens = listed lens; strides = signed (listed strides) } ≡ reshaped o ms (seen l)
    reshape_is = λ i. record { cells = l.cells; start = pos l.start; lens = lens-is i; strides = strides_of (new i) }

    pub reshape_kept : Kept l.cells l.start (listed lens) (signed (listed strides))
    reshape_kept =
        kept l.cells l.start (listed lens) (signed (listed strides))
        (subst Sound (sym reshape_is) (sound_refined (seen l) (reshaped o ms (seen l)) (reshaped_back o ms (seen l).lens) (reshaped_refined (seen l) (sound l) o ms passed) (sound l)))
