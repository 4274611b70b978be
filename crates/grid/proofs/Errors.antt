-- A lower layer's answer handed up by a call.
use Rattle.std.proofs.Common.{◌≡◌, ℕ, Bool, false, Some, None, Ok, Err, Option, Result, refl, ap, ◌∙◌, arith}
use Rattle.laws.specs.Faults.{Fault, refuse, unless}
use Rattle.laws.proofs.Faults.{passed, passed_with, refused}
use Rattle.dimension.specs.declared.error.RowFault.{RowFault}
use Rattle.dimension.specs.Errors.{row_fault}
use Rattle.dimension.specs.Errors as rows
use Rattle.selection.specs.declared.error.SliceFault.{SliceFault}
use Rattle.selection.specs.Errors as slices
use Rattle.grid.specs.declared.error.GridCall.{GridCall}
use Rattle.grid.specs.declared.error.During.{During}
use Rattle.grid.specs.Errors.{noted, calling}

module _ {A B : Type 0} (shows : A → B) (call : GridCall) (b : Bool) (f : Fault) (y : B) where
  -- a check that was passed
  pub went_on : (r : Result A RowFault) (x : A) → Ok x ≡ noted r call → rows.answered shows r ≡ refuse b f (Ok y) → (b ≡ false) × (shows x ≡ y)
  went_on (Ok z) x e h =
      let same : x ≡ z = cc in
      (passed b f (shows z) y h, ap shows same ∙ passed_with b f (shows z) y h)
  went_on (Err g) x e h = let z : ◌≡◌ {A = ℕ} 0 1 = cc in absurd (omega arith)

  -- a check that refused hands its fault up whole, with the call
  pub handed_up : {C : Type 0} (r : Result A RowFault) (d : During RowFault) (rest : Result C Fault) → Err d ≡ noted r call → rows.answered shows r ≡ refuse b f (Ok y)
      → Err (record { fault = row_fault d.fault; call = d.call }) ≡ calling call (refuse b f rest)
  handed_up (Ok z) d rest e h = let z : ◌≡◌ {A = ℕ} 0 1 = cc in absurd (omega arith)
  handed_up {C} (Err g) d rest e h =
      let same : d ≡ record { fault = g; call = call } = cc in
      ap (λ (x : During RowFault). Err (record { fault = row_fault x.fault; call = x.call })) same
      ∙ ap (calling {A = C} call) (refused b f (row_fault g) y rest h)

-- an answer of the rows that was not refused
pub took_rows : {A B : Type 0} (shows : A → B) (call : GridCall) (q : Result B Fault) (r : Result A RowFault) (x : A) → Ok x ≡ noted r call → rows.answered shows r ≡ q → Ok (shows x) ≡ q
took_rows shows call q (Ok z) x e h = let same : x ≡ z = cc in ap (λ y. Ok (shows y)) same ∙ h
took_rows shows call q (Err g) x e h = let z : ◌≡◌ {A = ℕ} 0 1 = cc in absurd (omega arith)

-- a selection's answer that was not refused
pub took : {A B : Type 0} (shows : A → B) (call : GridCall) (q : Result B Fault) (r : Result A SliceFault) (x : A) → Ok x ≡ noted r call → slices.answered shows r ≡ q → Ok (shows x) ≡ q
took shows call q (Ok z) x e h = let same : x ≡ z = cc in ap (λ y. Ok (shows y)) same ∙ h
took shows call q (Err g) x e h = let z : ◌≡◌ {A = ℕ} 0 1 = cc in absurd (omega arith)

-- what a call answers where the rule gives a value
pub called : {A : Type 0} (call : GridCall) (x : A) (r : Result A Fault) → Ok x ≡ calling call r → Ok x ≡ r
called call x (Ok y) e = cc
called call x (Err f) e = let z : ◌≡◌ {A = ℕ} 0 1 = cc in absurd (omega arith)

-- nothing is refused where an answer was given
pub none_refused : {A : Type 0} (call : GridCall) (o : Option Fault) (x y : A) → Ok x ≡ calling call (unless o y) → o ≡ None
none_refused call (Some f) x y e = let z : ◌≡◌ {A = ℕ} 0 1 = cc in absurd (omega arith)
none_refused call None x y e = refl
