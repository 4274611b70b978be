-- Collapsing a layout, by what code reads of it.
use Rattle.std.proofs.Common.{◌≡◌, ℕ, ◌^◌, ◌<◌, Bool, cond, T, ltb, List, get_or, set, ℤ, pos, ◌+ℤ◌, ◌*ℤ◌, Some, None, Ok, Option, sym, ap, ◌∙◌, subst, arith, w64, to_z}
use Rattle.std.proofs.lemmas.Bool.{lt-ltb}
use Rattle.laws.specs.Strides.{signed}
use Rattle.laws.specs.Space.{Seen, Sound, inside}
use Rattle.laws.specs.Faults.{Fault, or_else, unless}
use Rattle.laws.specs.Collapsing.{len_at, outside_axis, axis_fault, collapse_fault, collapsed, collapsing}
use Rattle.laws.proofs.Words.{length-signed, stride_read}
use Rattle.laws.proofs.Limits.{start-inside}
use Rattle.laws.proofs.Collapsing.{axis_below, collapsing_sound}
use Rattle.dimension.specs.Rows.{listed}
use Rattle.grid.specs.declared.layout.Layout.{Layout}
use Rattle.grid.specs.declared.error.GridCall.TheVariants.{Collapse}
use Rattle.grid.specs.Errors.{calling}
use Rattle.grid.specs.Layouts.{seen}
use Rattle.grid.proofs.Layouts.{sound, Kept, kept}

module _ (l : Layout) (axis index w start : ℕ) (lens : List ℕ) (a : axis_fault (seen l) axis ≡ None) (h : index < len_at (seen l) axis) (w-is : w ≡ get_or (listed l.strides) axis 0)
    (law : T (inside (2 ^ 64) (pos l.start +ℤ pos index *ℤ to_z w64 w)) → pos start ≡ pos l.start +ℤ pos index *ℤ to_z w64 w) (lens-is : lens ≡ set (listed l.lens) axis 1) where
  passed : collapse_fault axis index (seen l) ≡ None
  passed =
      ap (λ (o : Option Fault). or_else o (cond (ltb index (len_at (seen l) axis)) None (Some (outside_axis axis)))) a
      ∙ ap (λ (b : Bool). cond b None (Some (outside_axis axis))) (lt-ltb index (len_at (seen l) axis) h)

  safe : Sound (collapsed axis index (seen l))
  safe = collapsing_sound (seen l) axis index (sound l) passed

  start_is : pos start ≡ (collapsed axis index (seen l)).start
  start_is =
      let below = axis_below (seen l) axis a in
      let read = stride_read (listed l.strides) axis w (omega (arith, l.paired, length-signed (listed l.strides))) w-is in
      let is : pos l.start +ℤ pos index *ℤ to_z w64 w ≡ (collapsed axis index (seen l)).start = ap (λ (z : ℤ). pos l.start +ℤ pos index *ℤ z) read in
      law (subst (λ (z : ℤ). T (inside (2 ^ 64) z)) (sym is) (start-inside (collapsed axis index (seen l)).start l.cells _ _ safe.low safe.high safe.narrow)) ∙ is

  collapse_is : record { cells = l.cells; start = pos start; lens = lens; strides = signed (listed l.strides) } ≡ collapsed axis index (seen l)
  collapse_is = λ i. record { cells = l.cells; start = start_is i; lens = lens-is i; strides = signed (listed l.strides) }

  pub collapse_answer : Ok (record { cells = l.cells; start = pos start; lens = lens; strides = signed (listed l.strides) }) ≡ calling Collapse (collapsing axis index (seen l))
  collapse_answer = ap (λ (s : Seen). Ok s) collapse_is ∙ sym (ap (λ (o : Option Fault). calling Collapse (unless o (collapsed axis index (seen l)))) passed)

  pub collapse_kept : Kept l.cells start lens (signed (listed l.strides))
  collapse_kept = kept l.cells start lens (signed (listed l.strides)) (subst Sound (sym collapse_is) safe)
