use Rattle.std.proofs.Common.{◌≡◌, ℕ, ◌-◌, ◌⊎◌, List, length, take, drop, Ok, sym, ap, ◌∙◌, inl, inr, arith}
use Rattle.std.proofs.lemmas.List.{take_all, length-drop}
use Rattle.std.proofs.lemmas.Result.{err_from_is_err_and}
use Rattle.reshaping.specs.Turns.{Passed}
use Rattle.reshaping.proofs.Walking.{going_start, going_on, going_refused, going_done}
use Rattle.reshaping.proofs.walk.reshape_dim_c.Goals as goal
use Rattle.reshaping.proofs.walk.reshape_dim_c.Goals.{then-loop-from-test+else-not-is_empty, else-loop-from-test}
use Rattle.std.proofs.lemmas.Bool.{eqb-true}

pub loop-from-init : goal.loop-from-init
loop-from-init g c =
    rw (c.as_slice-from.ensures, c.as_slice-strides.ensures, c.as_slice-to.ensures, c.blank-out.ensures, c.copy_of-from.ensures, c.copy_of-strides.ensures, c.copy_of-to.ensures)
    (going_start _ _ _ c.requires (g.F.Dimension.owed c.args.from.now).few (g.E.Dimension.owed c.args.to.now).few)

pub returns-in_err-olds : goal.returns-in_err-olds
returns-in_err-olds g c =
    let p = err_from_is_err_and c.from_residual.result c.from_residual.ensures.1 in
    rw (p.1, p.2) (going_refused _ _ _ _ _ _ _ c.loop-from.invariant _ (omega arith) c.in_err-olds.ensures)

-- the rest of a slice behind some words
rest : (xs : List ℕ) (a : ℕ) → take (length xs - a) (drop a xs) ≡ drop a xs
rest xs a = let long = length-drop a xs in take_all (length xs - a) (drop a xs) (omega arith)

pub loop-from-preserved : goal.loop-from-preserved
loop-from-preserved g c =
    let s : Passed _ _ _ _ _ _ _ = c.in_ok-olds.ensures in
    rw (rest c.loop-from.from.now c.in_ok-olds.olds, rest c.loop-from.strides.now c.in_ok-olds.olds, rest c.loop-from.to.now c.in_ok-olds.news)
    (going_on _ _ _ _ _ _ _ c.loop-from.invariant _ _ _ (omega arith) s)

pub returns : goal.returns
returns g c =
    let stop : (length c.loop-from.from.now ≡ 0) ⊎ (length c.loop-from.to.now ≡ 0) = elim c.loop-from-test.branch [
      | then-loop-from-test+else-not-is_empty w ↦ inr (eqb-true _ _ (sym w.is_empty-in-loop-from.ensures ∙ w.if-not-is_empty.false))
      | else-loop-from-test w ↦ inl (eqb-true _ _ (sym c.is_empty.ensures ∙ w.loop-from-test.false))
    ] in
    ap Ok c.write_ones.ensures ∙ going_done _ _ _ _ _ _ _ c.loop-from.invariant stop
