use Rattle.std.proofs.Common.{◌<◌, List, map, length, take, sym, refl, ap, ◌∙◌, subst, Result, arith}
use Rattle.std.proofs.lemmas.List.{take_all}
use Rattle.std.proofs.lemmas.Bool.{eq-eqb, ne_eqb, false≢true, true≢false}
use Rattle.laws.specs.Calls.{answer, after, run, answers}
use Rattle.laws.proofs.CallsLoop.{run_more, answers_more}
use Rattle.laws.proofs.History.{keeps}
use Rattle.grid.specs.declared.calls.Outcome.{Outcome}
use Rattle.grid.specs.declared.error.GridFault.{GridFault}
use Rattle.grid.specs.Layouts.{seen}
use Rattle.grid.specs.Calls.{meaning, saying, Names}
use Rattle.grid.proofs.Layouts.{sound}
use Rattle.grid.proofs.Answering.{names_more, said_more}
use Rattle.grid.proofs.calls.replay.Goals as goal

pub returns-then-calls-said : goal.returns-then-calls-said
returns-then-calls-said g c = record {
  answer = sym (ne_eqb _ _ c.if-calls-said.true);
  answers = refl;
  names = λ e. absurd (false≢true e);
  after = refl;
  same = λ e. (refl, refl);
  kept = (keeps (seen c.args.grid.now) (sound c.args.grid.now) (map (meaning g.S.SliceArg.elems) c.args.calls.now)).1;
}

pub loop-place-preserved : goal.loop-place-preserved
loop-place-preserved g c =
    let F = meaning g.S.SliceArg.elems in
    let start = seen c.args.grid.now in
    let mid = seen c.loop-place.grid in
    let cs = c.args.calls.now in
    let i = c.loop-place.place in
    let x = c.index-calls-place.result in
    let h : i < length cs = c.loop-place-test.true in
    let k : i < length c.loop-place.said = omega arith in
    let is = c.index-calls-place.is in
    let inv = c.loop-place.invariant in (
      run_more F start mid cs i x h inv.0 (seen c.perform.new.grid) (c.perform.ensures.after ∙ ap (λ y. after (F y) mid) is),
      said_more cs c.loop-place.said i x c.perform.result h k is
          ∙ answers_more F start mid cs i x h inv.0 (map saying _) (saying c.perform.result) inv.1 (c.perform.ensures.answer ∙ ap (λ y. answer (F y) mid) is),
      names_more cs c.loop-place.said i x c.perform.result h k is inv.2 c.perform.ensures.naming,
    )

pub returns : goal.returns
returns g c =
    let F = meaning g.S.SliceArg.elems in
    let start = seen c.args.grid.now in
    let cs = c.args.calls.now in
    let inv = c.loop-place.invariant in
    let whole = take_all c.loop-place.place cs c.loop-place-test.false in
    let full = take_all c.loop-place.place c.loop-place.said (omega arith) in
    record {
      answer = sym (eq-eqb _ _ c.if-calls-said.false);
      answers = sym (ap (map saying) full) ∙ inv.1 ∙ ap (λ ds. answers start (map F ds)) whole;
      names = λ e. subst (λ ds. Names ds c.loop-place.said) whole (subst (λ (said : List (Result Outcome GridFault)). Names (take c.loop-place.place cs) said) full inv.2);
      after = inv.0 ∙ ap (λ ds. run start (map F ds)) whole;
      same = λ e. absurd (true≢false e);
      kept = (keeps start (sound c.args.grid.now) (map F cs)).1;
    }
