use Rattle.std.proofs.Common.{◌≡◌, map, take}
use Rattle.laws.specs.Calls.{run, answers}
use Rattle.grid.specs.Layouts.{seen}
use Rattle.grid.specs.Calls.{meaning, saying, Names}
use Rattle.grid.proofs.calls.replay.Given as goal

abbrev pub invariant-loop-place : goal.invariant-loop-place
invariant-loop-place g l =
    let calls = map (meaning g.S.SliceArg.elems) (take l.place l.calls) in
    (seen l.grid ≡ run (seen l.initial.grid) calls)
    × (map saying (take l.place l.said) ≡ answers (seen l.initial.grid) calls)
    × Names (take l.place l.calls) (take l.place l.said)
