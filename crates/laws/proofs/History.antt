-- Through any list of calls a sound grid stays sound and keeps step with the plain model.
use Rattle.std.proofs.Common.{◌≡◌, ℕ, ◌<◌, Bool, true, false, cond, List, [], ◌∷◌, sym, refl, ap, ◌∙◌, subst}
use Rattle.laws.specs.Tuples.{Within}
use Rattle.laws.specs.Space.{Seen, Sound, cell}
use Rattle.laws.specs.Calls.{Call, answer, taken, accepted, effect, after, run}
use Rattle.laws.specs.Model.{Model, new_lens, back, started, follow, followed}
use Rattle.laws.specs.History.{model, Kept, Keeps}
use Rattle.laws.proofs.Cells.{cell-number}
use Rattle.laws.proofs.Refining.{cells_apart, sound_refined}
use Rattle.laws.proofs.Calls.{call-lens, call_refined}

-- the grid keeps step with the model
pub record Tracks (fresh s : Seen) (m : Model) : Type 0 where
  pub sound : Sound s
  pub cells : s.cells ≡ fresh.cells
  pub lengths : s.lens ≡ m.lens
  pub fresh_tuple : (ix : List ℕ) → Within ix s.lens → Within (m.fresh ix) fresh.lens
  pub fresh_cell : (ix : List ℕ) → Within ix s.lens → cell s ix ≡ cell fresh (m.fresh ix)

tracks_none : (fresh : Seen) → Sound fresh → Tracks fresh fresh (started fresh.lens)
tracks_none fresh h = record { sound = h; cells = refl; lengths = refl; fresh_tuple = λ ix w. w; fresh_cell = λ ix w. refl }

tracks_more : (fresh s : Seen) (m : Model) (c : Call) → Tracks fresh s m → (b : Bool) → accepted (answer c s) ≡ b → Tracks fresh (cond b (effect c s) s) (follow b c m)
tracks_more fresh s m c t false e = t
tracks_more fresh s m c t true e =
    let r = call_refined c s t.sound e in
    record {
      sound = sound_refined s (effect c s) (back c s.lens) r t.sound;
      cells = r.cells ∙ t.cells;
      lengths = call-lens c s e ∙ ap (new_lens c) t.lengths;
      fresh_tuple = λ ix w. subst (λ ls. Within (m.fresh (back c ls ix)) fresh.lens) t.lengths (t.fresh_tuple (back c s.lens ix) (r.within ix w));
      fresh_cell = λ ix w. r.same_cell ix w ∙ t.fresh_cell (back c s.lens ix) (r.within ix w) ∙ ap (λ ls. cell fresh (m.fresh (back c ls ix))) t.lengths;
    }

tracks_all : (fresh s : Seen) (m : Model) (cs : List Call) → Tracks fresh s m → Tracks fresh (run s cs) (followed m cs (taken s cs))
tracks_all fresh s m [] t = t
tracks_all fresh s m (c ∷ cs) t = tracks_all fresh (after c s) (follow (accepted (answer c s)) c m) cs (tracks_more fresh s m c t (accepted (answer c s)) refl)

kept_by_lem : (fresh : Seen) (cs : List Call) → Tracks fresh (run fresh cs) (model fresh cs) → Kept fresh cs
kept_by_lem fresh cs t = record {
  only = λ k l. ((model fresh cs).fresh l.0, record { within = t.fresh_tuple l.0 l.1.within; here = sym (t.fresh_cell l.0 l.1.within) ∙ l.1.here });
  once = λ k ix jx p q. cells_apart (run fresh cs) t.sound ix jx p.within q.within (p.here ∙ sym q.here);
  inside = λ ix w. let r = cell-number (run fresh cs) t.sound ix w in (r.0, subst (λ n. r.0 < n) t.cells r.1, r.2);
  lengths = t.lengths;
  fresh_tuple = t.fresh_tuple;
  fresh_cell = t.fresh_cell;
}

pub keeps : Keeps
keeps fresh h cs =
    let t = tracks_all fresh fresh (started fresh.lens) cs (tracks_none fresh h) in
    (t.sound, kept_by_lem fresh cs t)
