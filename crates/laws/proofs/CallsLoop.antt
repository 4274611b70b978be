-- A list of calls as a loop makes them, one after another.
use Rattle.std.proofs.Common.{◌≡◌, ℕ, ◌+◌, ◌<◌, List, [], ◌∷◌, ◌++◌, map, length, get_or, take, sym, refl, ap, ◌∙◌, ap₂}
use Rattle.std.proofs.lemmas.List.{map_more}
use Rattle.laws.specs.Space.{Seen}
use Rattle.laws.specs.Calls.{Call, Answer, answer, after, run, answers}

run_push : (s : Seen) (cs : List Call) (c : Call) → run s (cs ++ c ∷ []) ≡ after c (run s cs)
run_push s [] c = refl
run_push s (d ∷ cs) c = run_push (after d s) cs c

answers_push : (s : Seen) (cs : List Call) (c : Call) → answers s (cs ++ c ∷ []) ≡ answers s cs ++ answer c (run s cs) ∷ []
answers_push s [] c = refl
answers_push s (d ∷ cs) c = ap (λ (said : List Answer). answer d s ∷ said) (answers_push (after d s) cs c)

-- after i calls, and one more; each element means a call
module _ {M : Type 0} (f : M → Call) (start mid : Seen) (xs : List M) (i : ℕ) (d : M) (h : i < length xs) (so_far : mid ≡ run start (map f (take i xs))) where
  pub run_more : (next : Seen) → next ≡ after (f (get_or xs i d)) mid → next ≡ run start (map f (take (i + 1) xs))
  run_more next e =
      e ∙ ap (after (f (get_or xs i d))) so_far ∙ sym (ap (run start) (map_more f xs i d h) ∙ run_push start (map f (take i xs)) (f (get_or xs i d)))

  pub answers_more : (said : List Answer) (a : Answer) → said ≡ answers start (map f (take i xs)) → a ≡ answer (f (get_or xs i d)) mid → said ++ a ∷ [] ≡ answers start (map f (take (i + 1) xs))
  answers_more said a before e =
      ap₂ (λ (saying : List Answer) (b : Answer). saying ++ b ∷ []) before (e ∙ ap (answer (f (get_or xs i d))) so_far)
      ∙ sym (ap (answers start) (map_more f xs i d h) ∙ answers_push start (map f (take i xs)) (f (get_or xs i d)))
