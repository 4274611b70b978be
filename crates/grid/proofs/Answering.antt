-- A list of calls and their answers, as a loop makes and writes them.
use Rattle.std.proofs.Common.{◌≡◌, ℕ, ◌+◌, ◌<◌, List, [], ◌∷◌, ◌++◌, map, length, get_or, take, set, sym, ap, ◌∙◌, subst, Result, arith}
use Rattle.std.proofs.lemmas.List.{map-append, take_more, take_more_set, length-take-le}
use Rattle.grid.specs.declared.calls.Call.{Call}
use Rattle.grid.specs.declared.calls.Outcome.{Outcome}
use Rattle.grid.specs.declared.error.GridFault.{GridFault}
use Rattle.grid.specs.Calls.{name_of, saying, Naming, Names}

names_push : {S : Type 0} (cs : List (Call S)) (said : List (Result Outcome GridFault)) (c : Call S) (a : Result Outcome GridFault) → length cs ≡ length said → Names cs said → Naming (name_of c) a → Names (cs ++ c ∷ []) (said ++ a ∷ [])
names_push [] [] c a l h n = (n, tt)
names_push [] (b ∷ said) c a l h n = absurd (omega arith)
names_push (d ∷ cs) [] c a l h n = absurd (omega arith)
names_push (d ∷ cs) (b ∷ said) c a l h n = (h.0, names_push cs said c a (omega arith) h.1 n)

module _ {S : Type 0} (cs : List (Call S)) (said : List (Result Outcome GridFault)) (i : ℕ) (c : Call S) (a : Result Outcome GridFault) (h : i < length cs) (k : i < length said) (is : c ≡ get_or cs i c) where
  taken : take (i + 1) cs ≡ take i cs ++ c ∷ []
  taken = take_more cs i c h ∙ ap (λ (x : Call S). take i cs ++ x ∷ []) (sym is)

  written : take (i + 1) (set said i a) ≡ take i said ++ a ∷ []
  written = take_more_set said i a k

  pub names_more : Names (take i cs) (take i said) → Naming (name_of c) a → Names (take (i + 1) cs) (take (i + 1) (set said i a))
  names_more n here =
      let long : length (take i cs) ≡ length (take i said) = length-take-le i cs (omega arith) ∙ sym (length-take-le i said (omega arith)) in
      subst (λ (x : List (Call S)). Names x (take (i + 1) (set said i a))) (sym taken)
      (subst (λ (y : List (Result Outcome GridFault)). Names (take i cs ++ c ∷ []) y) (sym written) (names_push (take i cs) (take i said) c a long n here))

  pub said_more : map saying (take (i + 1) (set said i a)) ≡ map saying (take i said) ++ saying a ∷ []
  said_more = ap (map saying) written ∙ map-append saying (take i said) (a ∷ [])
