-- Reading over lent cells of the layout's count.
use Rattle.std.proofs.Common.{◌≡◌, ℕ, ◌<◌, List, length, get_or, Some, Option, sym, ap, ◌∙◌, subst, arith}
use Rattle.std.proofs.lemmas.Option.{slice_get-get_or}
use Rattle.laws.specs.Filling.{cell_at, held, reading, Read}
use Rattle.laws.proofs.Cells.{cell_below}
use Rattle.laws.proofs.Filling.{cell_at_some, read_is}
use Rattle.grid.specs.declared.layout.Layout.{Layout}
use Rattle.grid.specs.Layouts.{seen}
use Rattle.grid.proofs.Layouts.{sound}

module _ {X : Type 0} (l : Layout) (xs : List X) (ix : List ℕ) (whole : length xs ≡ (seen l).cells) where
  -- a tuple's cell is a lent one
  pub at_within : (k : ℕ) → Some k ≡ cell_at (seen l) ix → k < length xs
  at_within k e =
      let there = cell_at_some (seen l) ix k (sym e) in
      omega (arith, whole, cell_below (seen l) (sound l) ix k there.within there.here)

  -- what that cell holds is what reading answers
  pub read_some : (k : ℕ) (x : X) → Some k ≡ cell_at (seen l) ix → x ≡ get_or xs k x → Some x ≡ reading (seen l) xs ix
  read_some k x e is = ap (λ y. Some y) is ∙ sym (slice_get-get_or xs k x (at_within k e)) ∙ ap (held xs) e

  -- an answer that reading gives means what it should
  pub read_means : (o : Option X) → o ≡ reading (seen l) xs ix → Read (seen l) xs ix o
  read_means o e = subst (λ (p : Option X). Read (seen l) xs ix p) (sym e) (read_is (seen l) xs (sound l) whole ix)
