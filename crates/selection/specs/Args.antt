-- What every kind of selection owes of its list.
use Rattle.std.specs.Prelude.{◌≡◌, ℕ, List}
use Rattle.laws.specs.Elements.{Elem, in_count, out_count}

-- as many axes are taken as elements are no new axis, and as many left as elements are no index
pub record Counted (es : List Elem) (ins outs : ℕ) : Type 0 where
  pub takes : ins ≡ in_count es
  pub leaves : outs ≡ out_count es
