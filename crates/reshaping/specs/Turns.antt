-- What a turn of the walk is given, and what it does.
use Rattle.std.specs.Prelude.{◌≡◌, ℕ, suc, ◌+◌, ◌<◌, ◌≤◌, List, [], ◌∷◌, length, drop, ℤ}
use Rattle.std.specs.Coded.{×_prop, Unit-prop, le_prop}
use Rattle.std.proofs.Props.{props}
use Rattle.laws.specs.Lengths.{product}
use Rattle.laws.specs.Reshaping.{put, walk, Positive, Near, Ready}

-- A turn passes a old axes and b new ones: the strides of the new ones come after those written before, and the walk goes on behind them.
pub record Passed (ls : List ℕ) (zs : List ℤ) (ms : List ℕ) (before after : List ℤ) (a b : ℕ) : Type 0 where
  pub some : 0 < a + b
  pub olds : a ≤ length ls
  pub news : b ≤ length ms
  pub long : length after ≡ length before + b
  pub ready : Ready (drop a ls) (drop a zs) (drop b ms)
  pub rest : (n : ℕ) → put before (walk (suc n) ls zs ms) ≡ put after (walk n (drop a ls) (drop a zs) (drop b ms))

-- ---- rows are ready in one way only, so that a struct can hold the fact

positive_prop : (ls : List ℕ) → IsProp (Positive ls)
positive_prop [] = Unit-prop
positive_prop (l ∷ ls) = ×_prop le_prop (positive_prop ls)

near_prop : (ls : List ℕ) (zs : List ℤ) → IsProp (Near ls zs)
near_prop [] [] = Unit-prop
near_prop [] (z ∷ zs) = λ x y. absurd x
near_prop (l ∷ ls) [] = λ x y. absurd x
near_prop (l ∷ ls) (z ∷ zs) = ×_prop le_prop (near_prop ls zs)

pub ready_prop : (ls : List ℕ) (zs : List ℤ) (ms : List ℕ) → IsProp (Ready ls zs ms)
ready_prop ls zs ms x y =
    let same_prop : IsProp (product ls ≡ product ms) = Prim.hlevel props in
    λ i. record {
      olds = positive_prop ls x.olds y.olds i;
      news = positive_prop ms x.news y.news i;
      near = near_prop ls zs x.near y.near i;
      same = same_prop x.same y.same i;
      small = le_prop x.small y.small i;
    }
