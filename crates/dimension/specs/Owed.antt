-- What every kind of row owes of its list, and why the rows here meet it.
use Rattle.std.specs.Prelude.{◌≡◌, ℕ, ◌≤◌, List, reverse, length, take, Some, None, Option}
use Rattle.std.proofs.Common.{sym, subst, arith}
use Rattle.std.proofs.lemmas.List.{length-reverse, length-take}

-- a fixed count is the count
abbrev pub Fixed : Option ℕ → ℕ → Type 0
Fixed None n = Unit {0}
Fixed (Some m) n = m ≡ n

-- at most eight words, and as many as the type fixes
pub record Owed (rank : Option ℕ) (ws : List ℕ) : Type 0 where
  pub few : length ws ≤ 8
  pub counted : Fixed rank (length ws)

-- a reversed row owes what the row owes
pub owed_reverse : (rank : Option ℕ) (ws : List ℕ) → Owed rank ws → Owed rank (reverse ws)
owed_reverse rank ws o = record {
  few = subst (λ (n : ℕ). n ≤ 8) (sym (length-reverse ws)) o.few;
  counted = subst (λ (n : ℕ). Fixed rank n) (sym (length-reverse ws)) o.counted;
}

-- the first few of some cells
pub owed_front : (n : ℕ) (cells : List ℕ) → n ≤ 8 → Owed None (take n cells)
owed_front n cells h = record { few = omega (arith, length-take n cells); counted = tt }

-- as many words as the type fixes, at most eight
pub owed_fixed : (n : ℕ) (ws : List ℕ) → n ≤ 8 → length ws ≡ n → Owed (Some n) ws
owed_fixed n ws few full = record { few = subst (λ (m : ℕ). m ≤ 8) (sym full) few; counted = sym full }
