-- The list of a counted row, and what making a row answers.
use Rattle.std.specs.Prelude.{ℕ, cond, List, [], ◌∷◌, ◌++◌, length, take, replicate, None, Ok, Result, nat_lt}
use Rattle.laws.specs.Lengths.{nonzeros}
use Rattle.laws.specs.Faults.{Fault, in_rows, refuse}
use Rattle.laws.specs.Opening.{most}
use Rattle.dimension.specs.Owed.{Owed, owed_front}
use Rattle.dimension.specs.declared.dynindeximpl.IxDyn.{IxDyn}

-- the words of a counted row
abbrev pub listed : IxDyn → List ℕ
listed x = take x.count x.cells

pub listed_owed : (x : IxDyn) → Owed None (listed x)
listed_owed x = owed_front x.count x.cells x.few

-- a row of these words; 11 for more than eight
abbrev pub counted : List ℕ → Result (List ℕ) Fault
counted ws = refuse (nat_lt 8 (length ws)) (in_rows 11) (Ok ws)

-- a row with one word more at its end; eight words stay as they are
abbrev pub pushed : List ℕ → ℕ → List ℕ
pushed ws w = cond (nat_lt (length ws) 8) (ws ++ w ∷ []) ws

-- a row of n zeros; 11 for more than eight
abbrev pub zeros : ℕ → Result (List ℕ) Fault
zeros n = refuse (nat_lt 8 n) (in_rows 11) (Ok (replicate n 0))

-- the strides of an order; 6 where the nonzero lengths multiply to more than 2^63 − 1
abbrev pub strides_of : (List ℕ → List ℕ) → List ℕ → Result (List ℕ) Fault
strides_of order ws = refuse (nat_lt most (nonzeros ws)) (in_rows 6) (Ok (order ws))
