-- The elements of a selection, and what each makes of an axis.
use Rattle.std.specs.Prelude.{ℕ, suc, ◌+◌, ◌-◌, ◌*◌, ◌/◌, max, Bool, false, ◌||◌, List, [], ◌∷◌, ℤ, pos, negsuc, Some, None, Option, ◌==◌, nat_lt, unsigned_abs}

-- an element takes a range of an axis, whose end may be absent, or one index of it, or it adds an axis
pub data Elem : Type 0 where
  Slice : ℤ → Option ℤ → ℤ → Elem
  Index : ℤ → Elem
  NewAxis : Elem

-- how many axes a selection takes: each element but a new axis takes one
abbrev pub in_count : List Elem → ℕ
in_count [] = 0
in_count (Slice s e p ∷ es) = suc (in_count es)
in_count (Index i ∷ es) = suc (in_count es)
in_count (NewAxis ∷ es) = in_count es

-- how many axes it leaves: each element but an index leaves one
abbrev pub out_count : List Elem → ℕ
out_count [] = 0
out_count (Slice s e p ∷ es) = suc (out_count es)
out_count (Index i ∷ es) = out_count es
out_count (NewAxis ∷ es) = suc (out_count es)

-- ---- one element on an axis of length d

-- to a place below 0, which counts from the end, d is added
abbrev pub resolved : ℕ → ℤ → ℕ
resolved d (pos n) = n
resolved d (negsuc n) = d - suc n

-- whether that falls below 0
abbrev pub before : ℕ → ℤ → Bool
before d (pos n) = false
before d (negsuc n) = nat_lt d (suc n)

-- a range without an end goes on to d
abbrev pub ending : ℕ → Option ℤ → ℕ
ending d None = d
ending d (Some e) = resolved d e

abbrev pub ending_before : ℕ → Option ℤ → Bool
ending_before d None = false
ending_before d (Some e) = before d e

-- where a range stops, which is at its start if its end lies before that
abbrev pub upper : ℕ → ℤ → Option ℤ → ℕ
upper d s e = max (resolved d s) (ending d e)

-- whether a range, or an index, leaves its axis
abbrev pub outside : ℕ → ℤ → Option ℤ → Bool
outside d s e = before d s || (ending_before d e || nat_lt d (upper d s e))

abbrev pub outside_index : ℕ → ℤ → Bool
outside_index d i = before d i || nat_lt d (suc (resolved d i))

-- whether a step is 0 or of too great a magnitude
abbrev pub bad_step : ℤ → Bool
bad_step p = unsigned_abs p == 0 || nat_lt 1048576 (unsigned_abs p)

-- m ÷ q rounded up
abbrev pub rounded_up : ℕ → ℕ → ℕ
rounded_up m q = (m + (q - 1)) / q

-- of the range from a to b with this step: how many indices it takes, the first of them, and the one of entry j
abbrev pub entries : ℕ → ℕ → ℤ → ℕ
entries a b p = rounded_up (b - a) (unsigned_abs p)

abbrev pub first : ℕ → ℕ → ℤ → ℕ
first a b (pos n) = a
first a b (negsuc n) = b - 1

abbrev pub entry : ℕ → ℕ → ℤ → ℕ → ℕ
entry a b (pos n) j = a + j * n
entry a b (negsuc n) j = b - 1 - j * suc n
