-- A number that is kept only where it is a word of 64 bits.
use Rattle.std.specs.Prelude.{ℕ, ◌^◌, cond, Some, None, Option, nat_lt}

-- the number, or none from 2^64 on
abbrev pub worded : ℕ → Option ℕ
worded n = cond (nat_lt n (2 ^ 64)) (Some n) None
