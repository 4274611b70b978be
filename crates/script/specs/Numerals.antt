-- The number that a word of digits spells.
use Rattle.std.specs.Prelude.{◌≡◌, ℕ, ◌+◌, ◌-◌, ◌*◌, ◌^◌, ◌<◌, ◌≤◌, Bool, true, false, cond, List, [], ◌∷◌, length, ℤ, pos, neg_ℤ, Some, None, Ok, Err, fold, Option, Result, MatchResult, FitsSigned, ◌==◌, nat_lt, slice_index}
use Rattle.std.specs.Int.{w64}
use Rattle.std.specs.Char.{is_ascii_digit}
use Rattle.std.specs.declared.num.TryFromIntError.{TryFromIntError}
use Rattle.script.specs.declared.scan.numbers.Unread.{Unread}
use Rattle.script.specs.declared.scan.numbers.Unread.TheVariants.{NoNumber, OutOfRange}

-- digits alone, and at least one
pub record Numeral (word : List ℕ) : Type 0 where
  pub some : 0 < length word
  pub digits : (k : ℕ) → k < length word → is_ascii_digit (slice_index word k) ≡ true

-- a number with one more digit behind it
abbrev pub behind : ℕ → ℕ → ℕ
behind number byte = number * 10 + (byte - 48)

-- the number that digits spell, in base ten
abbrev pub spelled : List ℕ → ℕ
spelled word = fold behind 0 word

-- a number that fits 64 bits
abbrev pub fitted : ℕ → Option ℕ
fitted number = cond (nat_lt number (2 ^ 64)) (Some number) None

-- a number, if there is one, with one more digit behind it, if that fits
abbrev pub extended : Option ℕ → ℕ → Option ℕ
extended None digit = None
extended (Some number) digit = fitted (number * 10 + digit)

-- values stand for the numbers below the limit, which is within 64 bits, and a number becomes a value just where it is below the limit
pub record Narrows {X : Type 0} (gives : ℕ → Result X TryFromIntError → Type 0) (number : X → ℕ) (limit : ℕ) : Type 0 where
  pub within : limit ≤ 2 ^ 64
  pub below : (n : ℕ) (r : Result X TryFromIntError) → gives n r → MatchResult r (λ x. (number x ≡ n) × (n < limit)) (λ _. limit ≤ n)

-- what a word is read as, where values that stand for the numbers below the limit are wanted
abbrev pub ReadAs : {X : Type 0} → (X → ℕ) → ℕ → List ℕ → Result X Unread → Type 0
ReadAs number limit word (Ok x) = Numeral word × (number x ≡ spelled word) × (number x < limit)
ReadAs number limit word (Err NoNumber) = Numeral word → ⊥
ReadAs number limit word (Err OutOfRange) = Numeral word × (limit ≤ spelled word)

-- what a word is read as, where numbers below the limit are wanted
abbrev pub Natural : ℕ → List ℕ → Result ℕ Unread → Type 0
Natural limit word read = ReadAs (λ n. n) limit word read

-- a minus stands in front
abbrev pub negative : List ℕ → Bool
negative [] = false
negative (b ∷ bs) = b == 45

-- the word behind a minus, if one stands in front
abbrev pub unsigned : List ℕ → List ℕ
unsigned [] = []
unsigned (b ∷ bs) = cond (b == 45) bs (b ∷ bs)

-- the number that a word with or without a minus spells
abbrev pub written : List ℕ → ℤ
written word = cond (negative word) (neg_ℤ (pos (spelled (unsigned word)))) (pos (spelled (unsigned word)))

-- what a word is read as, where numbers of 64 bits with a sign are wanted
abbrev pub Integer : List ℕ → Result ℤ Unread → Type 0
Integer word (Ok number) = Numeral (unsigned word) × (number ≡ written word)
Integer word (Err NoNumber) = Numeral (unsigned word) → ⊥
Integer word (Err OutOfRange) = Numeral (unsigned word) × (FitsSigned w64 (written word) → ⊥)
