-- Where a cursor stands in its line, and how it moves.
use Rattle.std.specs.Prelude.{◌≡◌, ℕ, ◌+◌, ◌<◌, ◌≤◌, Bool, true, false, ◌||◌, List, length, Ok, Err, Result, ◌==◌, ◌≢◌, slice_index}
use Rattle.script.specs.declared.command.Marked.{Marked}
use Rattle.script.specs.declared.expected.Expected.{Expected}
use Rattle.script.specs.declared.scan.Cursor.{Cursor}

-- the bytes that the cursor goes over
abbrev pub bytes : Cursor → List ℕ
bytes c = c.line.now

-- the cursor goes over the same bytes, and does not go back
pub record Onward (before after : Cursor) : Type 0 where
  pub line : bytes after ≡ bytes before
  pub on : before.at ≤ after.at

-- a column of a line of so many bytes, or the one after its end
pub record Column (count column : ℕ) : Type 0 where
  pub low : 1 ≤ column
  pub high : column ≤ count + 1

-- a part of the line is read: the cursor does not go back, and the part begins at a column of the line
pub record Part {X : Type 0} (before : Cursor) (part : Marked X) (after : Cursor) : Type 0 where
  pub onward : Onward before after
  pub place : Column (length (bytes before)) part.column

-- what is wrong is at a column of the line
abbrev pub Placed : {X : Type 0} → ℕ → Result X Expected → Type 0
Placed n (Ok x) = Unit {0}
Placed n (Err e) = Column n e.column

-- a step of reading: the cursor does not go back, and what is wrong is at a column of the line
pub record Step {X : Type 0} (before : Cursor) (read : Result X Expected) (after : Cursor) : Type 0 where
  pub onward : Onward before after
  pub place : Placed (length (bytes before)) read

-- a blank or a tab
abbrev pub blank : ℕ → Bool
blank b = b == 32 || b == 9

-- what ends a word: a blank, a bracket, a comma or a slash
abbrev pub ending : ℕ → Bool
ending b = blank b || b == 91 || b == 93 || b == 44 || b == 47

-- what ends a piece of a range: what ends a word, a dot or a semicolon
abbrev pub edge : ℕ → Bool
edge b = ending b || b == 46 || b == 59

-- the first n bytes are the longest front whose bytes all answer so
pub record Front (test : ℕ → Bool) (answer : Bool) (text : List ℕ) (n : ℕ) : Type 0 where
  pub within : n ≤ length text
  pub all : (k : ℕ) → k < n → test (slice_index text k) ≡ answer
  pub stops : n < length text → test (slice_index text n) ≢ answer

-- a test, known by what it may answer to a byte, says no to each of the first n bytes, and yes to the next if there is one
pub record Until (answers : ℕ → Bool → Type 0) (text : List ℕ) (n : ℕ) : Type 0 where
  pub within : n ≤ length text
  pub all : (k : ℕ) → k < n → answers (slice_index text k) false
  pub stops : n < length text → answers (slice_index text n) true
