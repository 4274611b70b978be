-- The faults that calls are refused with.
use Rattle.std.specs.Prelude.{ℕ, Bool, cond, Some, None, Ok, Err, Option, Result}

-- the layer where a fault arose
pub data Layer : Type 0 where
  InRows : Layer
  InSelection : Layer
  InGrid : Layer

-- a fault has a number, the layer that found it and, if it names one, a place
pub record Fault : Type 0 where
  pub number : ℕ
  pub layer : Layer
  pub place : Option ℕ

abbrev pub in_rows : ℕ → Fault
in_rows n = record { number = n; layer = InRows; place = None }

abbrev pub in_grid : ℕ → Fault
in_grid n = record { number = n; layer = InGrid; place = None }

abbrev pub in_selection : ℕ → Option ℕ → Fault
in_selection n p = record { number = n; layer = InSelection; place = p }

-- refused with this fault where the test says so, else what comes after
abbrev pub refuse : {A : Type 0} → Bool → Fault → Result A Fault → Result A Fault
refuse b f r = cond b (Err f) r

-- the first of two refusals
abbrev pub or_else : Option Fault → Option Fault → Option Fault
or_else (Some f) o = Some f
or_else None o = o

-- what is made where nothing is refused
abbrev pub unless : {A : Type 0} → Option Fault → A → Result A Fault
unless (Some f) x = Err f
unless None x = Ok x
