-- Checks that are passed, checks that refuse, and calls that nothing refuses.
use Rattle.std.proofs.Common.{◌≡◌, ℕ, Bool, true, false, cond, Some, None, Ok, Err, Option, Result, refl, arith}
use Rattle.laws.specs.Faults.{Fault, refuse, or_else}

-- the test of a check that passed
pub passed : {A : Type 0} (b : Bool) (f : Fault) (x y : A) → Ok x ≡ refuse b f (Ok y) → b ≡ false
passed true f x y e = let z : ◌≡◌ {A = ℕ} 0 1 = cc in absurd (omega arith)
passed false f x y e = refl

-- what it answered
pub passed_with : {A : Type 0} (b : Bool) (f : Fault) (x y : A) → Ok x ≡ refuse b f (Ok y) → x ≡ y
passed_with true f x y e = let z : ◌≡◌ {A = ℕ} 0 1 = cc in absurd (omega arith)
passed_with false f x y e = cc

-- a check was passed, and what came after it gave the answer
pub passed_on : {A : Type 0} (b : Bool) (f : Fault) (x : A) (r : Result A Fault) → Ok x ≡ refuse b f r → (b ≡ false) × (Ok x ≡ r)
passed_on true f x r e = let z : ◌≡◌ {A = ℕ} 0 1 = cc in absurd (omega arith)
passed_on false f x r e = (refl, e)

-- the test of a check that refused, its fault, and that it refuses whatever would have come after
pub refused_test : {A : Type 0} (b : Bool) (f g : Fault) (y : A) → Err g ≡ refuse b f (Ok y) → b ≡ true
refused_test true f g y e = refl
refused_test false f g y e = let z : ◌≡◌ {A = ℕ} 0 1 = cc in absurd (omega arith)

pub refused_with : {A : Type 0} (b : Bool) (f g : Fault) (y : A) → Err g ≡ refuse b f (Ok y) → g ≡ f
refused_with true f g y e = cc
refused_with false f g y e = let z : ◌≡◌ {A = ℕ} 0 1 = cc in absurd (omega arith)

pub refused : {A B : Type 0} (b : Bool) (f g : Fault) (y : A) (r : Result B Fault) → Err g ≡ refuse b f (Ok y) → Err g ≡ refuse b f r
refused b f g y r e = rw (refused_test b f g y e, refused_with b f g y e)

-- ---- where nothing is refused, each test was passed and nothing after it refused

pub none_unless : (b : Bool) (f : Fault) (o : Option Fault) → cond b (Some f) o ≡ None → (b ≡ false) × (o ≡ None)
none_unless true f o e = let z : ◌≡◌ {A = ℕ} 0 1 = cc in absurd (omega arith)
none_unless false f o e = (refl, e)

pub none_where : (b : Bool) (f : Fault) (o : Option Fault) → cond b o (Some f) ≡ None → (b ≡ true) × (o ≡ None)
none_where true f o e = (refl, e)
none_where false f o e = let z : ◌≡◌ {A = ℕ} 0 1 = cc in absurd (omega arith)

pub none_both : (o p : Option Fault) → or_else o p ≡ None → (o ≡ None) × (p ≡ None)
none_both (Some f) p e = let z : ◌≡◌ {A = ℕ} 0 1 = cc in absurd (omega arith)
none_both None p e = (refl, e)
