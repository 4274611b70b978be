-- What closing a group answers.
use Rattle.std.proofs.Common.{◌≡◌, ℕ, ℤ, Some, None, Ok, Err, Option, sym, refl, ap, ap₂, arith}
use Rattle.laws.specs.Faults.{Fault, in_rows}
use Rattle.laws.specs.ReshapingSteps.{ends}

pub ends_err : (o : Option (ℕ × ℕ × ℤ)) (e : Fault) → Err e ≡ ends o → (o ≡ None) × (in_rows 2 ≡ e)
ends_err None e h = (refl, cc)
ends_err (Some g) e h = let z : ◌≡◌ {A = ℕ} 0 1 = cc in absurd (omega arith)

pub ends_ok : (o : Option (ℕ × ℕ × ℤ)) (a b : ℕ) → Ok (a, b) ≡ ends o → (e : ℤ) × (o ≡ Some (a, b, e))
ends_ok None a b h = let z : ◌≡◌ {A = ℕ} 0 1 = cc in absurd (omega arith)
ends_ok (Some (x, y, e)) a b h =
    let pair : ◌≡◌ {A = ℕ × ℕ} (a, b) (x, y) = cc in
    let p : x ≡ a = sym (ap (λ (z : ℕ × ℕ). z.0) pair) in
    let q : y ≡ b = sym (ap (λ (z : ℕ × ℕ). z.1) pair) in
    (e, ap₂ (λ (u v : ℕ). Some (u, v, e)) p q)
