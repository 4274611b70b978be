-- Signed words: products of small numbers, and whether two are one.
use Rattle.std.proofs.Common.{◌≡◌, ℕ, zero, suc, ◌*◌, ◌≤◌, ℤ, pos, negsuc, ◌*ℤ◌, neg_ℤ, nat_abs, ap₂, mul-le-mul, arith, w64, SFits, to_z, of_z}
use lib.Signed.{mag}
use Rattle.std.proofs.lemmas.Int.{to_z-of_z}

mag_neg : (n : ℕ) → mag (neg_ℤ (pos n)) ≤ n
mag_neg zero = omega arith
mag_neg (suc n) = omega arith

mag_product : (a b : ℤ) → mag (a *ℤ b) ≤ nat_abs a * nat_abs b
mag_product (pos a) (pos b) = omega arith
mag_product (pos a) (negsuc b) = mag_neg (a * suc b)
mag_product (negsuc a) (pos b) = mag_neg (suc a * b)
mag_product (negsuc a) (negsuc b) = omega arith

pub product_fits : (a b : ℤ) → nat_abs a ≤ 1048576 → nat_abs b ≤ 1048576 → SFits w64 (a *ℤ b)
product_fits a b h k = record { sfits = omega (arith, mag_product a b, mul-le-mul h k) }

-- a product, by what code reads
pub product-read : (a b y z : ℤ) → SFits w64 a → SFits w64 b → a ≡ y → b ≡ z → to_z w64 (of_z w64 a) *ℤ to_z w64 (of_z w64 b) ≡ y *ℤ z
product-read a b y z f g p q = simp to_z-of_z (ap₂ (λ (u v : ℤ). u *ℤ v) p q)
