-- Identities of whole numbers with products: each number is read as a difference of two naturals.
use Rattle.std.proofs.Common.{◌≡◌, ℕ, ◌+◌, ◌*◌, ℤ, pos, ◌+ℤ◌, ◌*ℤ◌, ap, arith}
use borrow.Author.Differences.{up, down, same_in, product_is, sum_is_lem}

-- z is p − n
record Is (z : ℤ) (p n : ℕ) : Type 0 where
  eq : up z + n ≡ down z + p

infixl 6 ◌⊕◌
infixl 7 ◌⊗◌
v : (z : ℤ) → Is z (up z) (down z)
v z = record { eq = omega arith }

# : (k : ℕ) → Is (pos k) k 0
# k = record { eq = omega arith }

◌⊕◌ : {a b : ℤ} {p n q m : ℕ} → Is a p n → Is b q m → Is (a +ℤ b) (p + q) (n + m)
◌⊕◌ {a} {b} x y = record { eq = omega (arith, sum_is_lem a b, x.eq, y.eq) }

◌⊗◌ : {a b : ℤ} {p n q m : ℕ} → Is a p n → Is b q m → Is (a *ℤ b) (p * q + n * m) (p * m + n * q)
◌⊗◌ {a} {b} {p} {n} {q} {m} x y = record {
  eq = omega (
    arith,
    product_is a b,
    ap (λ (k : ℕ). k * up b) x.eq,
    ap (λ (k : ℕ). k * down b) x.eq,
    ap (λ (k : ℕ). p * k) y.eq,
    ap (λ (k : ℕ). n * k) y.eq,
  );
}

same : {z w : ℤ} {p n q m : ℕ} → Is z p n → Is w q m → p + m ≡ q + n → z ≡ w
same {z} {w} x y e = same_in z w (omega (arith, x.eq, y.eq))

-- j steps of p on from f, each of stride z
pub along : (f j p z : ℤ) → f *ℤ z +ℤ j *ℤ (z *ℤ p) ≡ (f +ℤ j *ℤ p) *ℤ z
along f j p z = same (v f ⊗ v z ⊕ v j ⊗ (v z ⊗ v p)) ((v f ⊕ v j ⊗ v p) ⊗ v z) (omega arith)

-- q rows of n, and r more
pub rows : (q n r : ℕ) (z : ℤ) → pos (q * n + r) *ℤ z ≡ pos r *ℤ z +ℤ pos q *ℤ (pos n *ℤ z)
rows q n r z = same (# (q * n + r) ⊗ v z) (# r ⊗ v z ⊕ # q ⊗ (# n ⊗ v z)) (omega arith)

-- ---- products of products and of sums

pub times_assoc : (a b c : ℤ) → (a *ℤ b) *ℤ c ≡ a *ℤ (b *ℤ c)
times_assoc a b c = same (v a ⊗ v b ⊗ v c) (v a ⊗ (v b ⊗ v c)) (omega arith)

pub sum_times : (a b c : ℤ) → (a +ℤ b) *ℤ c ≡ a *ℤ c +ℤ b *ℤ c
sum_times a b c = same ((v a ⊕ v b) ⊗ v c) (v a ⊗ v c ⊕ v b ⊗ v c) (omega arith)

pub once : (a : ℤ) → pos 1 *ℤ a ≡ a
once a = same (# 1 ⊗ v a) (v a) (omega arith)
