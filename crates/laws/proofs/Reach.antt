-- The reach as a loop adds it up, axis by axis.
use Rattle.std.proofs.Common.{◌≡◌, ℕ, zero, suc, ◌+◌, ◌-◌, ◌*◌, ◌<◌, ◌≤◌, List, [], ◌∷◌, length, get_or, drop, ℤ, pos, ap, ◌∙◌, zero-mul, arith}
use Rattle.std.proofs.lemmas.List.{drop_more}
use Rattle.laws.specs.Space.{reach}

module _ (f : ℤ → ℕ) where
  pub reach_more : (ls : List ℕ) (zs : List ℤ) (i : ℕ) → i < length ls → i < length zs
      → reach f (drop i ls) (drop i zs) ≡ (get_or ls i 0 - 1) * f (get_or zs i (pos 0)) + reach f (drop (i + 1) ls) (drop (i + 1) zs)
  reach_more ls zs i l m =
      ap (λ r. reach f r (drop i zs)) (drop_more ls i 0 l) ∙ ap (λ r. reach f (get_or ls i 0 ∷ drop (i + 1) ls) r) (drop_more zs i (pos 0) m)

  -- one axis of the reach
  pub reach_at : (ls : List ℕ) (zs : List ℤ) (i : ℕ) → length ls ≡ length zs → (get_or ls i 0 - 1) * f (get_or zs i (pos 0)) ≤ reach f ls zs
  reach_at [] zs i l = omega (arith, zero-mul (f (get_or zs i (pos 0))))
  reach_at (n ∷ ls) [] i l = absurd (omega arith)
  reach_at (n ∷ ls) (z ∷ zs) zero l = omega arith
  reach_at (n ∷ ls) (z ∷ zs) (suc i) l = omega (arith, reach_at ls zs i (omega arith))
