-- A group's whole stride, over the rows' words.
use Rattle.std.proofs.Common.{◌≡◌, ℕ, ◌+◌, ◌-◌, ◌*◌, ◌<◌, ◌≤◌, List, length, get_or, drop, pos, nat_abs, sym, ap, ◌∙◌, add-zero, arith, w64, to_z}
use Rattle.std.proofs.lemmas.List.{get_or-drop, get_or-map, length-drop, length-map}
use Rattle.laws.specs.Strides.{signed}
use Rattle.laws.specs.Reshaping.{Ready}
use Rattle.laws.proofs.ReshapingGroupsProducts.{near-length, near_at, positive_at, length_below, near_twice}

module _ (ls ss ms : List ℕ) (fi ti : ℕ) (r : Ready (drop fi ls) (drop fi (signed ss)) (drop ti ms)) where
  pub stride_at_lem : (a : ℕ) → a < length (drop fi ls) → get_or (drop fi (signed ss)) a (pos 0) ≡ to_z w64 (get_or ss (fi + a) 0)
  stride_at_lem a h =
      let even = near-length (drop fi ls) (drop fi (signed ss)) r.near in
      let long = length-drop fi (signed ss) in
      let same = length-map ss (λ w. to_z w64 w) in
      get_or-drop fi (signed ss) a (pos 0) ∙ get_or-map (λ w. to_z w64 w) ss (fi + a) 0 (pos 0) (omega arith)

  -- the group's whole stride fits
  pub whole_requires : (fd t : ℕ) → fi < length ls → fd ≡ get_or ls fi 0 → t ≡ get_or ss fi 0 → (fd ≡ 1 → ⊥) → (fd ≤ 1048576) × (fd * nat_abs (to_z w64 t) ≤ 2097152)
  whole_requires fd t h e f ne =
      let l1 = length-drop fi ls in
      let some : 0 < length (drop fi ls) = omega arith in
      let e' : get_or (drop fi ls) 0 0 ≡ fd = get_or-drop fi ls 0 0 ∙ ap (λ n. get_or ls n 0) (add-zero fi) ∙ sym e in
      let f' : get_or (drop fi (signed ss)) 0 (pos 0) ≡ to_z w64 t = stride_at_lem 0 some ∙ ap (λ n. to_z w64 (get_or ss n 0)) (add-zero fi) ∙ ap (λ w. to_z w64 w) (sym f) in
      let small = r.small in
      let below = length_below (drop fi ls) 0 r.olds some in
      let pos-fd = positive_at (drop fi ls) 0 r.olds some in
      let near : (fd - 1) * nat_abs (to_z w64 t) ≤ 1048576 = rw (← e', ← f') (near_at (drop fi ls) (drop fi (signed ss)) 0 r.near some) in
      (omega arith, near_twice fd (nat_abs (to_z w64 t)) (omega arith) ne near)
