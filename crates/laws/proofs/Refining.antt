-- A grid whose tuples stand for tuples of another, each with the same cell, is sound if the other is.
use Rattle.std.proofs.Common.{◌≡◌, ℕ, ◌≤◌, T, List, length, ℤ, pos, ◌+ℤ◌, ◌≤ℤ◌, sym, refl, ap, ◌∙◌, subst, arith}
use Rattle.std.proofs.lemmas.Int.{ints}
use Rattle.laws.specs.Lengths.{nonzeros}
use Rattle.laws.specs.Tuples.{Within}
use Rattle.laws.specs.Space.{Seen, Sound, offset, cell, inside, up, down}
use Rattle.laws.proofs.Cuts.{Cut}

-- the tuples of t stand for tuples of s, each for its own, with the same cell, and t reaches no further
pub record Refined (s t : Seen) (work : List ℕ → List ℕ) : Type 0 where
  pub cells : t.cells ≡ s.cells
  pub within : (ix : List ℕ) → Within ix t.lens → Within (work ix) s.lens
  pub same_cell : (ix : List ℕ) → Within ix t.lens → cell t ix ≡ cell s (work ix)
  pub apart : (ix jx : List ℕ) → Within ix t.lens → Within jx t.lens → work ix ≡ work jx → ix ≡ jx
  pub top : (t.start +ℤ pos (up t.lens t.strides)) ≤ℤ (s.start +ℤ pos (up s.lens s.strides))
  pub bottom : (s.start +ℤ pos (down t.lens t.strides)) ≤ℤ (t.start +ℤ pos (down s.lens s.strides))
  pub paired : length t.lens ≡ length t.strides
  pub few : length t.lens ≤ 8
  pub small : nonzeros t.lens ≤ 1048576

cancel : (a b c : ℤ) → a +ℤ b ≡ a +ℤ c → b ≡ c
cancel a b c e = omega (arith, ints)

-- no two tuples of a sound grid have one cell
pub cells_apart : (s : Seen) → Sound s → (ix jx : List ℕ) → Within ix s.lens → Within jx s.lens → cell s ix ≡ cell s jx → ix ≡ jx
cells_apart s h ix jx w u e =
    h.distinct (record { one = ix; other = jx; one_within = w; other_within = u; meet = cancel s.start (offset ix s.strides) (offset jx s.strides) e })

pub sound_refined : (s t : Seen) (work : List ℕ → List ℕ) → Refined s t work → Sound s → Sound t
sound_refined s t work r h = record {
  bounds = λ ix w.
      subst (λ n. T (inside n (cell t ix))) (sym r.cells)
      (subst (λ (c : ℤ). T (inside s.cells c)) (sym (r.same_cell ix w)) (h.bounds (work ix) (r.within ix w)));
  distinct = λ p.
      let one = p.one_within in
      let other = p.other_within in
      r.apart p.one p.other one other
      (cells_apart s h (work p.one) (work p.other) (r.within p.one one) (r.within p.other other)
      (sym (r.same_cell p.one one) ∙ ap (λ (o : ℤ). t.start +ℤ o) p.meet ∙ r.same_cell p.other other));
  narrow = omega (arith, r.cells, h.narrow);
  small = r.small;
  low = lower s.start t.start (down s.lens s.strides) (down t.lens t.strides) r.bottom h.low;
  high = raise s.start t.start (up s.lens s.strides) (up t.lens t.strides) s.cells t.cells r.cells r.top h.high;
  paired = r.paired;
  few = r.few;
}
  where
    lower : (a b : ℤ) (d e : ℕ) → (a +ℤ pos e) ≤ℤ (b +ℤ pos d) → pos d ≤ℤ a → pos e ≤ℤ b
    lower a b d e p q = omega (arith, ints)

    raise : (a b : ℤ) (u v m n : ℕ) → n ≡ m → (b +ℤ pos v) ≤ℤ (a +ℤ pos u) → (a +ℤ pos u) ≤ℤ pos m → (b +ℤ pos v) ≤ℤ pos n
    raise a b u v m n e p q = omega (arith, ints)

-- a cut of the axes gives such a grid
pub cut_refined : (s : Seen) (start : ℤ) (ns : List ℕ) (ys : List ℤ) (move : ℤ) (work : List ℕ → List ℕ) → Sound s → start ≡ s.start +ℤ move
    → length ns ≤ 8 → Cut s.lens s.strides ns ys move work → Refined s (record { cells = s.cells; start = start; lens = ns; strides = ys }) work
cut_refined s start ns ys move work h e few c = record {
  cells = refl;
  within = c.within;
  same_cell = λ ix w. moved s.start start move (offset ix ys) (offset (work ix) s.strides) e (c.cell ix w);
  apart = c.apart;
  top = raise s.start start move (up s.lens s.strides) (up ns ys) e c.top;
  bottom = lower s.start start move (down s.lens s.strides) (down ns ys) e c.bottom;
  paired = c.paired;
  few = few;
  small = omega (arith, c.small, h.small);
}
  where
    moved : (a b m o p : ℤ) → b ≡ a +ℤ m → m +ℤ o ≡ p → b +ℤ o ≡ a +ℤ p
    moved a b m o p e f = omega (arith, ints)

    raise : (a b m : ℤ) (u v : ℕ) → b ≡ a +ℤ m → (m +ℤ pos v) ≤ℤ pos u → (b +ℤ pos v) ≤ℤ (a +ℤ pos u)
    raise a b m u v e f = omega (arith, ints)

    lower : (a b m : ℤ) (u v : ℕ) → b ≡ a +ℤ m → pos v ≤ℤ (m +ℤ pos u) → (a +ℤ pos v) ≤ℤ (b +ℤ pos u)
    lower a b m u v e f = omega (arith, ints)

-- the same tuples, worked back in another way
pub refined_alike : (s t : Seen) (work other : List ℕ → List ℕ) → ((ix : List ℕ) → Within ix t.lens → work ix ≡ other ix) → Refined s t work → Refined s t other
refined_alike s t work other same r = record {
  cells = r.cells;
  within = λ ix w. subst (λ jx. Within jx s.lens) (same ix w) (r.within ix w);
  same_cell = λ ix w. r.same_cell ix w ∙ ap (cell s) (same ix w);
  apart = λ ix jx w u e. r.apart ix jx w u (same ix w ∙ e ∙ sym (same jx u));
  top = r.top;
  bottom = r.bottom;
  paired = r.paired;
  few = r.few;
  small = r.small;
}
