-- A row of axes that stands for tuples of another, put together axis by axis.
use Rattle.std.proofs.Common.{◌≡◌, ℕ, suc, ◌+◌, ◌-◌, ◌*◌, ◌<◌, ◌≤◌, List, [], ◌∷◌, length, ℤ, pos, ◌+ℤ◌, ◌*ℤ◌, ◌≤ℤ◌, sym, refl, ap, ◌∙◌, subst, mul-le-mul, one-mul, arith}
use lib.IntN.{+ℤ_idl}
use Rattle.std.proofs.lemmas.Int.{ints}
use Rattle.std.proofs.lemmas.Bool.Decides.{nat_tests}
use Rattle.laws.specs.Lengths.{nonzero, nonzeros}
use Rattle.laws.specs.Tuples.{Within}
use Rattle.laws.specs.Space.{offset, plus, minus, up, down}
use Rattle.laws.proofs.Lengths.{nonzero-pos}
use Rattle.laws.proofs.Axes.{Axis, axis_high, axis_low, index-high, index-low}

-- the axes ns and ys stand for tuples of ds and zs, each for its own, once the start has moved, and reach no further
pub record Cut (ds : List ℕ) (zs : List ℤ) (ns : List ℕ) (ys : List ℤ) (move : ℤ) (back : List ℕ → List ℕ) : Type 0 where
  pub within : (ix : List ℕ) → Within ix ns → Within (back ix) ds
  pub cell : (ix : List ℕ) → Within ix ns → move +ℤ offset ix ys ≡ offset (back ix) zs
  pub apart : (ix jx : List ℕ) → Within ix ns → Within jx ns → back ix ≡ back jx → ix ≡ jx
  pub top : (move +ℤ pos (up ns ys)) ≤ℤ pos (up ds zs)
  pub bottom : pos (down ns ys) ≤ℤ (move +ℤ pos (down ds zs))
  pub paired : length ns ≡ length ys
  pub small : nonzeros ns ≤ nonzeros ds

nonzero_le : (n d : ℕ) → n ≤ d → nonzero n ≤ nonzero d
nonzero_le n d h = grind (arith, nat_tests)

add-sums : (m k a b c e : ℤ) → m +ℤ a ≡ c → k +ℤ b ≡ e → (m +ℤ k) +ℤ (a +ℤ b) ≡ c +ℤ e
add-sums m k a b c e p q = omega (arith, ints)

-- no axes
pub cut_none : Cut [] [] [] [] (pos 0) (λ ix. [])
cut_none = record {
  within = λ ix w. tt;
  cell = λ ix w. cell ix w;
  apart = λ ix jx w u e. apart ix jx w u;
  top = omega (arith, ints);
  bottom = omega (arith, ints);
  paired = refl;
  small = omega arith;
}
  where
    cell : (ix : List ℕ) → Within ix [] → pos 0 +ℤ offset ix [] ≡ pos 0
    cell [] w = refl
    cell (i ∷ ix) w = absurd w

    apart : (ix jx : List ℕ) → Within ix [] → Within jx [] → ix ≡ jx
    apart [] [] w u = refl
    apart [] (j ∷ jx) w u = absurd u
    apart (i ∷ ix) jx w u = absurd w

-- all axes left as they are
pub cut-whole : (ls : List ℕ) (zs : List ℤ) → length ls ≡ length zs → Cut ls zs ls zs (pos 0) (λ t. t)
cut-whole ls zs l = record {
  within = λ ix w. w;
  cell = λ ix w. +ℤ_idl (offset ix zs);
  apart = λ ix jx w u e. e;
  top = omega (arith, ints);
  bottom = omega (arith, ints);
  paired = l;
  small = omega arith;
}

module _ {ds : List ℕ} {zs : List ℤ} {ns : List ℕ} {ys : List ℤ} {move : ℤ} {back : List ℕ → List ℕ} (c : Cut ds zs ns ys move back) where
  -- one more axis before
  pub cut_more : (d : ℕ) (z : ℤ) (n : ℕ) (y m : ℤ) (index : ℕ → ℕ) (b : List ℕ → List ℕ) → Axis d z n y m index
      → ((j : ℕ) (ix : List ℕ) → b (j ∷ ix) ≡ index j ∷ back ix) → Cut (d ∷ ds) (z ∷ zs) (n ∷ ns) (y ∷ ys) (m +ℤ move) b
  cut_more d z n y m index b a is = record {
    within = within;
    cell = cell;
    apart = apart;
    top = omega (arith, ints, axis_high d z n y m index a, c.top);
    bottom = omega (arith, ints, axis_low d z n y m index a, c.bottom);
    paired = ap suc c.paired;
    small = mul-le-mul (nonzero_le n d a.fewer) c.small;
  }
    where
      within : (ix : List ℕ) → Within ix (n ∷ ns) → Within (b ix) (d ∷ ds)
      within [] w = absurd w
      within (j ∷ ix) w = subst (λ t. Within t (d ∷ ds)) (sym (is j ix)) (a.within j w.0, c.within ix w.1)

      cell : (ix : List ℕ) → Within ix (n ∷ ns) → (m +ℤ move) +ℤ offset ix (y ∷ ys) ≡ offset (b ix) (z ∷ zs)
      cell [] w = absurd w
      cell (j ∷ ix) w =
          add-sums m move (pos j *ℤ y) (offset ix ys) (pos (index j) *ℤ z) (offset (back ix) zs) (a.cell j w.0) (c.cell ix w.1)
          ∙ ap (λ t. offset t (z ∷ zs)) (sym (is j ix))

      apart : (ix jx : List ℕ) → Within ix (n ∷ ns) → Within jx (n ∷ ns) → b ix ≡ b jx → ix ≡ jx
      apart [] jx w u e = absurd w
      apart (i ∷ ix) [] w u e = absurd u
      apart (i ∷ ix) (j ∷ jx) w u e =
          let f : index i ∷ back ix ≡ index j ∷ back jx = sym (is i ix) ∙ e ∙ is j jx in
          let g : index i ≡ index j = cc in
          let h : back ix ≡ back jx = cc in
          let p : i ≡ j = a.apart i j w.0 u.0 g in
          let q : ix ≡ jx = c.apart ix jx w.1 u.1 h in
          cc

  -- one axis before, taken at an index
  pub cut-taken : (d i : ℕ) (z : ℤ) (b : List ℕ → List ℕ) → i < d → ((ix : List ℕ) → b ix ≡ i ∷ back ix) → Cut (d ∷ ds) (z ∷ zs) ns ys (pos i *ℤ z +ℤ move) b
  cut-taken d i z b h is = record {
    within = λ ix w. subst (λ t. Within t (d ∷ ds)) (sym (is ix)) (h, c.within ix w);
    cell = λ ix w. shift (pos i *ℤ z) move (offset ix ys) (offset (back ix) zs) (c.cell ix w) ∙ ap (λ t. offset t (z ∷ zs)) (sym (is ix));
    apart = λ ix jx w u e. let f : i ∷ back ix ≡ i ∷ back jx = sym (is ix) ∙ e ∙ is jx in let g : back ix ≡ back jx = cc in c.apart ix jx w u g;
    top = raise (pos i *ℤ z) move ((d - 1) * plus z) (up ns ys) (up ds zs) (index-high i d z h) c.top;
    bottom = lower (pos i *ℤ z) move ((d - 1) * minus z) (down ns ys) (down ds zs) (index-low i d z h) c.bottom;
    paired = c.paired;
    small = omega (arith, one-mul (nonzeros ns), mul-le-mul (nonzero-pos d) c.small);
  }
    where
      shift : (m k a e : ℤ) → k +ℤ a ≡ e → (m +ℤ k) +ℤ a ≡ m +ℤ e
      shift m k a e p = omega (arith, ints)

      raise : (m k : ℤ) (r a b : ℕ) → m ≤ℤ pos r → (k +ℤ pos a) ≤ℤ pos b → ((m +ℤ k) +ℤ pos a) ≤ℤ pos (r + b)
      raise m k r a b p q = omega (arith, ints)

      lower : (m k : ℤ) (r a b : ℕ) → pos 0 ≤ℤ (m +ℤ pos r) → pos a ≤ℤ (k +ℤ pos b) → pos a ≤ℤ ((m +ℤ k) +ℤ pos (r + b))
      lower m k r a b p q = omega (arith, ints)

  -- a new axis before
  pub cut_new : (b : List ℕ → List ℕ) → ((j : ℕ) (ix : List ℕ) → b (j ∷ ix) ≡ back ix) → Cut ds zs (1 ∷ ns) (pos 0 ∷ ys) move b
  cut_new b is = record {
    within = within;
    cell = cell;
    apart = apart;
    top = omega (arith, ints, c.top);
    bottom = omega (arith, ints, c.bottom);
    paired = ap suc c.paired;
    small = omega (arith, one-mul (nonzeros ns), c.small);
  }
    where
      within : (ix : List ℕ) → Within ix (1 ∷ ns) → Within (b ix) ds
      within [] w = absurd w
      within (j ∷ ix) w = subst (λ t. Within t ds) (sym (is j ix)) (c.within ix w.1)

      cell : (ix : List ℕ) → Within ix (1 ∷ ns) → move +ℤ offset ix (pos 0 ∷ ys) ≡ offset (b ix) zs
      cell [] w = absurd w
      cell (j ∷ ix) w = skip move (offset ix ys) (omega arith) ∙ c.cell ix w.1 ∙ ap (λ t. offset t zs) (sym (is j ix))
        where
          skip : (m a : ℤ) → j * 0 ≡ 0 → m +ℤ (pos (j * 0) +ℤ a) ≡ m +ℤ a
          skip m a e = omega (arith, ints)

      apart : (ix jx : List ℕ) → Within ix (1 ∷ ns) → Within jx (1 ∷ ns) → b ix ≡ b jx → ix ≡ jx
      apart [] jx w u e = absurd w
      apart (i ∷ ix) [] w u e = absurd u
      apart (i ∷ ix) (j ∷ jx) w u e =
          let p : i ≡ j = omega (arith, w.0, u.0) in
          let q : ix ≡ jx = c.apart ix jx w.1 u.1 (sym (is i ix) ∙ e ∙ is j jx) in
          cc
