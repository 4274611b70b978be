-- Filling a grid's cells tuple by tuple, and reading the cell of a tuple.
use Rattle.std.proofs.Common.{◌≡◌, ℕ, zero, suc, ◌+◌, ◌<◌, false, cond, eqb, ◌≢◌, ◌⊎◌, List, [], ◌∷◌, length, get_or, set, ℤ, pos, negsuc, ◌+ℤ◌, ◌-ℤ◌, ◌*ℤ◌, Some, None, Decides, Option, sym, refl, ap, ◌∙◌, subst, inl, inr, arith, MatchOption}
use Rattle.std.specs.List.{slice_get}
use Rattle.std.proofs.lemmas.List.{length-set, get_or-set_same, get_or-set_other, get_or_past, same_lists}
use Rattle.std.proofs.lemmas.Int.{ints}
use Rattle.std.proofs.lemmas.Bool.{cases_eq, cases_lt, cases_Bool, cond-true, cond-false, eq-eqb, ne_eqb, not-true, both_ways}
use Rattle.std.proofs.lemmas.Bool.Decides.{Decides-eqb, Decides-like, Decides-not, Decides-below_or, not_from_Decides}
use Rattle.laws.specs.Lengths.{product, some_below}
use Rattle.laws.specs.Tuples.{Within, is_within, place}
use Rattle.laws.specs.Space.{Seen, Sound, offset, cell}
use Rattle.laws.specs.Filling.{Reaches, Lies, is_zero, sums, reaches, filled_from, filled, Filled, numbered, cell_at, held, reading, Read}
use Rattle.laws.proofs.Tuples.{place_lt, place_inj, is_within_lem, within_is}
use Rattle.laws.proofs.Cells.{cell-number, cell_below}

-- ---- which cells a tuple reaches

zero_decides : (t : ℤ) → Decides (is_zero t) (pos 0 ≡ t)
zero_decides (pos k) = Decides-like (eqb k 0) (λ e. ap pos (sym e)) (λ e. cc) (Decides-eqb k 0)
zero_decides (negsuc k) = (λ e. absurd (both_ways false refl e), λ e. let z : ◌≡◌ {A = ℕ} 0 1 = cc in absurd (omega arith))

move_over : (a b t : ℤ) → b ≡ t -ℤ a → a +ℤ b ≡ t
move_over a b t e = omega (arith, ints, e)

move_back : (a b t : ℤ) → a +ℤ b ≡ t → b ≡ t -ℤ a
move_back a b t e = omega (arith, ints, e)

-- some tuple within the lengths has this sum of index × stride
abbrev pub Sums : List ℕ → List ℤ → ℤ → Type 0
Sums ls zs t = (ix : List ℕ) × Within ix ls × (offset ix zs ≡ t)

no_axes : (zs : List ℤ) (t : ℤ) → Sums [] zs t → pos 0 ≡ t
no_axes zs t ([], w, e) = e
no_axes zs t (i ∷ ix, w, e) = absurd w

first_axis : (n : ℕ) (ls : List ℕ) (z : ℤ) (zs : List ℤ) (t : ℤ) → Sums (n ∷ ls) (z ∷ zs) t → (i : ℕ) × (i < n) × Sums ls zs (t -ℤ pos i *ℤ z)
first_axis n ls z zs t ([], w, e) = absurd w
first_axis n ls z zs t (i ∷ ix, w, e) = (i, w.0, (ix, w.1, move_back (pos i *ℤ z) (offset ix zs) t e))

pub sums_decides : (ls : List ℕ) (zs : List ℤ) (t : ℤ) → length ls ≡ length zs → Decides (sums ls zs t) (Sums ls zs t)
sums_decides [] zs t l = Decides-like (is_zero t) (λ e. ([], tt, e)) (no_axes zs t) (zero_decides t)
sums_decides (n ∷ ls) [] t l = absurd (omega arith)
sums_decides (n ∷ ls) (z ∷ zs) t l =
    let left : ℕ → ℤ = λ i. t -ℤ pos i *ℤ z in
    Decides-like (sums (n ∷ ls) (z ∷ zs) t) (λ (i, h, (ix, w, e)). (i ∷ ix, (h, w), move_over (pos i *ℤ z) (offset ix zs) t e)) (first_axis n ls z zs t)
    (Decides-below_or (λ i. sums ls zs (left i)) (λ i. Sums ls zs (left i)) (λ m. some_below m (λ i. sums ls zs (left i))) (λ i. sums_decides ls zs (left i) (omega arith)) refl (λ _. refl) n)

pub lies-reaches : (s : Seen) (k : ℕ) → length s.lens ≡ length s.strides → Decides (reaches s k) (Lies s k)
lies-reaches s k l =
    Decides-like (reaches s k)
    (λ (ix, w, e). (ix, record { within = w; here = move_over s.start (offset ix s.strides) (pos k) e }))
    (λ (ix, r). (ix, r.within, move_back s.start (offset ix s.strides) (pos k) r.here))
    (sums_decides s.lens s.strides (pos k -ℤ s.start) l)

pub lies_cases : (s : Seen) (k : ℕ) → length s.lens ≡ length s.strides → Lies s k ⊎ (Lies s k → ⊥)
lies_cases s k l =
    elim (cases_Bool (reaches s k)) [ inl e ↦ inl ((lies-reaches s k l).0 e) | inr e ↦ inr (not_from_Decides (reaches s k) (lies-reaches s k l) e) ]

-- ---- filling, tuple by tuple

-- the first n tuples are filled
pub record Upto {X : Type 0} (s : Seen) (value : X) (n : ℕ) (old new : List X) : Type 0 where
  pub long : length new ≡ length old
  pub hit : (ix : List ℕ) (k : ℕ) (d : X) → Reaches s ix k → place ix s.lens < n → get_or new k d ≡ value
  pub miss : (k : ℕ) (d : X) → (Lies s k → ⊥) → get_or new k d ≡ get_or old k d

one_cell : (s : Seen) (ix jx : List ℕ) (k m : ℕ) → Reaches s ix k → Reaches s jx m → place jx s.lens ≡ place ix s.lens → m ≡ k
one_cell s ix jx k m r q e =
    let same : jx ≡ ix = place_inj jx ix s.lens q.within r.within e in
    let at : pos m ≡ pos k = sym q.here ∙ ap (cell s) same ∙ r.here in
    cc

module _ {X : Type 0} (s : Seen) (value : X) where
  pub upto_more : (old new : List X) (ix : List ℕ) (k : ℕ) → Sound s → length old ≡ s.cells → Reaches s ix k
      → Upto s value (place ix s.lens) old new → Upto s value (place ix s.lens + 1) old (set new k value)
  upto_more old new ix k sound l r u =
      let ls = s.lens in
      let within = cell_below s sound ix k r.within r.here in
      let long = u.long in
      let here : k < length new = omega arith in
      record {
        long = length-set new k value ∙ long;
        hit = λ jx m d q lt.
            elim (cases_eq m k) [
              | inl e ↦ ap (λ j. get_or (set new k value) j d) e ∙ get_or-set_same new k value d here
              | inr ne ↦ get_or-set_other new k m value d ne ∙ u.hit jx m d q (let apart : place jx ls ≢ place ix ls = λ e. ne (one_cell s ix jx k m r q e) in omega arith)
            ];
        miss = λ m d never.
            let ne : m ≢ k = λ e. never (ix, subst (λ j. Reaches s ix j) (sym e) r) in
            get_or-set_other new k m value d ne ∙ u.miss m d never;
      }

  pub upto_all : (old new : List X) → Upto s value (product s.lens) old new → Filled s value old new
  upto_all old new u = record {
    long = u.long;
    hit = λ k d h (ix, r). u.hit ix k d r (place_lt ix s.lens r.within);
    miss = u.miss;
  }

  -- a loop over the tuples, whose next one is still to fill
  abbrev pub Going : {D : Type 0} → (D → List ℕ) → List X → List X → Option D → Type 0
  Going words old new None = Upto s value (product s.lens) old new
  Going words old new (Some index) = Within (words index) s.lens × Upto s value (place (words index) s.lens) old new

  pub going_more : {D : Type 0} (words : D → List ℕ) (old new : List X) (r : Option D) (n : ℕ) → Upto s value (n + 1) old new
      → MatchOption r (n + 1 ≡ product s.lens) (λ index. Within (words index) s.lens × (place (words index) s.lens ≡ n + 1)) → Going words old new r
  going_more words old new None n u e = subst (λ m. Upto s value m old new) e u
  going_more words old new (Some index) n u (w, e) = (w, subst (λ m. Upto s value m old new) (sym e) u)

-- ---- the cells after filling

module _ {X : Type 0} (s : Seen) (v : X) where
  filled-long : (k : ℕ) (xs : List X) → length (filled_from s v k xs) ≡ length xs
  filled-long k [] = refl
  filled-long k (x ∷ xs) = ap suc (filled-long (suc k) xs)

  filled_from_lem : (k j : ℕ) (xs : List X) (d : X) → j < length xs → get_or (filled_from s v k xs) j d ≡ cond (reaches s (k + j)) v (get_or xs j d)
  filled_from_lem k j [] d h = absurd (omega arith)
  filled_from_lem k zero (x ∷ xs) d h = let e : k ≡ k + 0 = omega arith in ap (λ m. cond (reaches s m) v x) e
  filled_from_lem k (suc j) (x ∷ xs) d h =
      let e : suc k + j ≡ k + suc j = omega arith in
      filled_from_lem (suc k) j xs d (omega arith) ∙ ap (λ m. cond (reaches s m) v (get_or xs j d)) e

  pub filled-refused : (xs : List X) → length xs ≢ s.cells → filled s v xs ≡ xs
  filled-refused xs ne = cond-false (eqb (length xs) s.cells) (filled_from s v 0 xs) xs (ne_eqb (length xs) s.cells ne)

  module _ (xs : List X) (sound : Sound s) (l : length xs ≡ s.cells) where
    whole : filled s v xs ≡ filled_from s v 0 xs
    whole = cond-true (eqb (length xs) s.cells) (filled_from s v 0 xs) xs (eq-eqb (length xs) s.cells l)

    filled_at : (k : ℕ) (d : X) → k < length xs → get_or (filled s v xs) k d ≡ cond (reaches s k) v (get_or xs k d)
    filled_at k d h =
        let z : 0 + k ≡ k = omega arith in
        ap (λ (ys : List X). get_or ys k d) whole ∙ filled_from_lem 0 k xs d h ∙ ap (λ m. cond (reaches s m) v (get_or xs k d)) z

    pub fills : Filled s v xs (filled s v xs)
    fills =
        let long : length (filled s v xs) ≡ length xs = ap length whole ∙ filled-long 0 xs in
        record {
          long = long;
          hit = λ k d h there. filled_at k d h ∙ cond-true (reaches s k) v (get_or xs k d) ((lies-reaches s k sound.paired).1 there);
          miss = λ k d never.
              elim (cases_lt k (length xs)) [
                | inl h ↦ filled_at k d h ∙ cond-false (reaches s k) v (get_or xs k d) (not-true (reaches s k) ((Decides-not (reaches s k) (lies-reaches s k sound.paired)).1 never))
                | inr h ↦ get_or_past (filled s v xs) k d (omega arith) ∙ sym (get_or_past xs k d h)
              ];
        }

  same_cell : (old new other : List X) → length s.lens ≡ length s.strides → Filled s v old new → Filled s v old other → (k : ℕ) (d : X) → k < length old → get_or new k d ≡ get_or other k d
  same_cell old new other l f g k d h =
      elim (lies_cases s k l) [
        | inl there ↦ f.hit k d h there ∙ sym (g.hit k d h there)
        | inr never ↦ f.miss k d never ∙ sym (g.miss k d never)
      ]

  pub filled_is : (old new : List X) → Sound s → length old ≡ s.cells → Filled s v old new → new ≡ filled s v old
  filled_is old new sound l f =
      let g = fills old sound l in
      same_lists new (filled s v old) (f.long ∙ sym g.long) (λ k d h. same_cell old new (filled s v old) sound.paired f g k d (omega (arith, f.long)))

-- ---- reading

module _ (s : Seen) (ix : List ℕ) where
  pub cell_at_within : (k : ℕ) → Within ix s.lens → cell s ix ≡ pos k → cell_at s ix ≡ Some k
  cell_at_within k w e = cond-true (is_within ix s.lens) (numbered (cell s ix)) None (within_is ix s.lens w) ∙ ap numbered e

  pub cell_at_outside : (Within ix s.lens → ⊥) → cell_at s ix ≡ None
  cell_at_outside never =
      elim (cases_Bool (is_within ix s.lens)) [
        | inl e ↦ absurd (never (is_within_lem ix s.lens e))
        | inr e ↦ cond-false (is_within ix s.lens) (numbered (cell s ix)) None e
      ]

numbered-some : (z : ℤ) (k : ℕ) → numbered z ≡ Some k → z ≡ pos k
numbered-some (pos j) k e = cc
numbered-some (negsuc j) k e = let z : ◌≡◌ {A = ℕ} 0 1 = cc in absurd (omega arith)

pub cell_at_some : (s : Seen) (ix : List ℕ) (k : ℕ) → cell_at s ix ≡ Some k → Reaches s ix k
cell_at_some s ix k e =
    elim (cases_Bool (is_within ix s.lens)) [
      | inl t ↦ record { within = is_within_lem ix s.lens t; here = numbered-some (cell s ix) k (sym (cond-true (is_within ix s.lens) (numbered (cell s ix)) None t) ∙ e) }
      | inr f ↦ let g = cond-false (is_within ix s.lens) (numbered (cell s ix)) None f in let z : ◌≡◌ {A = ℕ} 0 1 = cc in absurd (omega arith)
    ]

nth-some : {X : Type 0} (xs : List X) (k : ℕ) → k < length xs → (v : X) × (slice_get xs k ≡ Some v) × ((d : X) → v ≡ get_or xs k d)
nth-some [] k h = absurd (omega arith)
nth-some (x ∷ xs) zero h = (x, refl, λ d. refl)
nth-some (x ∷ xs) (suc k) h = nth-some xs k (omega arith)

module _ {X : Type 0} (s : Seen) (xs : List X) (sound : Sound s) (l : length xs ≡ s.cells) (ix : List ℕ) where
  pub reading-some : Within ix s.lens → (k : ℕ) × Reaches s ix k × (k < length xs) × (reading s xs ix ≡ slice_get xs k)
  reading-some w =
      let c = cell-number s sound ix w in
      let few = c.1 in
      (c.0, record { within = w; here = c.2 }, omega arith, ap (held xs) (cell_at_within s ix c.0 w c.2))

  pub read_is : Read s xs ix (reading s xs ix)
  read_is =
      elim (cases_Bool (is_within ix s.lens)) [
        | inl e ↦
            let r = reading-some (is_within_lem ix s.lens e) in
            let n = nth-some xs r.0 r.2 in
            subst (Read s xs ix) (sym (r.3 ∙ n.1)) (r.0, r.1, r.2, n.2)
        | inr e ↦
            let never : Within ix s.lens → ⊥ = λ w. both_ways (is_within ix s.lens) e (within_is ix s.lens w) in
            subst (Read s xs ix) (sym (ap (held xs) (cell_at_outside s ix never))) never
      ]
