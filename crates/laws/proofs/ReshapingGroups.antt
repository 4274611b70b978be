-- Old and new axes group by group: where each group lies in step, a tuple's cell is told by how many come before it.
use Rattle.std.proofs.Common.{◌≡◌, ℕ, suc, ◌+◌, ◌*◌, ◌/◌, ◌%◌, ◌<◌, ◌⊎◌, List, [], ◌∷◌, ◌++◌, reverse, length, ℤ, pos, ◌+ℤ◌, ◌*ℤ◌, sym, refl, ap, ◌∙◌, ap₂, inl, inr, zero-mul, mul-one, arith}
use mathlib.Core.List.{reverse-cons}
use lib.Arith.{digits_div, digits_mod}
use lib.IntN.{zero-*ℤ, +ℤ_idl, +ℤ_assoc}
use Rattle.std.proofs.lemmas.List.{length-append, length-reverse}
use Rattle.std.proofs.lemmas.Int.{ints}
use Rattle.laws.specs.Lengths.{product}
use Rattle.laws.specs.Tuples.{Within, place}
use Rattle.laws.specs.Space.{offset}
use Rattle.laws.specs.Reshaping.{whole, chain}
use Rattle.laws.proofs.Integers.{times_assoc, sum_times, once}
use Rattle.laws.proofs.Tuples.{place_lt}
use Rattle.laws.proofs.ReshapingSizes.{product-append}
use Rattle.laws.proofs.Orders.{place-append}

-- axes that lie in step, the last of stride e: each stride is the product of the later lengths × e, but a length 1 may have any stride
abbrev pub InStep : ℤ → List ℕ → List ℤ → Type 0
InStep e [] [] = Unit {0}
InStep e [] (z ∷ zs) = ⊥
InStep e (l ∷ ls) [] = ⊥
InStep e (l ∷ ls) (z ∷ zs) = ((l ≡ 1) ⊎ (z ≡ pos (product ls) *ℤ e)) × InStep e ls zs

-- old lengths and strides, and new ones, group by group
pub data Groups : List ℕ → List ℤ → List ℕ → List ℤ → Type 0 where
  none : Groups [] [] [] []
  group : {ls : List ℕ} {zs : List ℤ} {ms : List ℕ} {ts : List ℤ} (e : ℤ) (gl : List ℕ) (gz : List ℤ) (gm : List ℕ) (gt : List ℤ)
      → product gl ≡ product gm → InStep e gl gz → InStep e gm gt → Groups ls zs ms ts → Groups (gl ++ ls) (gz ++ zs) (gm ++ ms) (gt ++ ts)

-- ---- one group

-- the strides of a new group
chain-whole : (e : ℤ) (ms : List ℕ) → whole e ms (chain e ms) ≡ pos (product ms) *ℤ e
chain-whole e [] = sym (once e)
chain-whole e (m ∷ ms) = ap (λ (z : ℤ). pos m *ℤ z) (chain-whole e ms) ∙ sym (times_assoc (pos m) (pos (product ms)) e)

pub chain_in_step : (e : ℤ) (ms : List ℕ) → InStep e ms (chain e ms)
chain_in_step e [] = tt
chain_in_step e (m ∷ ms) = (inr (chain-whole e ms), chain_in_step e ms)

-- one more axis at the end, in step with the others
pub in_step_more : (e y : ℤ) (n : ℕ) (ls : List ℕ) (zs : List ℤ) → e ≡ pos n *ℤ y → InStep e ls zs → InStep y (ls ++ n ∷ []) (zs ++ y ∷ [])
in_step_more e y n [] [] h c = (inr (sym (once y)), tt)
in_step_more e y n [] (z ∷ zs) h c = absurd c
in_step_more e y n (l ∷ ls) [] h c = absurd c
in_step_more e y n (l ∷ ls) (z ∷ zs) h c = (axis c.0, in_step_more e y n ls zs h c.1)
  where
    axis : (l ≡ 1) ⊎ (z ≡ pos (product ls) *ℤ e) → (l ≡ 1) ⊎ (z ≡ pos (product (ls ++ n ∷ [])) *ℤ y)
    axis (inl one) = inl one
    axis (inr f) = inr (f ∙ rw (product-append ls (n ∷ []), mul-one n, h) (sym (times_assoc (pos (product ls)) (pos n) y)))

-- one of length 1, of any stride
pub in_step_one : (e y : ℤ) (ls : List ℕ) (zs : List ℤ) → InStep e ls zs → InStep e (ls ++ 1 ∷ []) (zs ++ y ∷ [])
in_step_one e y [] [] c = (inl refl, tt)
in_step_one e y [] (z ∷ zs) c = absurd c
in_step_one e y (l ∷ ls) [] c = absurd c
in_step_one e y (l ∷ ls) (z ∷ zs) c = (axis c.0, in_step_one e y ls zs c.1)
  where
    axis : (l ≡ 1) ⊎ (z ≡ pos (product ls) *ℤ e) → (l ≡ 1) ⊎ (z ≡ pos (product (ls ++ 1 ∷ [])) *ℤ e)
    axis (inl one) = inl one
    axis (inr f) = inr (rw (product-append ls (1 ∷ []), mul-one (product ls)) f)

in_step_length : (e : ℤ) (ls : List ℕ) (zs : List ℤ) → InStep e ls zs → length zs ≡ length ls
in_step_length e [] [] c = refl
in_step_length e [] (z ∷ zs) c = absurd c
in_step_length e (l ∷ ls) [] c = absurd c
in_step_length e (l ∷ ls) (z ∷ zs) c = ap suc (in_step_length e ls zs c.1)

-- the cell of a tuple: as many strides e as tuples come before it
in_step_offset : (e : ℤ) (ls : List ℕ) (zs : List ℤ) (ix : List ℕ) → InStep e ls zs → Within ix ls → offset ix zs ≡ pos (place ix ls) *ℤ e
in_step_offset e [] [] [] c w = sym (zero-*ℤ e)
in_step_offset e [] [] (i ∷ ix) c w = absurd w
in_step_offset e [] (z ∷ zs) ix c w = absurd c
in_step_offset e (l ∷ ls) [] ix c w = absurd c
in_step_offset e (l ∷ ls) (z ∷ zs) [] c w = absurd w
in_step_offset e (l ∷ ls) (z ∷ zs) (i ∷ ix) c w =
    ap₂ ◌+ℤ◌ (axis c.0) (in_step_offset e ls zs ix c.1 w.1) ∙ sym (sum_times (pos (i * product ls)) (pos (place ix ls)) e)
  where
    axis : (l ≡ 1) ⊎ (z ≡ pos (product ls) *ℤ e) → pos i *ℤ z ≡ pos (i * product ls) *ℤ e
    axis (inl one) = let first : i ≡ 0 = omega (arith, w.0) in rw (first, zero-mul (product ls), zero-*ℤ z) (sym (zero-*ℤ e))
    axis (inr f) = ap (λ (y : ℤ). pos i *ℤ y) f ∙ sym (times_assoc (pos i) (pos (product ls)) e)

-- ---- groups in a row

split : (ks ls ix : List ℕ) → Within ix (ks ++ ls) → (jx : List ℕ) × (kx : List ℕ) × (ix ≡ jx ++ kx) × Within jx ks × Within kx ls
split [] ls ix w = ([], ix, refl, tt, w)
split (k ∷ ks) ls [] w = absurd w
split (k ∷ ks) ls (i ∷ ix) w =
    let r = split ks ls ix w.1 in
    (i ∷ r.0, r.1, ap (λ (t : List ℕ). i ∷ t) r.2, (w.0, r.3), r.4)

offset-append : (e : ℤ) (ks ix jx : List ℕ) (zs ys : List ℤ) → InStep e ks zs → Within ix ks → offset (ix ++ jx) (zs ++ ys) ≡ offset ix zs +ℤ offset jx ys
offset-append e [] [] jx [] ys c w = sym (+ℤ_idl (offset jx ys))
offset-append e [] (i ∷ ix) jx [] ys c w = absurd w
offset-append e [] ix jx (z ∷ zs) ys c w = absurd c
offset-append e (k ∷ ks) ix jx [] ys c w = absurd c
offset-append e (k ∷ ks) [] jx (z ∷ zs) ys c w = absurd w
offset-append e (k ∷ ks) (i ∷ ix) jx (z ∷ zs) ys c w =
    ap (λ (o : ℤ). pos i *ℤ z +ℤ o) (offset-append e ks ix jx zs ys c.1 w.1) ∙ sym (+ℤ_assoc (pos i *ℤ z) (offset ix zs) (offset jx ys))

same-product : {ls : List ℕ} {zs : List ℤ} {ms : List ℕ} {ts : List ℤ} → Groups ls zs ms ts → product ls ≡ product ms
same-product none = refl
same-product (group {ls = ls} {ms = ms} e gl gz gm gt eq c d g) = product-append gl ls ∙ ap₂ ◌*◌ eq (same-product g) ∙ sym (product-append gm ms)

-- as many strides as lengths
pub groups_length : {ls : List ℕ} {zs : List ℤ} {ms : List ℕ} {ts : List ℤ} → Groups ls zs ms ts → length ts ≡ length ms
groups_length none = refl
groups_length (group {ms = ms} {ts = ts} e gl gz gm gt eq c d g) =
    length-append gt ts ∙ ap₂ ◌+◌ (in_step_length e gm gt d) (groups_length g) ∙ sym (length-append gm ms)

-- an old and a new tuple with as many before them have one cell
pub groups_offset : {ls : List ℕ} {zs : List ℤ} {ms : List ℕ} {ts : List ℤ} → Groups ls zs ms ts → (ix jx : List ℕ)
    → Within ix ls → Within jx ms → place ix ls ≡ place jx ms → offset ix zs ≡ offset jx ts
groups_offset none [] [] v w e = refl
groups_offset none [] (j ∷ jx) v w e = absurd w
groups_offset none (i ∷ ix) jx v w e = absurd v
groups_offset (group {ls = ls} {zs = zs} {ms = ms} {ts = ts} x gl gz gm gt eq c d g) ix jx v w e =
    let r = split gl ls ix v in
    let q = split gm ms jx w in
    let n : product ls ≡ product ms = same-product g in
    let p : place r.0 gl * product ms + place r.1 ls ≡ place q.0 gm * product ms + place q.1 ms =
    rw n at (sym (place-append r.0 r.1 gl ls r.3) ∙ rw (r.2, q.2) at e ∙ place-append q.0 q.1 gm ms q.3) in
    let b : place r.1 ls < product ms = rw n at (place_lt r.1 ls r.4) in
    let b' : place q.1 ms < product ms = place_lt q.1 ms q.4 in
    let first : place r.0 gl ≡ place q.0 gm = sym (digits_div (place r.0 gl) b) ∙ ap (λ (k : ℕ). k / product ms) p ∙ digits_div (place q.0 gm) b' in
    let rest : place r.1 ls ≡ place q.1 ms = sym (digits_mod (place r.0 gl) b) ∙ ap (λ (k : ℕ). k % product ms) p ∙ digits_mod (place q.0 gm) b' in
    rw (r.2, q.2) (offset-append x gl r.0 r.1 gz zs c r.3
    ∙ ap₂ ◌+ℤ◌ (in_step_offset x gl gz r.0 c r.3 ∙ rw first (sym (in_step_offset x gm gt q.0 d q.3))) (groups_offset g r.1 q.1 r.4 q.4 rest)
    ∙ sym (offset-append x gm q.0 q.1 gt ts d q.3))

-- ---- the sum of index × stride over the lists reversed

offset_push : (ix : List ℕ) (zs : List ℤ) (i : ℕ) (z : ℤ) → length ix ≡ length zs → offset (ix ++ i ∷ []) (zs ++ z ∷ []) ≡ pos i *ℤ z +ℤ offset ix zs
offset_push [] [] i z e = refl
offset_push [] (y ∷ ys) i z e = absurd (omega arith)
offset_push (j ∷ jx) [] i z e = absurd (omega arith)
offset_push (j ∷ jx) (y ∷ ys) i z e = rw (offset_push jx ys i z (omega arith)) (swap (pos j *ℤ y) (pos i *ℤ z) (offset jx ys))
  where
    swap : (a b c : ℤ) → a +ℤ (b +ℤ c) ≡ b +ℤ (a +ℤ c)
    swap a b c = omega (arith, ints)

pub offset-reverse : (ix : List ℕ) (zs : List ℤ) → length ix ≡ length zs → offset (reverse ix) (reverse zs) ≡ offset ix zs
offset-reverse [] [] e = refl
offset-reverse [] (z ∷ zs) e = absurd (omega arith)
offset-reverse (i ∷ ix) [] e = absurd (omega arith)
offset-reverse (i ∷ ix) (z ∷ zs) e =
    rw (reverse-cons i ix, reverse-cons z zs) (offset_push (reverse ix) (reverse zs) i z (omega (arith, length-reverse ix, length-reverse zs))
    ∙ ap (λ (o : ℤ). pos i *ℤ z +ℤ o) (offset-reverse ix zs (omega arith)))
