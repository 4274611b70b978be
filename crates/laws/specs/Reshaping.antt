-- Reshaping: other lengths over the same cells, the tuples counted in an order.
use Rattle.std.specs.Prelude.{◌≡◌, ℕ, zero, suc, ◌+◌, ◌-◌, ◌*◌, ◌/◌, ◌%◌, ◌<◌, ◌≤◌, cond, not, List, [], ◌∷◌, ◌++◌, reverse, length, take, drop, replicate, ℤ, pos, ◌*ℤ◌, Some, None, Ok, Err, Option, Result, ◌==◌, nat_lt, slice_index, slice_index_or, unsigned_abs}
use Rattle.laws.specs.Lengths.{product, nonzeros}
use Rattle.laws.specs.Tuples.{place}
use Rattle.laws.specs.Space.{Seen}
use Rattle.laws.specs.Faults.{Fault, in_rows, refuse, unless}
use Rattle.laws.specs.Opening.{most, limit}
use Rattle.laws.specs.Merging.{same_stride}

-- ---- the order in which tuples are counted

-- the last axis varies fastest, or the first
pub data Order : Type 0 where
  RowMajor : Order
  ColumnMajor : Order

-- how many tuples within the lengths come before this one, the first axis fastest
abbrev pub column_place : List ℕ → List ℕ → ℕ
column_place [] ns = 0
column_place (i ∷ ix) [] = 0
column_place (i ∷ ix) (n ∷ ns) = i + n * column_place ix ns

-- how many come before it in an order
abbrev pub count_before : Order → List ℕ → List ℕ → ℕ
count_before RowMajor ix ns = place ix ns
count_before ColumnMajor ix ns = column_place ix ns

-- the tuple with k before it
abbrev pub row_tuple : List ℕ → ℕ → List ℕ
row_tuple [] k = []
row_tuple (n ∷ ns) k = k / product ns ∷ row_tuple ns (k % product ns)

abbrev pub column_tuple : List ℕ → ℕ → List ℕ
column_tuple [] k = []
column_tuple (n ∷ ns) k = k % n ∷ column_tuple ns (k / n)

abbrev pub tuple_at : Order → List ℕ → ℕ → List ℕ
tuple_at RowMajor ns k = row_tuple ns k
tuple_at ColumnMajor ns k = column_tuple ns k

-- ---- groups of axes of one product

-- the stride to which the next axis of an old group is held: a length 1 is left out, and of any other axis length and stride multiplied must give the stride before
abbrev pub linked : ℕ → ℤ → ℤ → Option ℤ
linked l s t = cond (l == 1) (Some s) (cond (same_stride s (pos l *ℤ t)) (Some t) None)

abbrev pub only_with : Option ℤ → (ℤ → Option (ℕ × ℕ × ℤ)) → Option (ℕ × ℕ × ℤ)
only_with None f = None
only_with (Some s) f = f s

-- A group of a old axes and b new ones, of products p and q, grows by one axis on the side of the smaller product until the products are equal.
-- s is the stride of its last old axis longer than 1. The answer is how many old and new axes the group has, and its last old stride.
-- n is above the number of axes left.
unfoldable pub closing : List ℕ → List ℤ → List ℕ → ℕ → ℕ → ℕ → ℕ → ℕ → ℤ → Option (ℕ × ℕ × ℤ)
closing ls zs ms zero a b p q s = None
closing ls zs ms (suc n) a b p q s =
    cond (p == q)
    (Some (a, b, s))
    (cond (nat_lt p q)
    (only_with (linked (slice_index ls a) s (slice_index_or zs a (pos 0))) (λ t. closing ls zs ms n (a + 1) b (p * slice_index ls a) q t))
    (closing ls zs ms n a (b + 1) p (q * slice_index ms b) s))

-- the shortest group that begins at the first axes
abbrev pub group : List ℕ → List ℤ → List ℕ → Option (ℕ × ℕ × ℤ)
group ls zs ms = closing ls zs ms (length ls + length ms) 1 1 (slice_index ls 0) (slice_index ms 0) (slice_index_or zs 0 (pos 0))

-- the stride that an axis in step has before these, whose last has stride e: one step is as far as a whole run of the first of them
abbrev pub whole : ℤ → List ℕ → List ℤ → ℤ
whole e [] zs = e
whole e (l ∷ ls) [] = e
whole e (l ∷ ls) (z ∷ zs) = pos l *ℤ z

-- the strides of a new group, from the last, which is e, backwards: one step along an axis is as far as a whole run of the axis behind it
abbrev pub chain : ℤ → List ℕ → List ℤ
chain e [] = []
chain e (m ∷ ms) = whole e ms (chain e ms) ∷ chain e ms

-- ---- the strides of the new lengths, where the sizes are equal and not 0

abbrev pub put : List ℤ → Result (List ℤ) Fault → Result (List ℤ) Fault
put xs (Ok ys) = Ok (xs ++ ys)
put xs (Err f) = Err f

-- 2 where there is no group
abbrev pub grouped : Option (ℕ × ℕ × ℤ) → (ℕ × ℕ × ℤ → Result (List ℤ) Fault) → Result (List ℤ) Fault
grouped None f = Err (in_rows 2)
grouped (Some g) f = f g

-- Between groups an old and a new length 1 are paired, an old one alone is passed over, and a new one alone gets stride 1; else a group begins.
-- Where one list ends, only lengths 1 are left of the other. n is at least the number of axes left.
unfoldable pub walk : ℕ → List ℕ → List ℤ → List ℕ → Result (List ℤ) Fault
walk zero ls zs ms = Ok []
walk (suc n) [] zs [] = Ok []
walk (suc n) [] zs (m ∷ ms) = put (pos 1 ∷ []) (walk n [] zs ms)
walk (suc n) (l ∷ ls) [] ms = Err (in_rows 2)
walk (suc n) (l ∷ ls) (z ∷ zs) [] = walk n ls zs []
walk (suc n) (l ∷ ls) (z ∷ zs) (m ∷ ms) =
    cond (l == 1)
    (cond (m == 1) (put (z ∷ []) (walk n ls zs ms)) (walk n ls zs (m ∷ ms)))
    (cond (m == 1)
    (put (pos 1 ∷ []) (walk n (l ∷ ls) (z ∷ zs) ms))
    (grouped (group (l ∷ ls) (z ∷ zs) (m ∷ ms)) (λ g.
    put (chain g.2 (take g.1 (m ∷ ms))) (walk n (drop g.0 (l ∷ ls)) (drop g.0 (z ∷ zs)) (drop g.1 (m ∷ ms))))))

unfoldable pub regrouped : List ℕ → List ℤ → List ℕ → Result (List ℤ) Fault
regrouped ls zs ms = walk (length ls + length ms) ls zs ms

abbrev pub backward : Result (List ℤ) Fault → Result (List ℤ) Fault
backward (Ok ts) = Ok (reverse ts)
backward (Err f) = Err f

-- column-major is the same over the lists reversed
abbrev pub regrouped_in : Order → List ℕ → List ℤ → List ℕ → Result (List ℤ) Fault
regrouped_in RowMajor ls zs ms = regrouped ls zs ms
regrouped_in ColumnMajor ls zs ms = backward (regrouped (reverse ls) (reverse zs) (reverse ms))

-- ---- what reshaping answers, and the grid after it

-- the new strides: 11 where the new lengths are more than a row has, 6 and 12 for their product, 1 for another size,
-- all 0 where there are no cells, else 2 where the groups do not allow it
abbrev pub restrided : Order → List ℕ → List ℤ → List ℕ → Result (List ℤ) Fault
restrided o ls zs ms =
    refuse (nat_lt 8 (length ms)) (in_rows 11)
    (refuse (nat_lt most (nonzeros ms)) (in_rows 6)
    (refuse (nat_lt limit (nonzeros ms)) (in_rows 12)
    (refuse (not (product ms == product ls)) (in_rows 1)
    (cond (product ms == 0) (Ok (replicate (length ms) (pos 0))) (regrouped_in o ls zs ms)))))

abbrev pub refusal_of : {A : Type 0} → Result A Fault → Option Fault
refusal_of (Ok x) = None
refusal_of (Err f) = Some f

abbrev pub strides_of : Result (List ℤ) Fault → List ℤ
strides_of (Ok ts) = ts
strides_of (Err f) = []

-- why the grid cannot be given these lengths, if it cannot
abbrev pub reshape_fault : Order → List ℕ → Seen → Option Fault
reshape_fault o ms s = refusal_of (restrided o s.lens s.strides ms)

-- the grid with these lengths
abbrev pub reshaped : Order → List ℕ → Seen → Seen
reshaped o ms s = record {
  cells = s.cells;
  start = s.start;
  lens = ms;
  strides = strides_of (restrided o s.lens s.strides ms);
}

-- what reshaping answers
abbrev pub reshaping : Order → List ℕ → Seen → Result Seen Fault
reshaping o ms s = unless (reshape_fault o ms s) (reshaped o ms s)

-- the tuple of the old lengths that has the same number in the order
abbrev pub reshaped_back : Order → List ℕ → List ℕ → List ℕ → List ℕ
reshaped_back o ms ds t = tuple_at o ds (count_before o t ms)

-- ---- what a grid gives

-- each length is above 0
abbrev pub Positive : List ℕ → Type 0
Positive [] = Unit {0}
Positive (l ∷ ls) = (0 < l) × Positive ls

-- (length − 1) × magnitude is at most 1048576 on each axis
abbrev pub Near : List ℕ → List ℤ → Type 0
Near [] [] = Unit {0}
Near [] (z ∷ zs) = ⊥
Near (l ∷ ls) [] = ⊥
Near (l ∷ ls) (z ∷ zs) = ((l - 1) * unsigned_abs z ≤ 1048576) × Near ls zs

-- lengths and strides of a grid with cells, and new lengths of the same size
pub record Ready (ls : List ℕ) (zs : List ℤ) (ms : List ℕ) : Type 0 where
  pub olds : Positive ls
  pub news : Positive ms
  pub near : Near ls zs
  pub same : product ls ≡ product ms
  pub small : product ls ≤ 1048576
