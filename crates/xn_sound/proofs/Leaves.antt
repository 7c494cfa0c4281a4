-- In a leaf's state a drawing has k crossings.
use Rattle.std.proofs.Common.{◌≡◌, ℕ, zero, suc, ◌*◌, ◌<◌, ◌≤◌, inl, inr, List, [], ◌∷◌, length, refl, sym, ap, subst, arith, mul-le-mul_left}
use Rattle.std.specs.Prelude.{ℤ, pos, ◌-ℤ◌, ◌*ℤ◌, ◌≤ℤ◌, ◌<ℤ◌, filter, All}
use Rattle.std.proofs.lemmas.Bool.{cases_Bool, cases_lt}
use Rattle.std.proofs.lemmas.Int.{ints}
use Rattle.xn_model.specs.Graph.{Graph, edges_of, each_two, independent}
use Rattle.xn_model.specs.Lists.{has, total}
use Rattle.xn_model.specs.Orders.{IsOrders, crossing_count}
use Rattle.xn_kinds.specs.Bound.{part_value, row_at, total_ℤ}
use Rattle.xn_kinds.specs.Row.{Values, value_of, values_in}
use Rattle.xn_kinds.specs.Laws.{ValuesAreInTheBox}
use Rattle.xn_kinds.specs.declared.rows.Row.{Row}
use Rattle.xn_sound.specs.Laws.{LeavesHaveCrossings}

-- the sum of the values of all pairs is the number of crossings
total-crosses : (ends : List (ℕ × ℕ)) (edges : List ℕ) (ord : ℕ → List ℕ) → IsOrders ends edges ord → (ps : List (ℕ × ℕ)) →
    total (λ p. (values_in ord).crosses p.0 p.1) (filter (λ p. independent ends p.0 p.1) ps) ≡ length (filter (λ p. has (ord p.0) p.1) ps)
total-crosses ends edges ord orders [] = refl
total-crosses ends edges ord orders (p ∷ ps) =
    let rest = total-crosses ends edges ord orders ps in
    elim (cases_Bool (has (ord p.0) p.1)) [
      | inl crosses ↦ rw (crosses, orders.independent p.0 p.1 crosses) (rw crosses (omega (arith, rest)))
      | inr misses ↦ elim (cases_Bool (independent ends p.0 p.1)) [
        | inl free ↦ rw (misses, free) (rw misses (omega (arith, rest)))
        | inr bound ↦ rw (misses, bound) rest
      ]
    ]

less_one : (n : ℕ) → (pos (suc n) -ℤ pos 1) ≡ pos n
less_one n = omega (arith, ints)

times_less_one : (m n : ℕ) → (pos m *ℤ (pos (suc n) -ℤ pos 1)) ≡ pos (m * n)
times_less_one m n = ap (λ z. pos m *ℤ z) (less_one n)

-- a row whose value is at least 1 takes nothing away
part_is_positive : (m value : ℕ) → 1 ≤ value → pos 0 ≤ℤ (pos m *ℤ (pos value -ℤ pos 1))
part_is_positive m zero low = absurd (omega arith)
part_is_positive m (suc n) low = let P : ℤ → Type 0 = λ z. pos 0 ≤ℤ z in subst P (sym (times_less_one m n)) (omega (arith, ints))

parts_are_positive : (g : Graph) (rows : List Row) (v : Values) → ((i : ℕ) → i < length rows → 1 ≤ value_of g (row_at rows i) v) →
    (parts : List (ℕ × ℕ)) → All (λ p. p.0 < length rows) parts → pos 0 ≤ℤ total_ℤ (part_value g rows v) parts
parts_are_positive g rows v met [] below = omega (arith, ints)
parts_are_positive g rows v met (p ∷ parts) below =
    let here = part_is_positive p.1 (value_of g (row_at rows p.0) v) (met p.0 (below 0 p (omega arith))) in
    let rest = parts_are_positive g rows v met parts (λ i d i_in. below (suc i) d (omega arith)) in
    omega (arith, ints, here, rest)

-- the arithmetic of a leaf
leaf_numbers : (d k c : ℕ) (b sum : ℤ) → pos 0 ≤ℤ sum → b ≤ℤ ((pos d *ℤ pos c) -ℤ sum) → (pos d *ℤ (pos k -ℤ pos 1)) <ℤ b → k ≤ c
leaf_numbers d zero c b sum positive low above = omega arith
leaf_numbers d (suc k) c b sum positive low above = elim (cases_lt k c) [
  | inl enough ↦ omega arith
  | inr few ↦
      let more : d * c ≤ d * k = mul-le-mul_left d few in
      let P : ℤ → Type 0 = λ z. z <ℤ b in
      let over : pos (d * k) <ℤ b = subst P (times_less_one d k) above in
      let Q : ℤ → Type 0 = λ z. b ≤ℤ (z -ℤ sum) in
      let product : (pos d *ℤ pos c) ≡ pos (d * c) = refl in
      let under : b ≤ℤ (pos (d * c) -ℤ sum) = subst Q product low in
      absurd (omega (arith, ints, positive, under, over, more))
]

pub leaves_have_crossings : ValuesAreInTheBox → LeavesHaveCrossings
leaves_have_crossings values_are_in_the_box g k rows s d parts met keeps ord next drawing lies =
    let v = values_in ord in
    let fits = keeps.2 in
    let strong = keeps.3 in
    let sum : total (λ p. v.crosses p.0 p.1) (filter (λ p. independent g.ends p.0 p.1) (each_two (edges_of g))) ≡ crossing_count g ord =
    total-crosses g.ends (edges_of g) ord drawing.orders (each_two (edges_of g)) in
    let low = strong.1.below_all v (values_are_in_the_box ord s lies) in
    let positive = parts_are_positive g rows v (λ i i_in. met i _ i_in ord next drawing) parts fits.below in
    let P : ℕ → Type 0 = λ n. strong.0 ≤ℤ ((pos d *ℤ pos n) -ℤ total_ℤ (part_value g rows v) parts) in
    leaf_numbers d k (crossing_count g ord) strong.0 _ positive (subst P sum low) strong.2
