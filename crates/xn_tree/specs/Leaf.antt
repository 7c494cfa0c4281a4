-- The value of a leaf, sorted by its variables: the pairs, and the orders.
use Rattle.std.specs.Prelude.{◌≡◌, ℕ, ◌+◌, ◌-◌, ◌*◌, ◌<◌, ◌≤◌, ◌^◌, ◌&&◌, ◌==◌, Bool, ℤ, pos, ◌+ℤ◌, ◌-ℤ◌, ◌≤ℤ◌, List, [], ◌∷◌, length, max, min, take, All, if◌then◌else◌}
use Rattle.std.specs.List.{list_any, range_with_len}
use Rattle.xn_model.specs.Graph.{Graph, independent}
use Rattle.xn_model.specs.Lists.{has, neighbours, total}
use Rattle.xn_model.specs.Orders.{IsOrders}
use Rattle.xn_kinds.specs.Bound.{row_at, total_ℤ}
use Rattle.xn_kinds.specs.Row.{Values, literal, orders_of, turns_value}
use Rattle.xn_kinds.specs.State.{State}
use Rattle.xn_kinds.specs.declared.rows.Row.{Row}
use Rattle.xn_tree.specs.Given.{state_of}
use Rattle.xn_tree.specs.Least.{IsLesser, Moves, Weighs, order_given, with_before, with_cross}
use Rattle.xn_tree.specs.declared.leaves.Leaf.{Leaf}

-- the row has a list for each of its edges, and these are orders over edges of the graph
pub record IsRowOf (g : Graph) (row : Row) : Type 0 where
  pub lists_fit : length row.orders ≡ length row.edges
  pub orders : IsOrders g.ends row.edges (orders_of row)

-- the state is one of the graph, which has at most 1,000 edges; there are at most 2^20 parts, each with a row of the graph
pub record IsLeaf (leaf : Leaf) : Type 0 where
  pub graph : leaf.given.now.graph ≡ leaf.graph.now
  pub few_edges : length leaf.graph.now.ends ≤ 1000
  pub few : length leaf.parts.now ≤ 2 ^ 20
  pub are_rows : All (λ p. p.0 < length leaf.rows.now) leaf.parts.now
  pub rows : All (λ p. IsRowOf leaf.graph.now (row_at leaf.rows.now p.0)) leaf.parts.now

-- how far a pair whose value is x is from what it is in the row: 0 where the row has not both edges
abbrev pub pair_term : Row → ℕ → ℕ → ℕ → ℕ
pair_term row e f x = if has (orders_of row e) f then 1 - x else (if has row.edges e && has row.edges f then x else 0)

-- that, weighed and summed over the parts
abbrev pub pair_weight : List Row → List (ℕ × ℕ) → ℕ → ℕ → ℕ → ℕ
pair_weight rows parts e f x = total (λ p. p.1 * pair_term (row_at rows p.0) e f x) parts

-- what a pair gives to the value of the leaf
abbrev pub pair_value : List Row → List (ℕ × ℕ) → ℕ → ℕ → ℕ → ℕ → ℤ
pair_value rows parts d e f x = pos (d * x) -ℤ pos (pair_weight rows parts e f x)

-- the same, and 0 for edges that aren't independent
abbrev pub cross_value : Graph → List Row → List (ℕ × ℕ) → ℕ → Values → ℕ → ℕ → ℤ
cross_value g rows parts d v e f = if independent g.ends e f then pair_value rows parts d e f (v.crosses e f) else pos 0

-- the sum over each two elements, the earlier first
abbrev pub each_pair : (ℕ → ℕ → ℤ) → List ℕ → ℤ
each_pair h [] = pos 0
each_pair h (e ∷ es) = total_ℤ (h e) es +ℤ each_pair h es

-- the edges from e on
abbrev pub edges_from : Graph → ℕ → List ℕ
edges_from g e = range_with_len e (length g.ends - e)

-- what all pairs of edges give, and those among the edges from e on, and those of e with the edges from f on
abbrev pub crosses_from : Graph → List Row → List (ℕ × ℕ) → ℕ → ℕ → Values → ℤ
crosses_from g rows parts d e v = each_pair (cross_value g rows parts d v) (edges_from g e)

abbrev pub crosses_with : Graph → List Row → List (ℕ × ℕ) → ℕ → ℕ → ℕ → Values → ℤ
crosses_with g rows parts d e f v = total_ℤ (cross_value g rows parts d v e) (edges_from g f)

-- what a part gives by its orders
abbrev pub turns_part : List Row → Values → ℕ × ℕ → ℤ
turns_part rows v p = pos p.1 -ℤ pos (p.1 * turns_value (row_at rows p.0) v)

-- the edge stands right before the other in the list
abbrev pub meets : List ℕ → ℕ → ℕ → Bool
meets xs f g = list_any (λ p. (p.0 == f) && (p.1 == g)) (neighbours xs)

-- 1 where two neighbours of the list stand otherwise than the value x of f before g says, f below g
abbrev pub turn_term : List ℕ → ℕ → ℕ → ℕ → ℕ
turn_term xs f g x = if meets xs f g then 1 - x else (if meets xs g f then x else 0)

-- that on e, weighed and summed over the parts
abbrev pub turn_weight : List Row → List (ℕ × ℕ) → ℕ → ℕ → ℕ → ℕ → ℕ
turn_weight rows parts e f g x = total (λ p. p.1 * turn_term (orders_of (row_at rows p.0) e) f g x) parts

-- the same below 0: what it takes from the value of the leaf
abbrev pub turn_loss : List Row → List (ℕ × ℕ) → ℕ → ℕ → ℕ → ℕ → ℤ
turn_loss rows parts e f g x = pos 0 -ℤ pos (turn_weight rows parts e f g x)

-- over each two neighbours in the list of an edge
abbrev pub turns_along : Values → ℕ → List ℕ → ℕ
turns_along v e xs = total (λ p. 1 - literal v e p.0 p.1) (neighbours xs)

-- what the parts give by their orders
abbrev pub turns_sum : List Row → List (ℕ × ℕ) → Values → ℤ
turns_sum rows parts v = total_ℤ (turns_part rows v) parts

-- the order of f and g on e, f below g, weighs in the number as in the parts
abbrev pub WeighsAs : State → List Row → List (ℕ × ℕ) → ℕ → ℕ → ℕ → (Values → ℤ) → Type 0
WeighsAs s rows parts e f g number =
    Weighs s (order_given (s.placed e) f g) (λ v. v.before e f g) (λ v n. with_before v e f g n) number (turn_loss rows parts e f g)

-- as does each order on e
abbrev pub AllWeigh : State → List Row → List (ℕ × ℕ) → ℕ → (Values → ℤ) → Type 0
AllWeigh s rows parts e number = (f g : ℕ) → f < g → WeighsAs s rows parts e f g number

-- the first parts
abbrev pub first_parts : Leaf → ℕ → List (ℕ × ℕ)
first_parts leaf before = take before leaf.parts.now

-- the number doesn't depend on whether e crosses another edge
abbrev pub IgnoresPairs : ℕ → (Values → ℤ) → Type 0
IgnoresPairs e rest = (v : Values) (f n : ℕ) → rest (with_cross v e f n) ≡ rest v

-- the number is at most n times 2^85, above and below 0
abbrev pub IsSmall : ℕ → ℤ → Type 0
IsSmall n z = (z ≤ℤ pos (n * 2 ^ 85)) × ((pos 0 -ℤ pos (n * 2 ^ 85)) ≤ℤ z)

-- the state of a leaf
abbrev pub state_in : Leaf → State
state_in leaf = state_of leaf.given.now

-- r is the least of what the pair gives in the leaf, of those values that the state allows
abbrev pub IsLeastOfPair : Leaf → ℕ → ℕ → ℤ → Type 0
IsLeastOfPair leaf e f r =
    let value = pair_value leaf.rows.now leaf.parts.now leaf.d e f in
    IsLesser ((state_in leaf).decided e f) (value 0) (value 1) r

-- what all pairs give in the leaf
abbrev pub all_crosses : Leaf → Values → ℤ
all_crosses leaf = crosses_from leaf.graph.now leaf.rows.now leaf.parts.now leaf.d 0

-- the number leads from the pairs of e with the edges after f, and any number that ignores e, to those and the pair of e and f
abbrev pub AddsPair : Leaf → ℕ → ℕ → ℤ → Type 0
AddsPair leaf e f r =
    (rest : Values → ℤ) → IgnoresPairs e rest →
    Moves (state_in leaf) (λ v. crosses_with leaf.graph.now leaf.rows.now leaf.parts.now leaf.d e (f + 1) v +ℤ rest v)
    (λ v. crosses_with leaf.graph.now leaf.rows.now leaf.parts.now leaf.d e f v +ℤ rest v) r

-- the sum leads from the pairs among the later edges, and any number that ignores e, to those and the pairs of e
abbrev pub AddsPairsOf : Leaf → ℕ → ℤ → Type 0
AddsPairsOf leaf e r =
    (rest : Values → ℤ) → IgnoresPairs e rest →
    Moves (state_in leaf) rest (λ v. crosses_with leaf.graph.now leaf.rows.now leaf.parts.now leaf.d e (e + 1) v +ℤ rest v) r

-- the number leads from any in which the order of f and g on e weighs as in the first parts to that without one number where f
-- doesn't stand before g, and another where it does
abbrev pub AddsOrder : Leaf → ℕ → ℕ → ℕ → ℕ → ℕ → ℕ → ℤ → Type 0
AddsOrder leaf before e f g for_zero for_one r =
    (number : Values → ℤ) → WeighsAs (state_in leaf) leaf.rows.now (first_parts leaf before) e f g number →
    Moves (state_in leaf) number (λ v. number v -ℤ pos (if v.before e f g == 0 then for_zero else for_one)) r

-- the number leads from any in which the order of f and g on e weighs as in the first parts to that without m for f before g
abbrev pub AddsTurn : Leaf → ℕ → ℕ → ℕ → ℕ → ℕ → ℤ → Type 0
AddsTurn leaf before m e f g r =
    (number : Values → ℤ) → WeighsAs (state_in leaf) leaf.rows.now (first_parts leaf before) e (min f g) (max f g) number →
    Moves (state_in leaf) number (λ v. number v -ℤ pos (m * (1 - literal v e f g))) r

-- the same for each two neighbours in a list
abbrev pub AddsTurns : Leaf → ℕ → ℕ → ℕ → List ℕ → ℤ → Type 0
AddsTurns leaf before m e list r =
    (number : Values → ℤ) → AllWeigh (state_in leaf) leaf.rows.now (first_parts leaf before) e number →
    Moves (state_in leaf) number (λ v. number v -ℤ pos (m * turns_along v e list)) r

-- the same for a row, from what the first parts give
abbrev pub AddsRow : Leaf → ℕ → ℕ → Row → ℤ → Type 0
AddsRow leaf before m row r =
    Moves (state_in leaf) (turns_sum leaf.rows.now (first_parts leaf before))
    (λ v. turns_sum leaf.rows.now (first_parts leaf before) v -ℤ pos (m * turns_value row v)) r
