-- The parts of the value of a leaf.
use Rattle.std.specs.Prelude.{ℕ, ◌*◌, ◌-◌, ◌≤◌, ◌<◌, ◌^◌, ℤ, pos, ◌-ℤ◌, ◌≤ℤ◌, List, length, All, if◌then◌else◌}
use Rattle.xn_model.specs.Graph.{Graph, edges_of, independent, pairs_of}
use Rattle.xn_model.specs.Lists.{has, neighbours, total}
use Rattle.xn_kinds.specs.Row.{Values, literal, orders_of}
use Rattle.xn_kinds.specs.Bound.{leaf_value, part_value, total_ℤ}
use Rattle.xn_kinds.specs.declared.rows.Row.{Row}
use Rattle.xn_brute.specs.declared.leaves.Leaf.{Leaf}

-- whether a pair crosses otherwise than in the row
abbrev pub pair_part : Row → Values → ℕ × ℕ → ℕ
pair_part row v p = if has (orders_of row p.0) p.1 then 1 - v.crosses p.0 p.1 else v.crosses p.0 p.1

-- the same, and 0 for edges that aren't independent
abbrev pub independent_part : Graph → Row → Values → ℕ → ℕ → ℕ
independent_part g row v e f = if independent g.ends e f then pair_part row v (e, f) else 0

-- over each two neighbours in the list of an edge
abbrev pub turns_along : Values → ℕ → List ℕ → ℕ
turns_along v e xs = total (λ p. 1 - literal v e p.0 p.1) (neighbours xs)

-- these are edges of the graph
abbrev pub AreEdges : Graph → List ℕ → Type 0
AreEdges g edges = All (λ e. e < length g.ends) edges

-- the row has at most 1,000 edges, all of the graph, and lists of at most 1,000 entries
pub record IsSmallRow (g : Graph) (row : Row) : Type 0 where
  pub are_edges : AreEdges g row.edges
  pub few_edges : length row.edges ≤ 1000
  pub short_lists : All (λ l. length l ≤ 1000) row.orders

-- the leaf has at most 1,000 parts, and each is a small row
pub record IsSmallLeaf (g : Graph) (rows : List Row) (parts : List (ℕ × ℕ)) : Type 0 where
  pub few_parts : length parts ≤ 1000
  pub are_rows : All (λ p. p.0 < length rows) parts
  pub small_rows : All (IsSmallRow g) rows

-- the number is at most n times 2^85, above and below 0
abbrev pub IsSmallPart : ℕ → ℤ → Type 0
IsSmallPart n z = (z ≤ℤ pos (n * 2 ^ 85)) × ((pos 0 -ℤ pos (n * 2 ^ 85)) ≤ℤ z)

-- the leaf has at most 1,000 parts, and each is a small row
abbrev pub IsSmall : Leaf → Type 0
IsSmall leaf = IsSmallLeaf leaf.graph.now leaf.rows.now leaf.parts.now

-- the value of the leaf
abbrev pub value_in : Leaf → Values → ℤ
value_in leaf = leaf_value leaf.graph.now leaf.rows.now leaf.d leaf.parts.now

-- the weighted sum of its rows
abbrev pub parts_in : Leaf → Values → ℤ
parts_in leaf v = total_ℤ (part_value leaf.graph.now leaf.rows.now v) leaf.parts.now

-- the sum over the pairs of e with each of these edges
abbrev pub parts_with : Graph → Row → ℕ → List ℕ → Values → ℕ
parts_with g row e edges v = total (independent_part g row v e) edges

-- the number of these pairs that cross
abbrev pub crossing_pairs : List (ℕ × ℕ) → Values → ℕ
crossing_pairs pairs v = total (λ p. v.crosses p.0 p.1) pairs

-- the independent pairs of the graph of the leaf
abbrev pub pairs_in : Leaf → List (ℕ × ℕ)
pairs_in leaf = pairs_of leaf.graph.now.ends (edges_of leaf.graph.now)
