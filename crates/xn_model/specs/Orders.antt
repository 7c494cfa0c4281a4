-- Orders: for each edge the edges that cross it, along it.
use Rattle.std.specs.Prelude.{◌≡◌, ℕ, ◌<◌, ◌==◌, true, List, [], ◌∷◌, length, filter, if◌then◌else◌, nat_eq, All}
use Rattle.std.specs.List.{IsDistinct}
use Rattle.std.specs.List.Sorted.{IsStrictlyIncreasing}
use Rattle.xn_model.specs.Graph.{Graph, Independent, each_two, edges_of}
use Rattle.xn_model.specs.Lists.{has}

-- the edges rise below count
pub record IsEdgeList (count : ℕ) (edges : List ℕ) : Type 0 where
  pub rise : IsStrictlyIncreasing edges
  pub below : All (λ e. e < count) edges

-- the list of an edge, where the lists stand in the order of the edges
abbrev pub order_at : List ℕ → List (List ℕ) → ℕ → List ℕ
order_at [] lists e = []
order_at (x ∷ xs) [] e = []
order_at (x ∷ xs) (l ∷ ls) e = if x == e then l else order_at xs ls e

-- ord are orders over the edges: crossers of an edge are independent of it, stand once, and are crossed by it
pub record IsOrders (ends : List (ℕ × ℕ)) (edges : List ℕ) (ord : ℕ → List ℕ) : Type 0 where
  pub edge_list : IsEdgeList (length ends) edges
  pub within : (e f : ℕ) → has (ord e) f ≡ true → has edges e ≡ true
  pub no_repeats : (e : ℕ) → IsDistinct nat_eq (ord e)
  pub independent : (e f : ℕ) → has (ord e) f ≡ true → Independent ends e f
  pub both_ways : (e f : ℕ) → has (ord e) f ≡ true → has (ord f) e ≡ true

-- the pairs that cross, in lexicographic order
abbrev pub crossings_of : List ℕ → (ℕ → List ℕ) → List (ℕ × ℕ)
crossings_of edges ord = filter (λ p. has (ord p.0) p.1) (each_two edges)

-- the number of crossings of orders of a graph
abbrev pub crossing_count : Graph → (ℕ → List ℕ) → ℕ
crossing_count g ord = length (crossings_of (edges_of g) ord)
