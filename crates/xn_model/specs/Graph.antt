-- Graphs, independent edges and their pairs.
use Rattle.std.specs.Prelude.{◌≡◌, ◌≢◌, ℕ, ◌<◌, ◌==◌, ◌&&◌, ◌||◌, Bool, true, not, List, [], ◌∷◌, ◌++◌, length, map, filter, slice_index_or}
use Rattle.std.specs.List.{range_with_len}

-- a graph or a web: the nodes 0 to nodes - 1, and the two ends of each edge or segment
pub record Graph : Type 0 where
  pub nodes : ℕ
  pub ends : List (ℕ × ℕ)

-- the two ends of an edge or a segment
abbrev pub ends_at : List (ℕ × ℕ) → ℕ → ℕ × ℕ
ends_at ends e = slice_index_or ends e (0, 0)

-- each end is a node
abbrev pub EndsIn : ℕ → List (ℕ × ℕ) → Type 0
EndsIn nodes [] = Unit {0}
EndsIn nodes (p ∷ ends) = (p.0 < nodes) × (p.1 < nodes) × EndsIn nodes ends

-- no edge joins a node to itself
abbrev pub HasNoLoop : List (ℕ × ℕ) → Type 0
HasNoLoop ends = (e : ℕ) → e < length ends → (ends_at ends e).0 ≢ (ends_at ends e).1

-- the ends of each edge are two different nodes
pub record IsGraph (g : Graph) : Type 0 where
  pub ends_in : EndsIn g.nodes g.ends
  pub no_loop : HasNoLoop g.ends

-- v is an end of the edge
abbrev pub touches : ℕ × ℕ → ℕ → Bool
touches p v = (p.0 == v) || (p.1 == v)

-- the edges share no end, so they are two
abbrev pub independent : List (ℕ × ℕ) → ℕ → ℕ → Bool
independent ends e f =
    not (touches (ends_at ends e) (ends_at ends f).0) && not (touches (ends_at ends e) (ends_at ends f).1)

abbrev pub Independent : List (ℕ × ℕ) → ℕ → ℕ → Type 0
Independent ends e f = independent ends e f ≡ true

-- the edges of a graph, in order
abbrev pub edges_of : Graph → List ℕ
edges_of g = range_with_len 0 (length g.ends)

-- each two elements, the earlier first: in lexicographic order where the list rises
abbrev pub each_two : List ℕ → List (ℕ × ℕ)
each_two [] = []
each_two (e ∷ es) = map (λ f. (e, f)) es ++ each_two es

-- the independent pairs of the edges of a list
abbrev pub pairs_of : List (ℕ × ℕ) → List ℕ → List (ℕ × ℕ)
pairs_of ends edges = filter (λ p. independent ends p.0 p.1) (each_two edges)

-- the number of independent pairs of a graph
abbrev pub pair_count_of : Graph → ℕ
pair_count_of g = length (pairs_of g.ends (edges_of g))
