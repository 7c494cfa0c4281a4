-- The planarised graph: a node for each crossing, and each edge cut into segments at its crossings.
use Rattle.std.specs.Prelude.{ℕ, suc, ◌+◌, ◌==◌, ◌&&◌, List, [], ◌∷◌, length, map, if◌then◌else◌, nat_lt}
use Rattle.std.specs.List.{flat_map}
use Rattle.xn_model.specs.Graph.{Graph, ends_at}
use Rattle.xn_model.specs.Orders.{crossings_of}

-- the number of the crossing (e, f) in the list
abbrev pub crossing_number_in : List (ℕ × ℕ) → ℕ → ℕ → ℕ
crossing_number_in [] e f = 0
crossing_number_in (p ∷ ps) e f = if (p.0 == e) && (p.1 == f) then 0 else suc (crossing_number_in ps e f)

-- the node at which e and f cross
abbrev pub crossing_node : ℕ → List (ℕ × ℕ) → ℕ → ℕ → ℕ
crossing_node nodes pairs e f = nodes + (if nat_lt e f then crossing_number_in pairs e f else crossing_number_in pairs f e)

-- the segments from u through the nodes to v
abbrev pub segments_through : ℕ → List ℕ → ℕ → List (ℕ × ℕ)
segments_through u [] v = (u, v) ∷ []
segments_through u (w ∷ ws) v = (u, w) ∷ segments_through w ws v

-- the segments of one edge, from its first end through its crossings to its second
abbrev pub segments_of : Graph → List (ℕ × ℕ) → (ℕ → List ℕ) → ℕ → List (ℕ × ℕ)
segments_of g pairs ord e =
    segments_through (ends_at g.ends e).0 (map (crossing_node g.nodes pairs e) (ord e)) (ends_at g.ends e).1

-- after the nodes of the graph come the crossings, and each edge in turn gives its segments
abbrev pub web_of : Graph → List ℕ → (ℕ → List ℕ) → Graph
web_of g edges ord =
    let pairs = crossings_of edges ord in
    record { nodes = g.nodes + length pairs; ends = flat_map (segments_of g pairs ord) edges }

-- the number of the first segment of e
abbrev pub first_segment : List ℕ → (ℕ → List ℕ) → ℕ → ℕ
first_segment [] ord e = 0
first_segment (x ∷ xs) ord e = if x == e then 0 else suc (length (ord x)) + first_segment xs ord e
