-- Worked examples of the definitions.
use Rattle.std.specs.Prelude.{◌≡◌, ℕ, List, [], ◌∷◌}
use Rattle.xn_model.specs.Cycles.{IsCycle}
use Rattle.xn_model.specs.Drawing.{CrossesAt, HasDrawingWith, IsAtMost, IsDrawing, IsListedDrawing, IsSimplyAtMost, order_of}
use Rattle.xn_model.specs.Graph.{Graph, edges_of, pairs_of, pair_count_of}
use Rattle.xn_model.specs.Lists.{at}
use Rattle.xn_model.specs.Limit.{IsBelowLimit, node_limit}
use Rattle.xn_model.specs.Loose.{IsLoose, IsRoute, MeetsOnce}
use Rattle.xn_model.specs.Map.{MeetsEuler, IsFlat, face_count, component_count}
use Rattle.xn_model.specs.Orders.{crossing_count}
use Rattle.xn_model.specs.Web.{web_of}

-- four nodes, each two joined
abbrev pub k4 : Graph
k4 = record { nodes = 4; ends = (0, 1) ∷ (0, 2) ∷ (0, 3) ∷ (1, 2) ∷ (1, 3) ∷ (2, 3) ∷ [] }

-- a rotation of K4 in the plane
abbrev pub k4_turns : List ℕ
k4_turns = 2 ∷ 8 ∷ 4 ∷ 7 ∷ 0 ∷ 11 ∷ 1 ∷ 10 ∷ 6 ∷ 5 ∷ 3 ∷ 9 ∷ []

-- a rotation of K4 on a torus
abbrev pub k4_torus_turns : List ℕ
k4_torus_turns = 2 ∷ 8 ∷ 4 ∷ 7 ∷ 0 ∷ 9 ∷ 1 ∷ 10 ∷ 6 ∷ 11 ∷ 3 ∷ 5 ∷ []

-- K4 in the plane has four faces in one component, so 4 - 6 + 4 = 2
pub record K4IsFlat : Type 0 where
  pub faces : face_count 4 k4.ends (at k4_turns) ≡ 4
  pub components : component_count 4 k4.ends ≡ 1
  pub flat_map : IsFlat k4 (at k4_turns)
  pub pairs : pairs_of k4.ends (edges_of k4) ≡ (0, 5) ∷ (1, 4) ∷ (2, 3) ∷ []

-- with two faces it isn't flat
pub record K4OnTorus : Type 0 where
  pub faces : face_count 4 k4.ends (at k4_torus_turns) ≡ 2
  pub not_flat : ¬ (MeetsEuler 4 k4.ends (at k4_torus_turns))

-- five nodes, each two joined
abbrev pub k5 : Graph
k5 = record { nodes = 5; ends = (0, 1) ∷ (0, 2) ∷ (0, 3) ∷ (0, 4) ∷ (1, 2) ∷ (1, 3) ∷ (1, 4) ∷ (2, 3) ∷ (2, 4) ∷ (3, 4) ∷ [] }

-- edge 9 crosses edge 0
abbrev pub k5_orders : List (List ℕ)
k5_orders = (9 ∷ []) ∷ [] ∷ [] ∷ [] ∷ [] ∷ [] ∷ [] ∷ [] ∷ [] ∷ (0 ∷ []) ∷ []

abbrev pub k5_web : Graph
k5_web = web_of k5 (edges_of k5) (order_of k5 k5_orders)

abbrev pub k5_turns : List ℕ
k5_turns = 6 ∷ 22 ∷ 21 ∷ 14 ∷ 8 ∷ 16 ∷ 4 ∷ 20 ∷ 0 ∷ 19 ∷ 12 ∷ 18 ∷ 3 ∷ 17 ∷ 10 ∷ 23 ∷ 11 ∷ 7 ∷ 5 ∷ 15 ∷ 13 ∷ 1 ∷ 2 ∷ 9 ∷ []

-- the same, but that the edges touch at the crossing
abbrev pub k5_touching_turns : List ℕ
k5_touching_turns = 6 ∷ 21 ∷ 1 ∷ 14 ∷ 8 ∷ 16 ∷ 4 ∷ 20 ∷ 0 ∷ 19 ∷ 12 ∷ 18 ∷ 3 ∷ 17 ∷ 10 ∷ 23 ∷ 11 ∷ 7 ∷ 5 ∷ 15 ∷ 13 ∷ 22 ∷ 2 ∷ 9 ∷ []

-- the walks of its edges
abbrev pub k5_walks : ℕ → List ℕ
k5_walks = order_of k5 ((0 ∷ 2 ∷ []) ∷ (4 ∷ []) ∷ (6 ∷ []) ∷ (8 ∷ []) ∷ (10 ∷ []) ∷ (12 ∷ []) ∷ (14 ∷ []) ∷ (16 ∷ []) ∷ (18 ∷ []) ∷ (20 ∷ 22 ∷ []) ∷ [])

-- K5 with one crossing: its web, its faces, a drawing
pub record K5WithOneCrossing : Type 0 where
  pub nodes : k5_web.nodes ≡ 6
  pub segments : k5_web.ends ≡ (0, 5) ∷ (5, 1) ∷ (0, 2) ∷ (0, 3) ∷ (0, 4) ∷ (1, 2) ∷ (1, 3) ∷ (1, 4) ∷ (2, 3) ∷ (2, 4) ∷ (3, 5) ∷ (5, 4) ∷ []
  pub pairs : pair_count_of k5 ≡ 15
  pub faces : face_count 6 k5_web.ends (at k5_turns) ≡ 8
  pub flat_map : IsFlat k5_web (at k5_turns)
  pub crosses : CrossesAt (edges_of k5) (order_of k5 k5_orders) (at k5_turns) 0 9
  pub touches : ¬ (CrossesAt (edges_of k5) (order_of k5 k5_orders) (at k5_touching_turns) 0 9)
  pub count : crossing_count k5 (order_of k5 k5_orders) ≡ 1
  pub simple_drawing : IsListedDrawing k5 k5_orders k5_turns
  pub simply_at_most_one : IsSimplyAtMost k5 1
  pub drawing : IsDrawing k5 1 k5_web (at k5_turns) k5_walks
  pub at_most_one : IsAtMost k5 1
  pub limit : node_limit (pair_count_of k5) 1 ≡ 82208

-- three nodes against three
abbrev pub k33 : Graph
k33 = record { nodes = 6; ends = (0, 3) ∷ (0, 4) ∷ (0, 5) ∷ (1, 3) ∷ (1, 4) ∷ (1, 5) ∷ (2, 3) ∷ (2, 4) ∷ (2, 5) ∷ [] }

-- the pairs of K3,3, each edge with the four that share no end with it
abbrev pub PairsOfK33 : Type 0
PairsOfK33 = pairs_of k33.ends (edges_of k33) ≡
    (0, 4) ∷ (0, 5) ∷ (0, 7) ∷ (0, 8) ∷ (1, 3) ∷ (1, 5) ∷ (1, 6) ∷ (1, 8) ∷ (2, 3) ∷ (2, 4) ∷ (2, 6) ∷ (2, 7)
    ∷ (3, 7) ∷ (3, 8) ∷ (4, 6) ∷ (4, 8) ∷ (5, 6) ∷ (5, 7) ∷ []

-- two nodes without edges: each is a face and a component of its own
pub record TwoLoneNodes : Type 0 where
  pub faces : face_count 2 [] (at []) ≡ 2
  pub components : component_count 2 [] ≡ 2
  pub flat : MeetsEuler 2 [] (at [])

-- two nodes and an edge, which crosses itself once
abbrev pub one_edge : Graph
one_edge = record { nodes = 2; ends = (0, 1) ∷ [] }

abbrev pub curled_web : Graph
curled_web = record { nodes = 3; ends = (0, 2) ∷ (2, 2) ∷ (2, 1) ∷ [] }

abbrev pub curled_turns : List ℕ
curled_turns = 0 ∷ 3 ∷ 4 ∷ 2 ∷ 1 ∷ 5 ∷ []

-- the same, but that the edge touches itself
abbrev pub bent_turns : List ℕ
bent_turns = 0 ∷ 2 ∷ 3 ∷ 4 ∷ 1 ∷ 5 ∷ []

-- the edge goes round its loop, and that is a drawing with a crossing; it is no loose drawing where the loop is left out, or where it
-- touches itself
pub record CurledEdge : Type 0 where
  pub loose : IsLoose one_edge (0 ∷ []) 1 curled_web (at curled_turns) (λ e. 0 ∷ 2 ∷ 4 ∷ [])
  pub drawing : HasDrawingWith one_edge 1
  pub twice : ¬ (MeetsOnce curled_web.ends (0 ∷ 2 ∷ 4 ∷ []))
  pub left_out : ¬ (IsLoose one_edge (0 ∷ []) 1 curled_web (at curled_turns) (λ e. 0 ∷ 4 ∷ []))
  pub touching : ¬ (IsLoose one_edge (0 ∷ []) 1 curled_web (at bent_turns) (λ e. 0 ∷ 2 ∷ 4 ∷ []))

-- a triangle with a node within and a node without
abbrev pub parted_web : Graph
parted_web = record { nodes = 5; ends = (0, 1) ∷ (1, 2) ∷ (2, 0) ∷ (0, 3) ∷ (1, 4) ∷ [] }

abbrev pub parted_turns : List ℕ
parted_turns = 5 ∷ 2 ∷ 8 ∷ 4 ∷ 3 ∷ 6 ∷ 0 ∷ 7 ∷ 1 ∷ 9 ∷ []

-- from the one to the other over one segment
pub record PartedNodes : Type 0 where
  pub flat_map : IsFlat parted_web (at parted_turns)
  pub route : IsRoute parted_web.ends (at parted_turns) 3 (0 ∷ []) 4

-- the triangle of this web is a cycle, and two parallel segments are one; no cycle has the segment that hangs at it
pub record SmallCycles : Type 0 where
  pub triangle : IsCycle parted_web.ends (0 ∷ 2 ∷ 4 ∷ [])
  pub parallel : IsCycle ((0, 1) ∷ (0, 1) ∷ []) (0 ∷ 3 ∷ [])
  pub no_way_back : ¬ (IsCycle parted_web.ends (6 ∷ 7 ∷ []))

-- no node: its limit is that of one round without pairs
abbrev pub nothing : Graph
nothing = record { nodes = 0; ends = [] }

pub record LimitOfNothing : Type 0 where
  pub limit : node_limit (pair_count_of nothing) 0 ≡ 3
  pub below : IsBelowLimit nothing 2
  pub not_below : ¬ (IsBelowLimit nothing 3)
