-- Loose drawings, in which edges may meet anyhow, and routes from face to face.
use Rattle.std.specs.Prelude.{◌≡◌, ℕ, ◌+◌, ◌*◌, ◌/◌, ◌<◌, ◌≤◌, ◌==◌, true, false, List, [], ◌∷◌, length, map, nat_eq}
use Rattle.std.specs.List.{IsDistinct, flat_map}
use Rattle.xn_model.specs.Graph.{Graph, IsGraph, ends_at}
use Rattle.xn_model.specs.Lists.{has, total, one_if}
use Rattle.xn_model.specs.Map.{IsFlat, WalksTo, tail_of, reverse_of, face_step}
use Rattle.xn_model.specs.Orders.{IsEdgeList}
use Rattle.xn_model.specs.Permutation.{Reaches, count_below}

-- between each two darts the walk meets a further node and goes straight over it
abbrev pub GoesStraight : ℕ → List (ℕ × ℕ) → (ℕ → ℕ) → List ℕ → Type 0
GoesStraight nodes ends next [] = Unit {0}
GoesStraight nodes ends next (d ∷ []) = Unit {0}
GoesStraight nodes ends next (d ∷ e ∷ darts) =
    (nodes ≤ tail_of ends e) × (next (next (reverse_of d)) ≡ e) × GoesStraight nodes ends next (e ∷ darts)

-- how often a segment is walked
abbrev pub times_walked : ℕ → List ℕ → ℕ
times_walked s darts = total (λ d. one_if (d / 2 == s)) darts

-- the number of darts at a node
abbrev pub dart_count : List (ℕ × ℕ) → ℕ → ℕ
dart_count ends v = count_below (2 * length ends) (λ d. tail_of ends d == v)

-- a flat map of the nodes of g and of further ones, and a walk for each edge that is in: its crossings are the further nodes
pub record IsLoose (g : Graph) (edges : List ℕ) (further : ℕ) (web : Graph) (next : ℕ → ℕ) (walks : ℕ → List ℕ) : Type 0 where
  pub is_graph : IsGraph g
  pub edge_list : IsEdgeList (length g.ends) edges
  pub nodes : web.nodes ≡ g.nodes + further
  pub is_flat_map : IsFlat web next
  pub lead : (e : ℕ) → has edges e ≡ true → WalksTo web.ends (ends_at g.ends e).0 (walks e) (ends_at g.ends e).1
  pub straight : (e : ℕ) → has edges e ≡ true → GoesStraight g.nodes web.ends next (walks e)
  pub once : (s : ℕ) → s < length web.ends → times_walked s (flat_map walks edges) ≡ 1
  pub four : (v : ℕ) → g.nodes ≤ v → v < web.nodes → dart_count web.ends v ≡ 4

-- an edge that isn't in has no walk
abbrev pub WalksOnly : List ℕ → (ℕ → List ℕ) → Type 0
WalksOnly edges walks = (e : ℕ) → has edges e ≡ false → walks e ≡ []

-- no walk meets a node twice
abbrev pub MeetsOnce : List (ℕ × ℕ) → List ℕ → Type 0
MeetsOnce ends darts = IsDistinct nat_eq (map (tail_of ends) darts)

-- from the face of the dart a, over the segments of the listed darts, to a face with a corner of v
abbrev pub CrossesTo : List (ℕ × ℕ) → (ℕ → ℕ) → ℕ → List ℕ → ℕ → Type 0
CrossesTo ends next a [] v = (b : ℕ) × (b < 2 * length ends) × (tail_of ends b ≡ v) × Reaches (face_step next) a b
CrossesTo ends next a (d ∷ darts) v =
    (d < 2 * length ends) × Reaches (face_step next) a d × CrossesTo ends next (reverse_of d) darts v

-- a route from u to v, by the darts over which it goes from face to face: its length is theirs
abbrev pub IsRoute : List (ℕ × ℕ) → (ℕ → ℕ) → ℕ → List ℕ → ℕ → Type 0
IsRoute ends next u darts v = (a : ℕ) × (a < 2 * length ends) × (tail_of ends a ≡ u) × CrossesTo ends next a darts v

-- r is the least length of a route from u to v
pub record IsRouteLength (ends : List (ℕ × ℕ)) (next : ℕ → ℕ) (u v r : ℕ) : Type 0 where
  pub route : (darts : List ℕ) × IsRoute ends next u darts v × (length darts ≡ r)
  pub least : (darts : List ℕ) → IsRoute ends next u darts v → r ≤ length darts
