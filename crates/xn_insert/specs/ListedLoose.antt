-- Loose drawings as lists.
use Rattle.std.specs.Prelude.{◌≡◌, ℕ, ◌+◌, ◌<◌, Bool, true, false, List, [], ◌∷◌, filter, length, slice_index_or}
use Rattle.std.specs.List.{range_with_len}
use Rattle.xn_model.specs.Graph.{Graph}
use Rattle.xn_model.specs.Lists.{at}
use Rattle.xn_model.specs.Loose.{IsLoose}
use Rattle.xn_loose.specs.Inserting.{EachMeetsOnce}
use Rattle.xn_map.specs.Listed.{ListedMap}

-- the number of nodes of the graph, a map, and a list of darts for each edge, empty where the edge isn't in
pub record ListedLoose : Type 0 where
  pub nodes : ℕ
  pub map : ListedMap
  pub walks : List (List ℕ)

abbrev pub loose_of : ℕ → ListedMap → List (List ℕ) → ListedLoose
loose_of nodes map walks = record { nodes = nodes; map = map; walks = walks }

-- the walk of an edge
abbrev pub walk_of : List (List ℕ) → ℕ → List ℕ
walk_of walks e = slice_index_or walks e []

-- all darts of the walks are below m
abbrev pub AreWithin : List (List ℕ) → ℕ → Type 0
AreWithin walks m = (e i : ℕ) → i < length (walk_of walks e) → at (walk_of walks e) i < m

-- the list has a dart
abbrev pub has_dart : List ℕ → Bool
has_dart [] = false
has_dart (d ∷ darts) = true

-- the edges that are in, in rising order
abbrev pub edges_in : ListedLoose → List ℕ
edges_in l = filter (λ e. has_dart (walk_of l.walks e)) (range_with_len 0 (length l.walks))

-- it has this many nodes beside those of the graph: its crossings
abbrev pub HasFurtherNodes : ListedLoose → ℕ → Type 0
HasFurtherNodes l c = l.map.web.nodes ≡ l.nodes + c

-- no walk meets a node twice
abbrev pub MeetOnceIn : ListedLoose → Type 0
MeetOnceIn l = EachMeetsOnce (edges_in l) l.map.web.ends (walk_of l.walks)

-- a loose drawing of the edges of g that are in: walks may meet anyhow, and one may meet itself
pub record IsLooseOf (g : Graph) (l : ListedLoose) : Type 0 where
  pub nodes : l.nodes ≡ g.nodes
  pub lists : length l.walks ≡ length g.ends
  pub further : ℕ
  pub loose : IsLoose g (edges_in l) further l.map.web (at l.map.next) (walk_of l.walks)
