-- Maps whose successors are listed.
use Rattle.std.specs.Prelude.{◌≡◌, ℕ, ◌+◌, ◌*◌, List, length}
use Rattle.xn_model.specs.Graph.{Graph}
use Rattle.xn_model.specs.Lists.{at}
use Rattle.xn_model.specs.Map.{MeetsEuler, IsMap, component_count, face_count}
use Rattle.xn_graph.specs.declared.counts.Euler.{Euler}

-- a web, and for each dart the next one round its node
pub record ListedMap : Type 0 where
  pub web : Graph
  pub next : List ℕ

-- the map of a web and the list of its successors
abbrev pub map_of : Graph → List ℕ → ListedMap
map_of web next = record { web = web; next = next }

-- each dart is listed, and next turns round each node
pub record IsListedMap (m : ListedMap) : Type 0 where
  pub fits : length m.next ≡ 2 * length m.web.ends
  pub is_map : IsMap m.web.nodes m.web.ends (at m.next)

-- the number of its faces
abbrev pub faces_of : ListedMap → ℕ
faces_of m = face_count m.web.nodes m.web.ends (at m.next)

-- the number of its components
abbrev pub components_of : ListedMap → ℕ
components_of m = component_count m.web.nodes m.web.ends

-- it has genus zero
abbrev pub IsFlatListed : ListedMap → Type 0
IsFlatListed m = MeetsEuler m.web.nodes m.web.ends (at m.next)

-- the two sides of V + F = 2C + E, added
abbrev pub sum_of : Euler → ℕ
sum_of counts = counts.v + counts.f + (2 * counts.c + counts.e)
