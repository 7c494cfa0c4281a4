-- Walks over a map that stays as it is, as lists: what may still be a crossing, and which walk goes over a segment.
use Rattle.std.specs.Prelude.{◌≡◌, ◌≢◌, ◌⊎◌, ℕ, suc, ◌*◌, ◌/◌, ◌<◌, ◌≤◌, Bool, true, false, Option, Some, List, filter, length, set}
use Rattle.std.specs.List.{range_with_len}
use Rattle.xn_list.specs.Lists.{lists_of}
use Rattle.xn_model.specs.Graph.{Graph, IsGraph}
use Rattle.xn_model.specs.Lists.{at}
use Rattle.xn_model.specs.Loose.{WalksOnly}
use Rattle.xn_model.specs.Map.{reverse_of, tail_of}
use Rattle.xn_map.specs.Listed.{IsListedMap, ListedMap}
use Rattle.xn_map.specs.Marks.{is_marked}
use Rattle.xn_track.specs.Steps.{node_after}
use Rattle.xn_insert.specs.ListedLoose.{has_dart, walk_of}
use Rattle.xn_simple.specs.Loosened.{IsLoosened}
use Rattle.xn_simple.specs.declared.tangle.Pass.{Pass}
use Rattle.xn_simple.specs.declared.tangle.Tangle.{Tangle}

-- a map, the edges that are in, a walk for each edge of the graph, the nodes at which walks may cross, and for each segment an edge and
-- a place in its walk
pub record ListedTangle : Type 0 where
  pub map : ListedMap
  pub edges : List ℕ
  pub walks : List (List ℕ)
  pub four : List Bool
  pub owners : List ℕ
  pub places : List ℕ

abbrev pub lists_in : Tangle → ListedTangle
lists_in t = record {
  map = t.map;
  edges = t.edges.items;
  walks = lists_of t.walks.items;
  four = t.four.items;
  owners = t.notes.owners.items;
  places = t.notes.places.items;
}

-- the walk of an edge
abbrev pub walk_in : ListedTangle → ℕ → List ℕ
walk_in t e = walk_of t.walks e

-- walks may cross at the node
abbrev pub named : ListedTangle → ℕ → Bool
named t v = is_marked t.four v

-- the node at which the walk of e leaves its dart i
abbrev pub node_in : ListedTangle → ℕ → ℕ → ℕ
node_in t e i = node_after t.map.web.ends (walk_in t e) i

-- the notes of the segments of a walk name the edge and the places
abbrev pub HoldNotes : List ℕ → List ℕ → ℕ → List ℕ → Type 0
HoldNotes owners places e walk = (i : ℕ) → i < length walk → (at owners (at walk i / 2) ≡ e) × (at places (at walk i / 2) ≡ i)

-- the walks are those of a track once the nodes that aren't named have come apart, and they are noted
pub record IsTangle (g : Graph) (t : ListedTangle) : Type 0 where
  pub is_graph : IsGraph g
  pub is_map : IsListedMap t.map
  pub nodes_in : g.nodes ≤ t.map.web.nodes
  pub lists : length t.walks ≡ length g.ends
  pub marks : length t.four ≡ t.map.web.nodes
  pub owners_fit : length t.owners ≡ length t.map.web.ends
  pub places_fit : length t.places ≡ length t.map.web.ends
  pub loosened : IsLoosened g t.edges t.map.web (at t.map.next) (named t) (walk_in t)
  pub only : WalksOnly t.edges (walk_in t)
  pub notes : (e : ℕ) → HoldNotes t.owners t.places e (walk_in t e)

-- the same of some graph
abbrev pub IsSomeTangle : ListedTangle → Type 0
IsSomeTangle t = (g : Graph) × IsTangle g t

-- ---- what is written

-- the segments of the walk are noted, and the notes of all others are as before
pub record IsNoted (e : ℕ) (walk owners places owners_now places_now : List ℕ) : Type 0 where
  pub owners_fit : length owners_now ≡ length owners
  pub places_fit : length places_now ≡ length places
  pub here : HoldNotes owners_now places_now e walk
  pub others : (s : ℕ) → ((i : ℕ) → i < length walk → at walk i / 2 ≢ s) → (at owners_now s ≡ at owners s) × (at places_now s ≡ at places s)

-- e has another walk, which is noted
pub record IsWalkPut (e : ℕ) (walk : List ℕ) (old new : ListedTangle) : Type 0 where
  pub same_map : new.map ≡ old.map
  pub same_edges : new.edges ≡ old.edges
  pub same_marks : new.four ≡ old.four
  pub walks : new.walks ≡ set old.walks e walk
  pub noted : IsNoted e walk old.owners old.places new.owners new.places

abbrev pub unmarked : ListedTangle → ℕ → ListedTangle
unmarked t v = record { map = t.map; edges = t.edges; walks = t.walks; four = set t.four v false; owners = t.owners; places = t.places }

-- ---- passes

-- the walk passes v between its dart j and the next
abbrev pub PassesAt : List (ℕ × ℕ) → List ℕ → ℕ → ℕ → Type 0
PassesAt ends walk j v = (suc j < length walk) × (node_after ends walk j ≡ v)

-- and comes or leaves by the dart d
abbrev pub GoesOver : List ℕ → ℕ → ℕ → Type 0
GoesOver walk j d = (at walk (suc j) ≡ d) ⊎ (at walk j ≡ reverse_of d)

-- the place of the dart of the walk whose segment d is
abbrev pub IsNotedAt : List ℕ → ℕ → ℕ → ℕ → Type 0
IsNotedAt walk j d noted = ((at walk (suc j) ≡ d) × (noted ≡ suc j)) ⊎ ((at walk j ≡ reverse_of d) × (noted ≡ j))

-- a pass of the node of d, and the one over d where it is noted
pub record IsPassIn (ends : List (ℕ × ℕ)) (walk : List ℕ) (noted d : ℕ) (found : Option ℕ) : Type 0 where
  pub sound : (j : ℕ) → found ≡ Some j → PassesAt ends walk j (tail_of ends d)
  pub all : (j : ℕ) → PassesAt ends walk j (tail_of ends d) → IsNotedAt walk j d noted → found ≡ Some j

abbrev pub pass_of : ℕ → ℕ → Pass
pass_of e j = record { edge = e; place = j }

-- a pass of the node of d, and each one over d
pub record IsPassOver (t : ListedTangle) (d : ℕ) (found : Option Pass) : Type 0 where
  pub sound : (p : Pass) → found ≡ Some p → PassesAt t.map.web.ends (walk_in t p.edge) p.place (tail_of t.map.web.ends d)
  pub all : (f j : ℕ) → PassesAt t.map.web.ends (walk_in t f) j (tail_of t.map.web.ends d) → GoesOver (walk_in t f) j d → found ≡ Some (pass_of f j)

-- the walks of e and f pass one named node at these places
pub record MeetAt (t : ListedTangle) (e i f j : ℕ) : Type 0 where
  pub one_in : suc i < length (walk_in t e)
  pub two_in : suc j < length (walk_in t f)
  pub one_node : node_in t e i ≡ node_in t f j
  pub holds : named t (node_in t e i) ≡ true

-- it is another pass of the node, and there is none besides
pub record IsOther (t : ListedTangle) (e i : ℕ) (found : Option Pass) : Type 0 where
  pub meets : (p : Pass) → found ≡ Some p → MeetAt t e i p.edge p.place
  pub differs : (p : Pass) → found ≡ Some p → p.edge ≡ e → p.place ≢ i
  pub only : (f j : ℕ) → MeetAt t e i f j → ((f ≡ e) × (j ≡ i)) ⊎ (found ≡ Some (pass_of f j))

-- ---- of a loose drawing

-- the edges that have a walk
abbrev pub edges_walked : List (List ℕ) → List ℕ
edges_walked walks = filter (λ e. has_dart (walk_of walks e)) (range_with_len 0 (length walks))

-- just the nodes from first on are named
pub record AreFurther (first nodes : ℕ) (four : List Bool) : Type 0 where
  pub fits : length four ≡ nodes
  pub low : (v : ℕ) → v < first → is_marked four v ≡ false
  pub high : (v : ℕ) → first ≤ v → v < nodes → is_marked four v ≡ true

-- no segment is walked twice
pub record WalksAreApart (segments : ℕ) (walks : List (List ℕ)) : Type 0 where
  pub few : length walks ≤ 1000
  pub below : (e i : ℕ) → i < length (walk_of walks e) → at (walk_of walks e) i < 2 * segments
  pub apart : (e f i j : ℕ) → i < length (walk_of walks e) → j < length (walk_of walks f) →
      at (walk_of walks e) i / 2 ≡ at (walk_of walks f) j / 2 → (e ≡ f) × (i ≡ j)

-- the walks are noted
pub record AreNotesOf (segments : ℕ) (walks : List (List ℕ)) (owners places : List ℕ) : Type 0 where
  pub owners_fit : length owners ≡ segments
  pub places_fit : length places ≡ segments
  pub held : (e : ℕ) → HoldNotes owners places e (walk_of walks e)

-- the tangle of a loose drawing with this map, these edges and these walks
pub record IsTangleOf (g : Graph) (map : ListedMap) (edges : List ℕ) (t : ListedTangle) : Type 0 where
  pub tangle : IsTangle g t
  pub same_map : t.map ≡ map
  pub same_edges : t.edges ≡ edges
