-- What the calls on loose drawings leave.
use Rattle.std.specs.Prelude.{◌≡◌, ℕ, ◌+◌, List, length}
use Rattle.xn_model.specs.Graph.{Graph, ends_at}
use Rattle.xn_model.specs.Lists.{at}
use Rattle.xn_model.specs.Loose.{IsRouteLength}
use Rattle.xn_model.specs.Map.{Joined}
use Rattle.xn_model.specs.Orders.{order_at}
use Rattle.xn_model.specs.Web.{web_of}
use Rattle.xn_loose.specs.Inserting.{IsOneMore}
use Rattle.xn_track.specs.Tidying.{IsDrawingOfEdges}
use Rattle.xn_map.specs.Listed.{ListedMap}
use Rattle.xn_insert.specs.ListedLoose.{IsLooseOf, ListedLoose, MeetOnceIn, edges_in}

-- the map is that of the planarised graph of the kept edges with these lists, and they cross in it
pub record DrawsKept (g : Graph) (kept : List ℕ) (lists : List (List ℕ)) (map : ListedMap) : Type 0 where
  pub fits : length lists ≡ length kept
  pub web : map.web ≡ web_of g kept (order_at kept lists)
  pub drawing : IsDrawingOfEdges g kept (order_at kept lists) (at map.next)

-- a loose drawing of the kept edges with this map, in which no walk meets a node twice
pub record IsStarted (g : Graph) (kept : List ℕ) (map : ListedMap) (l : ListedLoose) : Type 0 where
  pub same_map : l.map ≡ map
  pub kept_are_in : edges_in l ≡ kept
  pub loose : IsLooseOf g l
  pub once : MeetOnceIn l

-- e is in beside the others, with as many crossings more as a least route between its ends is long, or none between two components;
-- where no walk met a node twice, none does then
pub record IsInserted (g : Graph) (e : ℕ) (old new : ListedLoose) : Type 0 where
  pub one_more : IsOneMore (length g.ends) (edges_in old) e (edges_in new)
  pub loose : IsLooseOf g new
  pub joined : (r : ℕ) → IsRouteLength old.map.web.ends (at old.map.next) (ends_at g.ends e).0 (ends_at g.ends e).1 r →
      new.map.web.nodes ≡ old.map.web.nodes + r
  pub once : MeetOnceIn old → MeetOnceIn new
  pub apart : (Joined old.map.web.ends (ends_at g.ends e).0 (ends_at g.ends e).1 → ⊥) → new.map.web.nodes ≡ old.map.web.nodes
