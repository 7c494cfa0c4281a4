-- Loose drawings that are made simple, and stay loose drawings.
use Rattle.std.specs.Prelude.{◌≡◌, ℕ, ◌+◌, ◌≤◌, ◌==◌, not, List, [], filter, set}
use Rattle.xn_model.specs.Graph.{Graph}
use Rattle.xn_insert.specs.ListedLoose.{IsLooseOf, ListedLoose, MeetOnceIn, edges_in}
use Rattle.xn_simple.specs.Tangle.{ListedTangle}

-- the edges but e
abbrev pub all_but_edge : ℕ → List ℕ → List ℕ
all_but_edge e edges = filter (λ x. not (x == e)) edges

-- a loose drawing of these edges, simple, so that no walk meets a node twice, and it has no more crossings than there are pairs of
-- 1,000 edges, nor than the old one
pub record IsLaidAgain (g : Graph) (edges : List ℕ) (old new : ListedLoose) : Type 0 where
  pub loose : IsLooseOf g new
  pub once : MeetOnceIn new
  pub same_edges : edges_in new ≡ edges
  pub no_more : new.map.web.nodes ≤ old.map.web.nodes
  pub few : new.map.web.nodes ≤ g.nodes + 499500

-- ---- of a tangle

-- e has no walk, and isn't in
abbrev pub taken_out : ListedTangle → ℕ → ListedTangle
taken_out t e = record { map = t.map; edges = all_but_edge e t.edges; walks = set t.walks e []; four = t.four; owners = t.owners; places = t.places }

-- a loose drawing of the same edges, simple
pub record IsLaidOf (g : Graph) (t : ListedTangle) (l : ListedLoose) : Type 0 where
  pub loose : IsLooseOf g l
  pub once : MeetOnceIn l
  pub same_edges : edges_in l ≡ t.edges
  pub no_more : l.map.web.nodes ≤ t.map.web.nodes
  pub few : l.map.web.nodes ≤ g.nodes + 499500
