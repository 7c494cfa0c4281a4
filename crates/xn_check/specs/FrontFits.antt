-- What the forms of lines give beforehand, by the place of the next line.
use Rattle.std.specs.Prelude.{◌≡◌, ◌+◌, ◌<◌, ◌≤◌, [], All, length}
use Rattle.xn_graph.specs.Limits.{IsEdge}
use Rattle.xn_proof.specs.declared.item.Item.{Item}
use Rattle.xn_proof.specs.declared.item.Item.TheVariants as item
use Rattle.xn_proof.specs.declared.places.Place.{Place}
use Rattle.xn_proof.specs.declared.places.Place.TheVariants as place
use Rattle.xn_check.specs.FrontSaid.{FrontSaid}

-- the nodes and edges that are said are those of a graph
pub record IsOfGraph (f : FrontSaid) : Type 0 where
  pub few_nodes : f.nodes ≤ 1000
  pub few_edges : length f.ends ≤ 1000
  pub edges : All (IsEdge f.nodes) f.ends

-- they are with one line more, too
abbrev pub FrontFits : FrontSaid → Item → Type 0
FrontFits f (item.Graph nodes edges) = (nodes ≤ 1000) × (f.ends ≡ [])
FrontFits f (item.Edge u v) = (length f.ends < 1000) × IsEdge f.nodes (u, v)
FrontFits f line = Unit {0}

-- so many nodes and edges are said where the next line has a place
abbrev pub FrontStands : Place → FrontSaid → Type 0
FrontStands place.Header f = f.ends ≡ []
FrontStands place.Graph f = f.ends ≡ []
FrontStands (place.Loops nodes m) f = (f.nodes ≡ nodes) × (nodes ≤ 1000) × (m ≤ 1000) × (f.ends ≡ [])
FrontStands (place.Edge nodes e more) f = (f.nodes ≡ nodes) × (nodes ≤ 1000) × (e + more < 1000) × (length f.ends ≡ e)
FrontStands p f = Unit {0}
