-- A loose drawing is taken apart, and what comes of it is a drawing of its edges.
use Rattle.std.proofs.Common.{◌≡◌, ℕ, ◌+◌, ◌≤◌, List, sym, ◌∙◌, ap, subst, arith}
use Rattle.xn_model.specs.Drawing.{IsListedDrawing, order_of}
use Rattle.xn_model.specs.Graph.{Graph}
use Rattle.xn_model.specs.Orders.{crossing_count}
use Rattle.xn_kinds.specs.declared.drawings.Drawing.{Drawing}
use Rattle.xn_map.specs.Listed.{ListedMap}
use Rattle.xn_loose.specs.Renaming.{subgraph_of}
use Rattle.xn_insert.specs.ListedLoose.{IsLooseOf, ListedLoose, edges_in, loose_of}
use Rattle.xn_simple.specs.Tangle.{IsTangleOf, ListedTangle}
use Rattle.xn_simple.specs.Untangling.{IsDrawnBy, IsUntangled, KeepsMap}
use Rattle.xn_simple.proofs.Begun.{named_few}

pub loose_parts : (g : Graph) (l : ListedLoose) (map : ListedMap) (walks : List (List ℕ)) → IsLooseOf g l → map ≡ l.map → walks ≡ l.walks → IsLooseOf g (loose_of g.nodes map walks)
loose_parts g l map walks loose map_is walks_is =
    subst (λ n. IsLooseOf g (loose_of n map walks)) loose.nodes
    (subst (λ m. IsLooseOf g (loose_of l.nodes m walks)) (sym map_is) (subst (λ w. IsLooseOf g (loose_of l.nodes l.map w)) (sym walks_is) loose))

-- what is said of the drawing
pub record IsSimpleOf (g : Graph) (nodes : ℕ) (edges : List ℕ) (d : Drawing) : Type 0 where
  pub drawing : IsListedDrawing (subgraph_of g edges) d.orders d.next
  pub no_more : g.nodes + crossing_count (subgraph_of g edges) (order_of (subgraph_of g edges) d.orders) ≤ nodes

pub is_simple : (g : Graph) (l : ListedLoose) (map : ListedMap) (walks : List (List ℕ)) (start t : ListedTangle) → map ≡ l.map → walks ≡ l.walks →
    IsTangleOf g map (edges_in (loose_of g.nodes map walks)) start → KeepsMap start t × IsUntangled g t → (d : Drawing) → IsDrawnBy g t d →
    IsSimpleOf g l.map.web.nodes (edges_in l) d
is_simple g l map walks start t map_is walks_is begins ends d by =
    let edges : t.edges ≡ edges_in l = ends.0.same_edges ∙ begins.same_edges ∙ ap (λ w. edges_in (loose_of g.nodes map w)) walks_is in
    let nodes = ap (λ m. m.web.nodes) (ends.0.same_map ∙ begins.same_map ∙ map_is) in
    let named = named_few g t ends.1.tangle in
    let few = by.few in
    subst (λ es. IsSimpleOf g l.map.web.nodes es d) edges (record { drawing = by.drawing; no_more = omega (arith, few, named, nodes) })
