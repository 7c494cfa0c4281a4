use Rattle.std.proofs.Common.{ℕ, ◌<◌, sym, subst, length}
use Rattle.std.proofs.lemmas.List.{get_or_read}
use Rattle.xn_graph.specs.Limits.{IsEdge, graph_of}
use Rattle.xn_graph.proofs.Ends.{IsEdge-at}
use Rattle.xn_graph.proofs.graphs.Graph.end.Goals as goal

pub returns-clause-edge : goal.returns-clause-edge
returns-clause-edge c =
    let g = c.self.inside in
    let below : c.args.e < length g.ends.items = rw (← c.self.view_is) at c.requires in
    let P : ℕ × ℕ → Type 0 = IsEdge g.nodes in
    rw (← c.self.view_is) (subst P (sym (get_or_read g.ends.items _ _ below c.index.ensures (0, 0)))
    (IsEdge-at (graph_of g.nodes g.ends.items) c.self.invariant.is_graph c.args.e below))
