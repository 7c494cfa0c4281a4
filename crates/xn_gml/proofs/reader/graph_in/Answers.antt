use Rattle.std.proofs.Common.{ℕ, All, sym, subst, arith}
use Rattle.xn_graph.specs.Limits.{IsEdge}
use Rattle.xn_gml.proofs.BlockSteps.{limited}
use Rattle.xn_gml.proofs.reader.graph_in.Goals as goal

pub unreachable-requires : goal.unreachable-requires
unreachable-requires c =
    let ends = c.in_ok-edges.edges.ends.items in
    c.in-Err.ensures.ok (limited c.len-nodes.result ends (omega (arith, c.in_ok-ids.ensures.few, c.len-nodes.ensures.len)) c.in_ok-edges.ensures.few
    (subst (λ (n : ℕ). All (IsEdge n) ends) (sym c.len-nodes.ensures.len) c.in_ok-edges.ensures.inside))
