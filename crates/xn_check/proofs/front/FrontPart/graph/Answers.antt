use Rattle.std.proofs.Common.{◌∙◌, ℕ, List, subst, sym}
use Rattle.xn_graph.specs.Limits.{IsLimitedGraph, graph_of}
use Rattle.xn_graph.proofs.Ends.{IsGraph-from_each}
use Rattle.xn_check.proofs.front.FrontPart.graph.Goals as goal

pub unreachable-requires : goal.unreachable-requires
unreachable-requires c =
    let nodes = c.self.inside.nodes in
    let ends = c.self.inside.ends.items in
    let limited : IsLimitedGraph (graph_of nodes ends) = record {
      is_graph = IsGraph-from_each nodes ends (λ e low. c.self.invariant.edges e (0, 0) low);
      few_nodes = c.self.invariant.few_nodes;
      few_edges = c.self.invariant.few_edges;
    } in
    let same = c.in_ok-from_slice.ensures.items ∙ c.as_slice.ensures.value in
    c.in-Err.ensures.ok (subst (λ (es : List (ℕ × ℕ)). IsLimitedGraph (graph_of nodes es)) (sym same) limited)
