use Rattle.std.proofs.lemmas.Result.{OkIff-at_err}
use Rattle.xn_graph.specs.Limits.{IsLimitedGraph, graph_of}
use Rattle.xn_graph.proofs.Ends.{IsGraph-from_each}
use Rattle.xn_proof.proofs.front.graph_of.Goals as goal

pub unreachable-requires : goal.unreachable-requires
unreachable-requires c =
    let ends = c.args.ends.items in
    let g = graph_of c.args.nodes ends in
    let limited : IsLimitedGraph g = record {
      is_graph = IsGraph-from_each c.args.nodes ends (λ e low. c.requires.inside e (0, 0) low);
      few_nodes = c.requires.nodes;
      few_edges = c.requires.edges;
    } in
    OkIff-at_err c.make.result (IsLimitedGraph g) g c.in-Err.field-0 c.make.ensures.ok c.in-Err.is limited
