-- Segments that each join two different nodes are a web.
use Rattle.std.proofs.Common.{ℕ, ◌^◌, ◌≤◌, List, length}
use Rattle.std.specs.Prelude.{All}
use Rattle.xn_graph.specs.Limits.{IsEdge, IsLimitedWeb, graph_of}
use Rattle.xn_graph.proofs.Ends.{IsGraph-from_each}

pub limited_of_edges : (nodes : ℕ) (ends : List (ℕ × ℕ)) → All (IsEdge nodes) ends → nodes ≤ 2 ^ 30 → length ends ≤ 2 ^ 30 →
    IsLimitedWeb (graph_of nodes ends)
limited_of_edges nodes ends edges few_nodes few_segments = record {
  ends_in = (IsGraph-from_each nodes ends (λ e e_in. edges e (0, 0) e_in)).ends_in;
  few_nodes = few_nodes;
  few_segments = few_segments;
}
