use Rattle.std.proofs.Common.{◌≡◌, ◌+◌, ◌≤◌, length, All}
use Rattle.indexmap.specs.IndexMap.{index_map_len}
use Rattle.xn_graph.specs.Limits.{IsEdge}
use Rattle.xn_gml.specs.declared.token.Key.TheVariants.{Edge}
use Rattle.xn_gml.specs.EdgeView.{edges_kept}
use Rattle.xn_gml.specs.Lists.{lists_of}
use Rattle.xn_gml.specs.Meaning.{edges_from, no_edges}
use Rattle.xn_gml.proofs.edges.edge_list.Given as goal

abbrev pub invariant-loop-block : goal.invariant-loop-block
invariant-loop-block l = record {
  read : edges_from 1000 l.ids.entries (edges_kept l.edges) (lists_of Edge l.tokens) ≡ edges_from 1000 l.ids.entries no_edges (lists_of Edge l.list);
  loops : l.edges.loops + length l.tokens ≤ length l.initial.tokens;
  few : length l.edges.ends.items ≤ 1000;
  inside : All (IsEdge (index_map_len l.ids)) l.edges.ends.items;
}

abbrev pub decreases-loop-block : goal.decreases-loop-block
decreases-loop-block l = length l.tokens
