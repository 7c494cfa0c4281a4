use Rattle.std.proofs.Common.{◌≡◌, ◌-◌, length, All}
use Rattle.xn_graph.specs.Limits.{IsEdge}
use Rattle.xn_proof.specs.Fronts.{edge_at}
use Rattle.xn_proof.specs.Reading.{many_at}
use Rattle.xn_proof.proofs.Loop.{with_items}
use Rattle.xn_proof.proofs.items.edge_lines.Given as goal

-- the edges so far and those of the lines that are left are all of them
abbrev pub invariant-loop-edge : goal.invariant-loop-edge
invariant-loop-edge l = record {
  read : with_items l.ends.items (many_at (edge_at l.nodes) l.edge (l.count - l.edge) l.reader) ≡ many_at (edge_at l.nodes) 0 l.count l.fn.reader;
  count : length l.ends.items ≡ l.edge;
  inside : All (IsEdge l.nodes) l.ends.items;
}
