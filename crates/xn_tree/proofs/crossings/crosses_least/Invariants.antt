use Rattle.std.proofs.Common.{◌*◌}
use Rattle.xn_tree.specs.Leaf.{IsSmall, all_crosses, crosses_from, state_in}
use Rattle.xn_tree.specs.Least.{Moves}
use Rattle.xn_tree.proofs.crossings.crosses_least.Given as goal

abbrev pub invariant-loop-e : goal.invariant-loop-e
invariant-loop-e l = record {
  small : IsSmall (l.e * 1000) l.sum;
  least : Moves (state_in l.leaf) (crosses_from l.leaf.graph.now l.leaf.rows.now l.leaf.parts.now l.leaf.d l.e) (all_crosses l.leaf) l.sum;
}
