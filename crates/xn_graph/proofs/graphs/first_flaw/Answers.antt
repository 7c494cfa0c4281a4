use Rattle.std.proofs.Common.{arith}
use Rattle.xn_graph.proofs.Ends.{IsGraph-from_each}
use Rattle.xn_graph.proofs.graphs.first_flaw.Goals as goal

pub returns-clause-none : goal.returns-clause-none
returns-clause-none c = record {
  is_graph = IsGraph-from_each c.args.nodes c.args.ends.now (λ e below. c.loop-e.invariant e (omega arith));
  few_nodes = c.requires.nodes;
  few_edges = c.requires.edges;
}
