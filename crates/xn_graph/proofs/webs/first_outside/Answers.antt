use Rattle.std.proofs.Common.{arith}
use Rattle.xn_graph.proofs.Ends.{EndsIn-from_each}
use Rattle.xn_graph.proofs.webs.first_outside.Goals as goal

pub returns-clause-none : goal.returns-clause-none
returns-clause-none c = record {
  ends_in = EndsIn-from_each c.args.nodes c.args.ends.now (λ s below. c.loop-s.invariant s (omega arith));
  few_nodes = c.requires.nodes;
  few_segments = c.requires.segments;
}
