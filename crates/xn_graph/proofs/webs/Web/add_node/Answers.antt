use Rattle.std.proofs.Common.{ap, arith}
use Rattle.xn_graph.proofs.Ends.{EndsIn-more_nodes}
use Rattle.xn_graph.proofs.webs.Web.add_node.Goals as goal

pub invariant_of-self : goal.invariant_of-self
invariant_of-self c =
    let old = c.self.invariant in
    record {
      ends_in = EndsIn-more_nodes c.self.inside.nodes c.self.inside.ends.items old.ends_in;
      few_nodes = omega (arith, c.requires.few, ap (λ w. w.nodes) c.self.view_is);
      few_segments = old.few_segments;
    }
