use Rattle.std.proofs.Common.{ap, arith, length-set}
use Rattle.xn_graph.proofs.Ends.{EndsIn-set}
use Rattle.xn_graph.proofs.webs.Web.set_end.Goals as goal

pub invariant_of-self : goal.invariant_of-self
invariant_of-self c =
    let old = c.self.invariant in
    let nodes = ap (λ w. w.nodes) c.self.view_is in
    let ends = c.self.inside.ends.items in
    record {
      ends_in = EndsIn-set c.self.inside.nodes ends c.args.s (c.args.u, c.args.v) old.ends_in (omega (arith, c.requires.nodes.0, nodes), omega (arith, c.requires.nodes.1, nodes));
      few_nodes = old.few_nodes;
      few_segments = omega (arith, old.few_segments, length-set ends c.args.s (c.args.u, c.args.v));
    }
