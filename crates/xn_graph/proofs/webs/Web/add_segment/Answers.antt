use Rattle.std.proofs.Common.{◌∷◌, [], ap, arith, length, length-append}
use Rattle.xn_graph.proofs.Ends.{EndsIn-push}
use Rattle.xn_graph.proofs.webs.Web.add_segment.Goals as goal

pub invariant_of-self-2 : goal.invariant_of-self-2
invariant_of-self-2 c =
    let old = c.self.invariant in
    let ends = c.self.inside.ends.items in
    let nodes = ap (λ w. w.nodes) c.self.view_is in
    rw (c.push_reserved.ensures.items, c.reserve.ensures.items)
    record {
      ends_in = EndsIn-push c.self.inside.nodes ends (c.args.u, c.args.v) old.ends_in (omega (arith, c.requires.nodes.0, nodes), omega (arith, c.requires.nodes.1, nodes));
      few_nodes = old.few_nodes;
      few_segments = omega (arith, c.requires.few, ap (λ w. length w.ends) c.self.view_is, length-append ends ((c.args.u, c.args.v) ∷ []));
    }
