use Rattle.std.proofs.Common.{◌<◌, ap, arith, length}
use Rattle.xn_graph.proofs.Ends.{EndsIn-swap_remove, length-swap_remove, swap_remove-default}
use Rattle.xn_graph.proofs.webs.Web.remove_segment.Goals as goal

pub invariant_of-self : goal.invariant_of-self
invariant_of-self c =
    let old = c.self.invariant in
    let ends = c.self.inside.ends.items in
    let s_in : c.args.s < length ends = omega (arith, c.requires, ap (λ w. length w.ends) c.self.view_is) in
    rw (c.swap_remove.ensures.items, swap_remove-default ends c.args.s c.swap_remove.result s_in)
    record {
      ends_in = EndsIn-swap_remove c.self.inside.nodes ends c.args.s s_in old.ends_in;
      few_nodes = old.few_nodes;
      few_segments = omega (arith, old.few_segments, length-swap_remove ends c.args.s (0, 0));
    }
