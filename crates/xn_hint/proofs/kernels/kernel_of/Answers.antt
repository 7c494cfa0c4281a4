use Rattle.xn_hint.proofs.Ending.{limited_of_edges}
use Rattle.xn_hint.proofs.kernels.kernel_of.Goals as goal

pub unreachable-requires : goal.unreachable-requires
unreachable-requires c =
    c.in-Err.ensures.ok (limited_of_edges c.args.count c.in_ok-ends.ends.items c.in_ok-ends.ensures.edges c.requires c.in_ok-ends.ensures.few)
