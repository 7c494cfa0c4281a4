use Rattle.std.proofs.Common.{ap, arith, length}
use Rattle.xn_model.specs.Graph.{Graph}
use Rattle.xn_tree.specs.Given.{state_of}
use Rattle.xn_tree.proofs.Paths.{few_placed}
use Rattle.xn_tree.proofs.walks.places.Goals as goal

pub prove-unreachable-requires : goal.prove-unreachable-requires
prove-unreachable-requires c =
    let v = c.args.given.now in
    absurd
    (omega (
      arith,
      few_placed v.graph (state_of v) c.graph.ensures.state c.args.e,
      ap (λ (g : Graph). length g.ends) c.graph.ensures.graph,
      ap length c.placed-places.ensures.list,
    ))
