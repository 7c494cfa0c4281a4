use Rattle.std.proofs.Common.{ℕ, List, sym, subst}
use Rattle.xn_graph.specs.Limits.{IsLimitedGraph, graph_of}
use Rattle.xn_sample.proofs.Limited.{limited}
use Rattle.xn_sample.proofs.samples.sample.Goals as goal

pub unreachable-requires : goal.unreachable-requires
unreachable-requires c =
    c.in-Err.ensures.ok
    (subst (λ (ends : List (ℕ × ℕ)). IsLimitedGraph (graph_of c.args.nodes ends)) (sym c.in_ok-ends.ensures) (limited c.args.nodes c.requires.0 c.requires.1))
