use Rattle.std.proofs.Common.{ℕ, ◌<◌}
use Rattle.xn_model.specs.Graph.{ends_at}
use Rattle.xn_graph.specs.Limits.{IsEdge}
use Rattle.xn_graph.proofs.graphs.first_flaw.Given as goal

-- the edges so far join two different nodes
abbrev pub invariant-loop-e : goal.invariant-loop-e
invariant-loop-e l = (i : ℕ) → i < l.e → IsEdge l.nodes (ends_at l.ends i)
