use Rattle.std.proofs.Common.{ℕ, ◌<◌}
use Rattle.xn_model.specs.Graph.{ends_at}
use Rattle.xn_graph.specs.Limits.{HasNodes}
use Rattle.xn_graph.proofs.webs.first_outside.Given as goal

-- the segments so far have their ends within the nodes
abbrev pub invariant-loop-s : goal.invariant-loop-s
invariant-loop-s l = (i : ℕ) → i < l.s → HasNodes l.nodes (ends_at l.ends i)
