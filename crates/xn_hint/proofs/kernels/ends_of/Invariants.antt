use Rattle.std.proofs.Common.{◌≤◌, length}
use Rattle.std.specs.Prelude.{All}
use Rattle.xn_graph.specs.Limits.{IsEdge}
use Rattle.xn_hint.proofs.kernels.ends_of.Given as goal

-- the ends so far are of two different nodes, and few
abbrev pub invariant-loop-d : goal.invariant-loop-d
invariant-loop-d l = All (IsEdge l.fn.count) l.ends.items × (length l.ends.items ≤ l.most)
