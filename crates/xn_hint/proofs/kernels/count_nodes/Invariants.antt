use Rattle.std.proofs.Common.{◌≤◌}
use Rattle.xn_hint.proofs.kernels.count_nodes.Given as goal

abbrev pub invariant-loop-v : goal.invariant-loop-v
invariant-loop-v l = l.count ≤ l.v
