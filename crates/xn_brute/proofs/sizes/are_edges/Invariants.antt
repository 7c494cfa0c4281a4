use Rattle.std.proofs.Common.{ℕ, ◌<◌, get_or, length}
use Rattle.xn_brute.proofs.sizes.are_edges.Given as goal

abbrev pub invariant-loop-e : goal.invariant-loop-e
invariant-loop-e l = (k : ℕ) → k < l.e-index → get_or l.edges k 0 < length l.graph.ends
