use Rattle.std.proofs.Common.{◌≡◌, ◌+◌, ◌-◌, length}
use Rattle.std.specs.List.{range_with_len}
use Rattle.xn_model.specs.Graph.{pair_count_of, pairs_of}
use Rattle.xn_graph.proofs.graphs.Graph.pair_count.Given as goal

-- the pairs so far, and those among the edges that are left
abbrev pub invariant-loop-e : goal.invariant-loop-e
invariant-loop-e l = l.count + length (pairs_of l.self.ends (range_with_len l.e (length l.self.ends - l.e))) ≡ pair_count_of l.self
