use Rattle.std.proofs.Common.{◌≡◌, ◌-◌, ◌++◌, length}
use Rattle.std.specs.List.{range_with_len}
use Rattle.xn_model.specs.Graph.{edges_of, pairs_of}
use Rattle.xn_graph.proofs.graphs.Graph.pairs.Given as goal

-- the pairs so far, and then those among the edges that are left
abbrev pub invariant-loop-e : goal.invariant-loop-e
invariant-loop-e l = l.list.items ++ pairs_of l.self.ends (range_with_len l.e (length l.self.ends - l.e)) ≡ pairs_of l.self.ends (edges_of l.self)
