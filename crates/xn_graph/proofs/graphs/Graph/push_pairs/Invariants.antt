use Rattle.std.proofs.Common.{◌≡◌, ◌-◌, ◌++◌, length, map}
use Rattle.std.specs.List.{range_with_len}
use Rattle.std.specs.Prelude.{filter}
use Rattle.xn_model.specs.Graph.{independent}
use Rattle.xn_graph.specs.Pairs.{pairs_from}
use Rattle.xn_graph.proofs.graphs.Graph.push_pairs.Given as goal

-- the pairs so far, and then those with the edges that are left
abbrev pub invariant-loop-f : goal.invariant-loop-f
invariant-loop-f l =
    l.list.items ++ map (λ f. (l.e, f)) (filter (independent l.self.ends l.e) (range_with_len l.f (length l.self.ends - l.f)))
    ≡ l.initial.list.items ++ pairs_from l.self l.e
