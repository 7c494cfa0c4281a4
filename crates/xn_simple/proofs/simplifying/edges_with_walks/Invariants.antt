use Rattle.std.proofs.Common.{◌≡◌}
use Rattle.std.specs.Prelude.{filter}
use Rattle.std.specs.List.{range_with_len}
use Rattle.xn_list.specs.Lists.{lists_of}
use Rattle.xn_insert.specs.ListedLoose.{has_dart, walk_of}
use Rattle.xn_simple.proofs.simplifying.edges_with_walks.Given as goal

-- those below e
abbrev pub invariant-loop-e : goal.invariant-loop-e
invariant-loop-e l = l.edges.items ≡ filter (λ x. has_dart (walk_of (lists_of l.lists) x)) (range_with_len 0 l.e)
