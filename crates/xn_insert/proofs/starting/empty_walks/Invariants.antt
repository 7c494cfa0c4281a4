use Rattle.std.proofs.Common.{◌≡◌, [], replicate}
use Rattle.xn_list.specs.Lists.{lists_of}
use Rattle.xn_insert.proofs.starting.empty_walks.Given as goal

abbrev pub invariant-loop : goal.invariant-loop
invariant-loop l = lists_of l.walks.items ≡ replicate l.counter []
