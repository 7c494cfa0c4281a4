use Rattle.std.proofs.Common.{◌≡◌}
use Rattle.xn_search.specs.Ones.{with_copies}
use Rattle.xn_search.proofs.ones.push_copies.Given as goal

abbrev pub invariant-loop : goal.invariant-loop
invariant-loop l = l.ones.items ≡ with_copies l.fn.ones.items l.counter l.number
