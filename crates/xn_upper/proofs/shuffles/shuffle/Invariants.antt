use Rattle.std.proofs.Common.{◌<◌}
use Rattle.std.specs.Prelude.{IsPermutation}
use Rattle.xn_upper.proofs.shuffles.shuffle.Given as goal

abbrev pub invariant-loop-k : goal.invariant-loop-k
invariant-loop-k l = record { moved : IsPermutation l.fn.list l.list; small : l.draws.state < 65537 }
