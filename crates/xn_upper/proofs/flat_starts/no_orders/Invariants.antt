use Rattle.std.proofs.Common.{◌≡◌, [], replicate}
use Rattle.xn_upper.proofs.flat_starts.no_orders.Given as goal

abbrev pub invariant-loop : goal.invariant-loop
invariant-loop l = l.orders ≡ replicate l.counter []
