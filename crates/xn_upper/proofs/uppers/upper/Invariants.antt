use Rattle.std.proofs.Common.{◌<◌}
use Rattle.xn_upper.specs.Upper.{IsOrderOfAll, IsWholeOf}
use Rattle.xn_upper.proofs.uppers.upper.Given as goal

abbrev pub invariant-loop : goal.invariant-loop
invariant-loop l = record { order : IsOrderOfAll l.graph l.order.items; small : l.draws.state < 65537; best : IsWholeOf l.graph l.best }
