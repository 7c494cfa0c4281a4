use Rattle.std.proofs.Common.{◌≡◌, ◌++◌, take}
use Rattle.std.specs.Prelude.{filter}
use Rattle.xn_model.specs.Lists.{has}
use Rattle.xn_plant.proofs.orders.push_placed.Given as goal

abbrev pub invariant-loop-f : goal.invariant-loop-f
invariant-loop-f l = l.list.items ≡ l.fn.list.items ++ filter (has l.edges) (take l.f-index l.placed)
