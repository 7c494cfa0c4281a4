use Rattle.std.proofs.Common.{◌≡◌, ◌++◌, take}
use Rattle.std.specs.Prelude.{filter}
use Rattle.xn_tree.specs.Given.{state_of}
use Rattle.xn_plant.specs.Listed.{is_loose_on}
use Rattle.xn_plant.proofs.orders.push_loose.Given as goal

abbrev pub invariant-loop-f : goal.invariant-loop-f
invariant-loop-f l = l.list.items ≡ l.fn.list.items ++ filter (is_loose_on (state_of l.given) l.e) (take l.f-index l.edges)
