use Rattle.std.proofs.Common.{◌≡◌, map, take}
use Rattle.xn_list.specs.Lists.{lists_of}
use Rattle.xn_tree.specs.Given.{state_of}
use Rattle.xn_plant.specs.Listed.{planted_list}
use Rattle.xn_plant.proofs.orders.planted_orders.Given as goal

abbrev pub invariant-loop-e : goal.invariant-loop-e
invariant-loop-e l = lists_of l.lists.items ≡ map (planted_list (state_of l.given) l.edges) (take l.e-index l.edges)
