use Rattle.std.proofs.Common.{◌≡◌, map, take}
use Rattle.std.specs.List.{flat_map}
use Rattle.xn_model.specs.Lists.{at}
use Rattle.xn_simple.specs.Tangle.{lists_in}
use Rattle.xn_simple.specs.Untangling.{order_in, starts_in_walk}
use Rattle.xn_simple.proofs.tangle.Tangle.read.Given as goal

-- those of the first edges
abbrev pub invariant-loop-e : goal.invariant-loop-e
invariant-loop-e l =
    let t = lists_in l.self in
    record {
      orders : l.orders ≡ map (λ e. map (at l.numbers) (order_in t e)) (take l.e-index t.edges);
      starts : l.starts.items ≡ flat_map (starts_in_walk t) (take l.e-index t.edges);
    }
