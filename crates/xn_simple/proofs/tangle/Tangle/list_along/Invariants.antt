use Rattle.std.proofs.Common.{◌≡◌, ◌++◌, drop, map}
use Rattle.xn_model.specs.Lists.{at}
use Rattle.xn_track.specs.Tidying.{other_at}
use Rattle.xn_simple.specs.Tangle.{lists_in, named, walk_in}
use Rattle.xn_simple.specs.Tidied.{is_crossed}
use Rattle.xn_simple.specs.Untangling.{order_in}
use Rattle.xn_simple.proofs.Read.{numbers_past}
use Rattle.xn_simple.proofs.tangle.Tangle.list_along.Given as goal

-- the numbers so far, and then those at the darts that are left
abbrev pub invariant-loop-i : goal.invariant-loop-i
invariant-loop-i l =
    let t = lists_in l.self in
    l.list.items ++ numbers_past t.map.web.ends (is_crossed t.edges t.map.web.ends (named t) (walk_in t) l.e) (other_at t.edges t.map.web.ends (walk_in t) l.e) (at l.numbers)
    (drop l.i (walk_in t l.e))
    ≡ map (at l.numbers) (order_in t l.e)
