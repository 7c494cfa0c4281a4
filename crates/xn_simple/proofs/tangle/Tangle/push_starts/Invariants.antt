use Rattle.std.proofs.Common.{◌≡◌, ◌++◌, ◌-◌, drop}
use Rattle.xn_model.specs.Lists.{at}
use Rattle.xn_simple.specs.Tangle.{lists_in, named, walk_in}
use Rattle.xn_simple.specs.Tidied.{is_crossed, starts_past}
use Rattle.xn_simple.specs.Untangling.{starts_in_walk}
use Rattle.xn_simple.proofs.tangle.Tangle.push_starts.Given as goal

-- the darts so far, and then those after the last one
abbrev pub invariant-loop-i : goal.invariant-loop-i
invariant-loop-i l =
    let t = lists_in l.self in
    l.starts.items ++ starts_past t.map.web.ends (is_crossed t.edges t.map.web.ends (named t) (walk_in t) l.e) (at (walk_in t l.e) (l.i - 1)) (drop l.i (walk_in t l.e))
    ≡ l.fn.starts.items ++ starts_in_walk t l.e
