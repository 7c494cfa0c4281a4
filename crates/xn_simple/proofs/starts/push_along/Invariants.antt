use Rattle.std.proofs.Common.{◌≡◌, ◌-◌, ◌++◌, drop}
use Rattle.xn_model.specs.Lists.{at}
use Rattle.xn_simple.specs.Crossed.{starts_after, starts_along}
use Rattle.xn_simple.proofs.starts.push_along.Given as goal

-- those so far, and then those of the rest of the list
abbrev pub invariant-loop-s : goal.invariant-loop-s
invariant-loop-s l =
    l.starts.items ++ starts_after (at l.map.next) l.s (drop (l.s - l.first) l.list)
    ≡ l.fn.starts.items ++ starts_along (at l.map.next) l.first l.list
