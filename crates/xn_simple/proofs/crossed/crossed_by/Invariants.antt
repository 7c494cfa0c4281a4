use Rattle.std.proofs.Common.{◌≡◌, ◌+◌, ◌++◌, drop}
use Rattle.xn_model.specs.Lists.{at}
use Rattle.xn_simple.specs.Crossed.{crossed_from}
use Rattle.xn_simple.proofs.crossed.crossed_by.Given as goal

-- those so far, and then those of the rest of the list
abbrev pub invariant-loop-f : goal.invariant-loop-f
invariant-loop-f l = record {
  place : l.s ≡ l.first + l.f-index;
  crossed : l.crossed.items ++ crossed_from (at l.map.next) l.s (drop l.f-index l.list) ≡ crossed_from (at l.map.next) l.first l.list;
}
