use Rattle.std.proofs.Common.{◌≡◌, ◌++◌, take}
use Rattle.xn_components.proofs.laying.joined.Given as goal

abbrev pub invariant-loop-x : goal.invariant-loop-x
invariant-loop-x l = l.both.items ≡ l.fn.list.items ++ take l.x-index l.more
