use Rattle.std.proofs.Common.{◌≡◌, take}
use Rattle.xn_list.specs.Lists.{lists_of}
use Rattle.xn_brute.proofs.searches.with_list.Given as goal

-- the lists so far
abbrev pub invariant-loop-i : goal.invariant-loop-i
invariant-loop-i l = lists_of l.more.items ≡ take l.i l.lists
