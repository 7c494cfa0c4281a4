use Rattle.std.proofs.Common.{◌≡◌, drop}
use Rattle.xn_brute.specs.Drawings.{is_distinct}
use Rattle.xn_brute.proofs.orders.is_distinct.Given as goal

abbrev pub invariant-loop-i : goal.invariant-loop-i
invariant-loop-i l = is_distinct (drop l.i l.list) ≡ is_distinct l.list
