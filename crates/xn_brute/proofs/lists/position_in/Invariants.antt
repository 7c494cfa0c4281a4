use Rattle.std.proofs.Common.{◌≡◌, ◌+◌, drop}
use Rattle.xn_model.specs.Lists.{position_in}
use Rattle.xn_brute.proofs.lists.position_in.Given as goal

abbrev pub invariant-loop-i : goal.invariant-loop-i
invariant-loop-i l = l.i + position_in (drop l.i l.list) l.x ≡ position_in l.list l.x
