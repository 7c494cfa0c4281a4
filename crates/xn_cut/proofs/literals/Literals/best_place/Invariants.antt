use Rattle.std.proofs.Common.{◌≤◌}
use Rattle.xn_cut.proofs.literals.Literals.best_place.Given as goal

abbrev pub invariant-loop-i : goal.invariant-loop-i
invariant-loop-i l = l.best ≤ l.i
