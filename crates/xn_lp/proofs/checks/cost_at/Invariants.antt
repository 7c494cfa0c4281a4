use Rattle.std.proofs.Common.{◌≡◌}
use Rattle.std.specs.Prelude.{◌*ℤ◌}
use Rattle.xn_lp.specs.Whole.{total_to, number_at}
use Rattle.xn_lp.proofs.checks.cost_at.Given as goal

abbrev pub invariant-loop-i : goal.invariant-loop-i
invariant-loop-i l = l.total ≡ total_to l.i (λ j. number_at l.lp.cost j *ℤ number_at l.numbers j)
