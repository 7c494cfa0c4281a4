use Rattle.std.proofs.Common.{ℕ, ◌<◌}
use Rattle.std.specs.Prelude.{pos, ◌<ℤ◌}
use Rattle.xn_lp.specs.Box.{entry}
use Rattle.xn_lp.specs.Whole.{Divides}
use Rattle.xn_lp.proofs.scaled.common_denominator.Given as goal

abbrev pub invariant-loop-fraction : goal.invariant-loop-fraction
invariant-loop-fraction l = (pos 0 <ℤ l.over) × ((i : ℕ) → i < l.fraction-index → Divides (entry l.fractions i).den l.over)
