use Rattle.std.proofs.Common.{◌≡◌, ◌<◌, ℕ, length}
use Rattle.xn_lp.specs.Box.{entry}
use Rattle.xn_lp.specs.Whole.{number_at, IsOver}
use Rattle.xn_lp.proofs.scaled.numerators.Given as goal

abbrev pub invariant-loop-fraction : goal.invariant-loop-fraction
invariant-loop-fraction l =
    (length l.numbers.items ≡ l.fraction-index) × ((i : ℕ) → i < l.fraction-index → IsOver (entry l.fractions i) (number_at l.numbers.items i) l.over)
