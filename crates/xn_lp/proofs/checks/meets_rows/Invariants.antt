use Rattle.std.proofs.Common.{ℕ, ◌<◌}
use Rattle.std.specs.Prelude.{◌*ℤ◌, ◌≤ℤ◌}
use Rattle.xn_lp.specs.Program.{row_at}
use Rattle.xn_lp.specs.Whole.{number_at, row_total}
use Rattle.xn_lp.proofs.checks.meets_rows.Given as goal

abbrev pub invariant-loop-i : goal.invariant-loop-i
invariant-loop-i l = (k : ℕ) → k < l.i → ((row_at l.lp k).least *ℤ l.point.over) ≤ℤ row_total (row_at l.lp k) (number_at l.point.numbers.items)
