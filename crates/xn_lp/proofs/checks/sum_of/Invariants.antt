use Rattle.std.proofs.Common.{◌≡◌}
use Rattle.std.specs.Prelude.{◌*ℤ◌}
use Rattle.xn_lp.specs.Program.{term_at}
use Rattle.xn_lp.specs.Whole.{total_to, number_at}
use Rattle.xn_lp.proofs.checks.sum_of.Given as goal

abbrev pub invariant-loop-column : goal.invariant-loop-column
invariant-loop-column l = l.total ≡ total_to l.column-index (λ k. (term_at l.terms k).1 *ℤ number_at l.numbers (term_at l.terms k).0)
