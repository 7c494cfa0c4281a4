use Rattle.std.proofs.Common.{◌≡◌, ℕ}
use Rattle.std.specs.Prelude.{ℤ, ◌*ℤ◌, ◌-ℤ◌}
use Rattle.xn_lp.specs.Program.{term_at}
use Rattle.xn_lp.specs.Whole.{total_to, weighted_total}
use Rattle.xn_lp.proofs.prices.take_row.Given as goal

abbrev pub invariant-loop-column : goal.invariant-loop-column
invariant-loop-column l =
    (u : ℕ → ℤ) → weighted_total l.prices u
    ≡ weighted_total l.initial.prices u -ℤ l.multiplier *ℤ total_to l.column-index (λ k. (term_at l.terms k).1 *ℤ u (term_at l.terms k).0)
