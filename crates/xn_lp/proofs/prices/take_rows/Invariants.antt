use Rattle.std.proofs.Common.{◌≡◌, ℕ}
use Rattle.std.specs.Prelude.{ℤ, ◌*ℤ◌, ◌-ℤ◌}
use Rattle.xn_lp.specs.Program.{row_at}
use Rattle.xn_lp.specs.Whole.{total_to, number_at, weighted_total, row_total}
use Rattle.xn_lp.proofs.prices.take_rows.Given as goal

abbrev pub invariant-loop-i : goal.invariant-loop-i
invariant-loop-i l =
    (u : ℕ → ℤ) → weighted_total l.prices u
    ≡ weighted_total l.initial.prices u -ℤ total_to l.i (λ i. number_at l.multipliers i *ℤ row_total (row_at l.lp i) u)
