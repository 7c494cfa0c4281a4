use Rattle.std.proofs.Common.{◌≡◌}
use Rattle.std.specs.Prelude.{◌*ℤ◌}
use Rattle.xn_lp.specs.Program.{row_at}
use Rattle.xn_lp.specs.Whole.{total_to, number_at}
use Rattle.xn_lp.proofs.prices.combined_reach.Given as goal

abbrev pub invariant-loop-i : goal.invariant-loop-i
invariant-loop-i l = l.reach ≡ total_to l.i (λ i. number_at l.multipliers i *ℤ (row_at l.lp i).least)
