use Rattle.std.proofs.Common.{◌≡◌, ◌<◌, ℕ, length}
use Rattle.std.specs.Prelude.{◌*ℤ◌}
use Rattle.xn_lp.specs.Whole.{number_at}
use Rattle.xn_lp.proofs.prices.weighted_costs.Given as goal

abbrev pub invariant-loop-c : goal.invariant-loop-c
invariant-loop-c l =
    (length l.prices.items ≡ l.c-index) × ((j : ℕ) → j < l.c-index → number_at l.prices.items j ≡ l.weight *ℤ number_at l.cost j)
