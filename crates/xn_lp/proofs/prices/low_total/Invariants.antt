use Rattle.std.proofs.Common.{◌≡◌}
use Rattle.xn_lp.specs.Whole.{total_to, number_at, low_part}
use Rattle.xn_lp.proofs.prices.low_total.Given as goal

abbrev pub invariant-loop-price : goal.invariant-loop-price
invariant-loop-price l = l.total ≡ total_to l.price-index (λ j. low_part (number_at l.prices j))
