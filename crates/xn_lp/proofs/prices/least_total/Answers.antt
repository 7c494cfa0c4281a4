use Rattle.std.proofs.Common.{refl}
use Rattle.xn_lp.proofs.LeastTotals.{least_from_prices}
use Rattle.xn_lp.proofs.prices.least_total.Goals as goal

pub returns : goal.returns
returns c =
    least_from_prices c.args.lp.now c.args.weight _ c.in_ok-prices.prices.items c.in_ok-plus.field-0 c.in_ok-prices.ensures.len c.in_ok-prices.ensures.value
    (rw (c.in_ok-plus.ensures, c.in_ok-reach.ensures, c.in_ok-low_total.ensures, c.as_slice.ensures.value) refl)
