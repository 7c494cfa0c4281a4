use Rattle.std.proofs.Common.{◌≡◌, arith, ap, ◌∙◌}
use Rattle.std.specs.Prelude.{◌*ℤ◌, ◌-ℤ◌}
use Rattle.std.proofs.lemmas.List.{with_items_is}
use Rattle.xn_lp.specs.Whole.{weighted_total, cost_total, combined_total, number_at}
use Rattle.xn_lp.proofs.Totals.{first_prices}
use Rattle.xn_lp.proofs.prices.prices_of.Goals as goal

pub returns-clause-value : goal.returns-clause-value
returns-clause-value c u =
    let kept = with_items_is c.in_ok-prices.prices c.take_rows.new.prices (omega arith) in
    let first = first_prices c.in_ok-prices.prices.items c.args.lp.now.cost c.args.weight (rw c.as_slice.ensures at c.in_ok-prices.ensures.len) (rw c.as_slice.ensures at c.in_ok-prices.ensures.value) u in
    let lent : weighted_total c.as_mut_slice.result.now u ≡ c.args.weight *ℤ cost_total c.args.lp.now u = ap (λ xs. weighted_total xs u) c.as_mut_slice.ensures.value ∙ first in
    ap (λ xs. weighted_total xs u) kept ∙ c.in_ok-take_rows.ensures u ∙ ap (λ t. t -ℤ combined_total c.args.lp.now (number_at c.args.multipliers.now) u) lent
