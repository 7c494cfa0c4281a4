use Rattle.std.proofs.Common.{◌≡◌, ◌<◌, length, arith, rules, refl}
use Rattle.std.specs.Prelude.{pos}
use Rattle.std.proofs.lemmas.List.{get_or_read}
use Rattle.xn_lp.specs.Program.{term_at}
use Rattle.xn_lp.specs.Whole.{number_at}
use Rattle.xn_lp.proofs.Totals.{take_step, last_weighted}
use Rattle.xn_lp.proofs.prices.take_row.Goals as goal

pub loop-column-preserved : goal.loop-column-preserved
loop-column-preserved c =
    let named = c.requires c.loop-column.column-index c.loop-column-test.true in
    let in' : (term_at c.args.terms.now c.loop-column.column-index).0 < length c.loop-column.prices = omega arith in
    let old : c.index-prices-at.result ≡ number_at c.loop-column.prices (term_at c.args.terms.now c.loop-column.column-index).0
    = get_or_read c.loop-column.prices _ _ in' c.index-prices-at.is (pos 0) in
    let coefficient : c.new.result ≡ (term_at c.args.terms.now c.loop-column.column-index).1 = search rules in
    take_step c.loop-column.prices c.args.prices.now c.args.terms.now c.args.multiplier c.loop-column.column-index c.in_ok-prices.field-0 in'
    (rw (c.in_ok-prices.ensures, c.negated.ensures, c.in_ok-part.ensures, old, coefficient) refl) c.loop-column.invariant

pub returns : goal.returns
returns c = last_weighted c.loop-column.prices c.args.prices.now c.args.terms.now c.args.multiplier c.loop-column.column-index (omega arith) c.loop-column.invariant
