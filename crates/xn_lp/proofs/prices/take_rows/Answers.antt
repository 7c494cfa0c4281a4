use Rattle.std.proofs.Common.{◌≡◌, ◌<◌, length, arith, ap, ◌∙◌}
use Rattle.std.specs.Prelude.{pos}
use Rattle.std.proofs.lemmas.List.{get_or_read}
use Rattle.xn_lp.specs.Program.{row_at}
use Rattle.xn_lp.specs.Whole.{weighted_total}
use Rattle.xn_lp.specs.declared.program.LpRow.{LpRow}
use Rattle.xn_lp.proofs.Totals.{row_step}
use Rattle.xn_lp.proofs.prices.take_rows.Goals as goal

pub take_row-requires : goal.take_row-requires
take_row-requires c k l =
    let in' : c.loop-i.i < length c.args.lp.now.rows = omega arith in
    let row : c.at.result.now ≡ row_at c.args.lp.now c.loop-i.i = get_or_read c.args.lp.now.rows _ _ in' c.at.ensures _ in
    let terms = c.as_slice.ensures ∙ ap (λ (r : LpRow). r.terms) row in
    let below = c.requires.columns c.loop-i.i k in' (rw terms at l) in
    rw terms (omega (arith, below))

pub loop-i-preserved : goal.loop-i-preserved
loop-i-preserved c u =
    let in' : c.loop-i.i < length c.args.lp.now.rows = omega arith in
    let row : c.at.result.now ≡ row_at c.args.lp.now c.loop-i.i = get_or_read c.args.lp.now.rows _ _ in' c.at.ensures _ in
    let terms = c.as_slice.ensures ∙ ap (λ (r : LpRow). r.terms) row in
    let multiplier = get_or_read c.args.multipliers.now _ _ (omega arith) c.index-multipliers-i.is (pos 0) in
    row_step _ (weighted_total c.loop-i.prices u) _ _ c.loop-i.i (rw (multiplier, terms) at (c.in_ok-take_row.ensures u)) (c.loop-i.invariant u)

pub returns : goal.returns
returns c = λ u. let all : c.loop-i.i ≡ length c.args.lp.now.rows = omega arith in rw (← all) (c.loop-i.invariant u)
