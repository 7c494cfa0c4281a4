use Rattle.std.proofs.Common.{below_more, rules, ◌≡◌, ◌<◌, length, arith, ap, ◌∙◌}
use Rattle.std.specs.Prelude.{◌*ℤ◌, ◌≤ℤ◌}
use Rattle.std.proofs.lemmas.List.{get_or_read}
use Rattle.std.specs.Int.{w128}
use Rattle.std.specs.Int.RustNames.{FitsSigned}
use Rattle.std.proofs.lemmas.Int.{ints, to_z-of_z}
use Rattle.xn_lp.specs.Program.{row_at}
use Rattle.xn_lp.specs.Whole.{row_total, number_at}
use Rattle.xn_lp.specs.declared.program.LpRow.{LpRow}
use Rattle.xn_lp.proofs.checks.meets_rows.Goals as goal

pub sum_of-requires : goal.sum_of-requires
sum_of-requires c k l =
    let in' : c.loop-i.i < length c.args.lp.now.rows = omega arith in
    let row : c.at-row.result.now ≡ row_at c.args.lp.now c.loop-i.i = get_or_read c.args.lp.now.rows _ _ in' c.at-row.ensures _ in
    let terms = c.as_slice.ensures ∙ ap (λ (r : LpRow). r.terms) row in
    let below = c.requires.columns c.loop-i.i k in' (rw terms at l) in
    rw terms (omega (arith, below))

pub loop-i-preserved : goal.loop-i-preserved
loop-i-preserved c =
    let in' : c.loop-i.i < length c.args.lp.now.rows = omega arith in
    let row : c.at-row.result.now ≡ row_at c.args.lp.now c.loop-i.i = get_or_read c.args.lp.now.rows _ _ in' c.at-row.ensures _ in
    let terms = c.as_slice.ensures ∙ ap (λ (r : LpRow). r.terms) row in
    let fits : FitsSigned w128 c.value.result = search rules in
    let fits_reach : FitsSigned w128 c.value-in-loop-i.result = search rules in
    let test = rw (to_z-of_z w128 c.value.result fits, to_z-of_z w128 c.value-in-loop-i.result fits_reach) at c.if-value.false in
    let least : c.new.result ≡ c.at-row.result.now.least = search rules in
    let reach : c.in_ok-reach.reach ≡ (row_at c.args.lp.now c.loop-i.i).least *ℤ c.args.point.now.over
    = c.in_ok-reach.ensures ∙ ap (λ t. t *ℤ c.args.point.now.over) (least ∙ ap (λ (r : LpRow). r.least) row) in
    let sum : c.in_ok-sum.sum ≡ row_total (row_at c.args.lp.now c.loop-i.i) (number_at c.args.point.now.numbers.items)
    = rw (terms, c.as_slice-in-loop-i.ensures.value) at c.in_ok-sum.ensures in
    let here : c.in_ok-reach.reach ≤ℤ c.in_ok-sum.sum = omega (arith, ints) in
    below_more _ _ c.loop-i.invariant (rw (reach, sum) at here)
