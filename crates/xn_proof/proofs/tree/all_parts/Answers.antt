use Rattle.std.proofs.Common.{◌≤◌, ◌^◌, ◌∷◌, ◌∙◌, ap, arith}
use Rattle.std.proofs.lemmas.Result.{err_from_is_err_and}
use Rattle.xn_proof.proofs.Tested.{parts_end, parts_fail_first, parts_fail_second, parts_lead, parts_odd}
use Rattle.xn_proof.proofs.tree.all_parts.Goals as goal

pub returns-in_default-next : goal.returns-in_default-next
returns-in_default-next c =
    let one = c.in-Some.ensures.some ∙ ap (λ vs. c.in-Some.row ∷ vs) c.in_default-next.ensures.none.0 in
    rw c.syntax.ensures (parts_odd c.args.rows c.args.number c.loop-row.rest c.in-Some.row c.args.values.now one c.loop-row.invariant)

pub returns-in_err-below : goal.returns-in_err-below
returns-in_err-below c =
    let p = err_from_is_err_and c.from_residual.result c.from_residual.ensures.1 in
    let two = c.in-Some.ensures.some ∙ ap (λ vs. c.in-Some.row ∷ vs) c.in-Some-next.ensures.some in
    rw (p.1, p.2) (parts_fail_first c.args.rows c.args.number c.in_err-below.field-0.0 c.loop-row.rest c.in-Some.row c.in-Some-next.multiplier c.next-in-Some.new.self c.args.values.now two c.in_err-below.ensures.read c.loop-row.invariant)

pub returns-in_err-factor : goal.returns-in_err-factor
returns-in_err-factor c =
    let p = err_from_is_err_and c.from_residual-in_err-factor.result c.from_residual-in_err-factor.ensures.1 in
    let two = c.in-Some.ensures.some ∙ ap (λ vs. c.in-Some.row ∷ vs) c.in-Some-next.ensures.some in
    rw (p.1, p.2) (parts_fail_second c.args.rows c.args.number c.in_err-factor.field-0.0 c.loop-row.rest c.in-Some.row c.in-Some-next.multiplier c.next-in-Some.new.self c.args.values.now c.in_ok-below.field-0 two c.in_ok-below.ensures.read c.in_err-factor.ensures c.loop-row.invariant)

pub loop-row-preserved : goal.loop-row-preserved
loop-row-preserved c =
    let two = c.in-Some.ensures.some ∙ ap (λ vs. c.in-Some.row ∷ vs) c.in-Some-next.ensures.some in
    let few : c.args.rows ≤ 2 ^ 32 = omega arith in
    parts_lead c.args.rows c.args.number c.loop-row.rest c.in-Some.row c.in-Some-next.multiplier c.next-in-Some.new.self c.args.values.now c.in_ok-below.field-0 c.in_ok-factor.field-0 few two c.in_ok-below.ensures.read c.in_ok-factor.ensures c.loop-row.invariant

pub returns : goal.returns
returns c = parts_end c.args.rows c.args.number c.loop-row.rest c.args.values.now c.in_default.ensures.none.0 c.loop-row.invariant
