use Rattle.std.proofs.Common.{◌+◌, arith, ap, false, length, refl}
use Rattle.std.proofs.lemmas.Bool.{both_ways}
use Rattle.xn_draw.proofs.Totals.{total-take-le, total-take_more}
use Rattle.xn_draw.proofs.lengths.is_turns.Goals as goal

pub returns-then-left-entries : goal.returns-then-left-entries
returns-then-left-entries c =
    let lists = c.args.orders.now in
    let i = c.loop-i.i in
    let more = total-take_more lists i (omega arith) in
    let le = total-take-le lists (i + 1) in
    let len = ap length c.at-entries.ensures in
    (λ h. absurd (both_ways false refl h), λ same. absurd (omega (arith, more, le, len, same, c.loop-i.invariant, c.if-left-entries.true)))

pub loop-i-preserved : goal.loop-i-preserved
loop-i-preserved c =
    omega (arith, total-take_more c.args.orders.now c.loop-i.i (omega arith), c.loop-i.invariant, ap length c.at-entries.ensures)
