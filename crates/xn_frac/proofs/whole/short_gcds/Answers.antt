use Rattle.std.proofs.Common.{◌<◌, arith}
use Rattle.xn_frac.proofs.Halving.{odd_part, shifted}
use Rattle.xn_frac.proofs.whole.short_gcds.Goals as goal

pub odd_gcds-first-requires-clause-first : goal.odd_gcds-first-requires-clause-first
odd_gcds-first-requires-clause-first c =
    let above_a : 0 < c.args.a = omega (arith, c.if-a-le1.false) in
    let above_b : 0 < c.args.b = omega (arith, c.if-b-le1.false) in
    ((odd_part c.args.a above_a c.ranges.a.fits).1, (odd_part c.args.b above_b c.ranges.b.fits).1)

pub odd_gcds-first-requires-clause-second : goal.odd_gcds-first-requires-clause-second
odd_gcds-first-requires-clause-second c =
    let above_c : 0 < c.args.c = omega (arith, c.if-c-le1.false) in
    let above_d : 0 < c.args.d = omega (arith, c.if-d-le1.false) in
    ((odd_part c.args.c above_c c.ranges.c.fits).1, (odd_part c.args.d above_d c.ranges.d.fits).1)

pub returns-clause-first : goal.returns-clause-first
returns-clause-first c =
    let above_a : 0 < c.args.a = omega (arith, c.if-a-le1.false) in
    let above_b : 0 < c.args.b = omega (arith, c.if-b-le1.false) in
    shifted c.args.a c.args.b c.odd_gcds-first.result.0 c.min.result above_a c.ranges.a.fits above_b c.ranges.b.fits c.min.ensures c.odd_gcds-first.ensures.first

pub returns-clause-second : goal.returns-clause-second
returns-clause-second c =
    let above_c : 0 < c.args.c = omega (arith, c.if-c-le1.false) in
    let above_d : 0 < c.args.d = omega (arith, c.if-d-le1.false) in
    shifted c.args.c c.args.d c.odd_gcds-first.result.1 c.min-2.result above_c c.ranges.c.fits above_d c.ranges.d.fits c.min-2.ensures c.odd_gcds-first.ensures.second
