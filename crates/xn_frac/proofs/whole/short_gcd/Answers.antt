use Rattle.std.proofs.Common.{◌<◌, inl, inr, arith}
use Rattle.xn_frac.proofs.Halving.{odd_part, shifted, gcd_one}
use Rattle.xn_frac.proofs.whole.short_gcd.Goals as goal
use Rattle.xn_frac.proofs.whole.short_gcd.Goals.{then-a-eq1-via-then-a-eq1, then-a-eq1-via-else-a-eq1+then-b-eq1}

pub returns-then-a-eq1 : goal.returns-then-a-eq1
returns-then-a-eq1 c = elim c.then-a-eq1.branch [
  | then-a-eq1-via-then-a-eq1 w ↦ gcd_one _ _ (inl w.if-a-eq1.true)
  | then-a-eq1-via-else-a-eq1+then-b-eq1 w ↦ gcd_one _ _ (inr w.if-b-eq1.true)
]

pub odd_gcd-requires : goal.odd_gcd-requires
odd_gcd-requires c =
    let above_a : 0 < c.args.a = omega (arith, c.if-a-eq0.false) in
    let above_b : 0 < c.args.b = omega (arith, c.if-b-eq0.false) in
    ((odd_part c.args.a above_a c.ranges.a.fits).1, (odd_part c.args.b above_b c.ranges.b.fits).1)

pub returns : goal.returns
returns c =
    let above_a : 0 < c.args.a = omega (arith, c.if-a-eq0.false) in
    let above_b : 0 < c.args.b = omega (arith, c.if-b-eq0.false) in
    shifted c.args.a c.args.b c.odd_gcd.result c.min.result above_a c.ranges.a.fits above_b c.ranges.b.fits c.min.ensures c.odd_gcd.ensures
