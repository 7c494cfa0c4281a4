use Rattle.std.proofs.Common.{arith}
use Rattle.xn_frac.proofs.Signs.{back_short}
use Rattle.xn_frac.proofs.ShortSums.{product_short}
use Rattle.xn_frac.proofs.Lowest.{gcd_above}
use Rattle.xn_frac.proofs.short.product.Goals as goal

pub quotient-requires : goal.quotient-requires
quotient-requires c = gcd_above _ _ _ c.requires.right.frac.positive c.short_gcds-first.ensures.first

pub quotient-requires-2 : goal.quotient-requires-2
quotient-requires-2 c = gcd_above _ _ _ c.requires.left.frac.positive c.short_gcds-first.ensures.second

pub quotient-requires-3 : goal.quotient-requires-3
quotient-requires-3 c = gcd_above _ _ _ c.requires.left.frac.positive c.short_gcds-first.ensures.second

pub quotient-requires-4 : goal.quotient-requires-4
quotient-requires-4 c = gcd_above _ _ _ c.requires.right.frac.positive c.short_gcds-first.ensures.first

pub returns-clause-value : goal.returns-clause-value
returns-clause-value c =
    let left = back_short c.args.a (omega (arith, c.requires.left.num)) in
    let right = back_short c.args.c (omega (arith, c.requires.right.num)) in
    let first = rw (c.unsigned_abs-left_size.ensures.value, left) at c.short_gcds-first.ensures.first in
    let second = rw (c.unsigned_abs-right_size.ensures.value, right) at c.short_gcds-first.ensures.second in
    let num = rw (c.quotient.ensures.value, c.quotient-2.ensures.value, c.unsigned_abs-left_size.ensures.value, c.unsigned_abs-right_size.ensures.value, left, right) at c.with_sign.ensures in
    rw (c.quotient-3.ensures.value, c.quotient-4.ensures.value)
    (product_short _ _ c.short_gcds-first.result.0 c.short_gcds-first.result.1 c.with_sign.result c.requires.left c.requires.right first second num)
