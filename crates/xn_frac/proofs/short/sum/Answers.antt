use Rattle.std.proofs.Common.{arith}
use Rattle.xn_frac.proofs.Signs.{back_short}
use Rattle.xn_frac.proofs.Lowest.{gcd_above}
use Rattle.xn_frac.proofs.ShortSums.{sum_fits, sum_read}
use Rattle.xn_frac.proofs.short.sum.Goals as goal

pub quotient-left_part-requires : goal.quotient-left_part-requires
quotient-left_part-requires c = gcd_above _ _ _ c.requires.right.frac.positive c.short_gcd-common.ensures

pub quotient-requires : goal.quotient-requires
quotient-requires c = gcd_above _ _ _ c.requires.right.frac.positive c.short_gcd-common.ensures

pub gcd_below-shared-requires : goal.gcd_below-shared-requires
gcd_below-shared-requires c = gcd_above _ _ _ c.requires.right.frac.positive c.short_gcd-common.ensures

pub reduced-requires-clause-above : goal.reduced-requires-clause-above
reduced-requires-clause-above c =
    gcd_above _ _ _ (gcd_above _ _ _ c.requires.right.frac.positive c.short_gcd-common.ensures) c.gcd_below-shared.ensures

pub quotient-requires-2 : goal.quotient-requires-2
quotient-requires-2 c =
    gcd_above _ _ _ (gcd_above _ _ _ c.requires.right.frac.positive c.short_gcd-common.ensures) c.gcd_below-shared.ensures

pub returns-clause-fits : goal.returns-clause-fits
returns-clause-fits c = sum_fits _ _ _ c.requires.left c.requires.right c.short_gcd-common.ensures

pub returns-clause-value : goal.returns-clause-value
returns-clause-value c =
    let left = back_short c.args.a (omega (arith, c.requires.left.num)) in
    let right = back_short c.args.c (omega (arith, c.requires.right.num)) in
    let first = back_short c.scaled.result (omega (arith, c.scaled.ensures.bound)) in
    let second = back_short c.scaled-2.result (omega (arith, c.scaled-2.ensures.bound)) in
    sum_read _ _ c.short_gcd-common.result c.gcd_below-shared.result c.quotient-left_part.result c.quotient.result c.unsigned_abs.result c.quotient-2.result
    c.scaled.result c.scaled-2.result c.reduced.result c.requires.left c.requires.right c.short_gcd-common.ensures
    c.quotient-left_part.ensures.value c.quotient.ensures.value (rw left at c.scaled.ensures.value) (rw right at c.scaled-2.ensures.value) (rw (first, second) at c.unsigned_abs.ensures.value)
    c.gcd_below-shared.ensures (rw (first, second) at c.reduced.ensures.value) c.quotient-2.ensures.value

pub returns-clause-bound : goal.returns-clause-bound
returns-clause-bound c = rw (back_short c.reduced.result c.reduced.ensures.bound) c.reduced.ensures.bound
