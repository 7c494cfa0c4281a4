use Rattle.std.specs.Int.{w128}
use mir.Val.{to_z, of_z}
use Rattle.xn_frac.specs.Ratio.{IsFracOf, times}
use Rattle.xn_frac.proofs.Lowest.{gcd_above}
use Rattle.xn_frac.proofs.Signs.{back}
use Rattle.xn_frac.proofs.Ratios.{above_product}
use Rattle.xn_frac.proofs.Products.{reduced_read, is_product, not_product_size, not_product_den, if_none}
use Rattle.xn_frac.proofs.frac.product_of.Goals as goal

pub quotient-requires : goal.quotient-requires
quotient-requires c = gcd_above _ _ _ c.right.invariant.positive c.gcd-first.ensures

pub quotient-requires-2 : goal.quotient-requires-2
quotient-requires-2 c = gcd_above _ _ _ c.left.invariant.positive c.gcd-second.ensures

pub returns-in_err-size-clause-none : goal.returns-in_err-size-clause-none
returns-in_err-size-clause-none c =
    let is = reduced_read _ _ _ _ _ _ c.left.invariant c.right.invariant c.unsigned_abs-left_size.ensures.value c.unsigned_abs-right_size.ensures.value c.gcd-first.ensures c.gcd-second.ensures in
    let large = rw (c.quotient.ensures, c.quotient-2.ensures) at c.in_err-size.ensures in
    rw (← c.left.view_is, ← c.right.view_is)
    (if_none _ _ (not_product_size _ _ _ _ (above_product _ _ c.left.invariant.positive c.right.invariant.positive) is large))

pub quotient-requires-3 : goal.quotient-requires-3
quotient-requires-3 c = gcd_above _ _ _ c.left.invariant.positive c.gcd-second.ensures

pub quotient-requires-4 : goal.quotient-requires-4
quotient-requires-4 c = gcd_above _ _ _ c.right.invariant.positive c.gcd-first.ensures

pub returns-in_err-den-clause-none : goal.returns-in_err-den-clause-none
returns-in_err-den-clause-none c =
    let is = reduced_read _ _ _ _ _ _ c.left.invariant c.right.invariant c.unsigned_abs-left_size.ensures.value c.unsigned_abs-right_size.ensures.value c.gcd-first.ensures c.gcd-second.ensures in
    let large = rw (c.quotient-3.ensures, c.quotient-4.ensures) at c.in_err-den.ensures in
    rw (← c.left.view_is, ← c.right.view_is)
    (if_none _ _ (not_product_den _ _ _ _ (above_product _ _ c.left.invariant.positive c.right.invariant.positive) is large))

product_value : (c : goal.After-with_sign) → IsFracOf (times c.args.left c.args.right) (record { num = to_z w128 (of_z w128 c.with_sign.result); den = c.in_ok-den.den })
product_value c =
    let is = reduced_read _ _ _ _ _ _ c.left.invariant c.right.invariant c.unsigned_abs-left_size.ensures.value c.unsigned_abs-right_size.ensures.value c.gcd-first.ensures c.gcd-second.ensures in
    let size = rw (c.quotient.ensures, c.quotient-2.ensures) at c.in_ok-size.ensures in
    let den = rw (c.quotient-3.ensures, c.quotient-4.ensures) at c.in_ok-den.ensures in
    let value = is_product _ _ _ _ is size.0 den.0 in
    let sign = back c.left.inside.num c.left.invariant.num_in_range in
    let sign_right = back c.right.inside.num c.right.invariant.num_in_range in
    let num = rw (sign, sign_right, size.1) at c.with_sign.ensures in
    rw (← c.left.view_is, ← c.right.view_is, den.1, num, back _ value.frac.num_in_range) value

pub invariant_of-result : goal.invariant_of-result
invariant_of-result c = (product_value c).frac

pub returns-clause-some : goal.returns-clause-some
returns-clause-some c = product_value c
