use Rattle.std.proofs.Common.{◌≡◌, arith, ap, ◌∙◌}
use Rattle.std.specs.Int.{w64, w128}
use mir.Val.{to_z, of_z}
use Rattle.xn_frac.specs.Small.{IsShort}
use Rattle.xn_frac.proofs.Signs.{back, back_short}
use Rattle.xn_frac.proofs.frac.short_sum.Goals as goal

left_read : (c : goal.After-from-2) → to_z w64 (of_z w64 (to_z w128 (of_z w128 c.left.inside.num))) ≡ c.left.inside.num
left_read c =
    let short : IsShort (record { num = c.left.inside.num; den = c.left.inside.den }) = rw c.left.view_is c.requires.left in
    ap (λ z. to_z w64 (of_z w64 z)) (back c.left.inside.num c.left.invariant.num_in_range) ∙ back_short c.left.inside.num (omega (arith, short.num))

right_read : (c : goal.After-from-2) → to_z w64 (of_z w64 (to_z w128 (of_z w128 c.right.inside.num))) ≡ c.right.inside.num
right_read c =
    let short : IsShort (record { num = c.right.inside.num; den = c.right.inside.den }) = rw c.right.view_is c.requires.right in
    ap (λ z. to_z w64 (of_z w64 z)) (back c.right.inside.num c.right.invariant.num_in_range) ∙ back_short c.right.inside.num (omega (arith, short.num))

pub returns-clause-fits : goal.returns-clause-fits
returns-clause-fits c =
    let fits = rw (left_read c, right_read c) at c.sum-num.ensures.fits in
    rw (← c.left.view_is, ← c.right.view_is) fits

pub returns-clause-value : goal.returns-clause-value
returns-clause-value c =
    let value = rw (left_read c, right_read c) at c.sum-num.ensures.value in
    let num = back_short c.sum-num.result.0 c.sum-num.ensures.bound in
    rw (← c.left.view_is, ← c.right.view_is, c.from.ensures, c.from-2.ensures, num, back c.sum-num.result.0 value.frac.num_in_range) value
