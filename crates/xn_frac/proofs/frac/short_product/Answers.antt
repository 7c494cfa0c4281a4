use Rattle.std.proofs.Common.{arith, ap, ◌∙◌}
use Rattle.std.specs.Int.{w64}
use mir.Val.{to_z, of_z}
use Rattle.xn_frac.specs.Small.{IsShort}
use Rattle.xn_frac.proofs.Signs.{back, back_short}
use Rattle.xn_frac.proofs.frac.short_product.Goals as goal

pub returns : goal.returns
returns c =
    let short_left : IsShort (record { num = c.left.inside.num; den = c.left.inside.den }) = rw c.left.view_is c.requires.left in
    let short_right : IsShort (record { num = c.right.inside.num; den = c.right.inside.den }) = rw c.right.view_is c.requires.right in
    let left = ap (λ z. to_z w64 (of_z w64 z)) (back c.left.inside.num c.left.invariant.num_in_range) ∙ back_short c.left.inside.num (omega (arith, short_left.num)) in
    let right = ap (λ z. to_z w64 (of_z w64 z)) (back c.right.inside.num c.right.invariant.num_in_range) ∙ back_short c.right.inside.num (omega (arith, short_right.num)) in
    let value = rw (left, right) at c.product-num.ensures.value in
    let num = back_short c.product-num.result.0 c.product-num.ensures.bound in
    rw (← c.left.view_is, ← c.right.view_is, c.from.ensures, c.from-2.ensures, num, back c.product-num.result.0 value.frac.num_in_range) value
