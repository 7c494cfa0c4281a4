use Rattle.std.proofs.Common.{rules}
use Rattle.std.specs.Prelude.{pos}
use Rattle.std.specs.Int.{w128}
use Rattle.std.specs.Int.RustNames.{FitsSigned}
use Rattle.std.proofs.lemmas.Int.{to_z-of_z}
use mir.Val.{to_z, of_z}
use Rattle.xn_frac.specs.Ratio.{IsFracOf, ratio_of}
use Rattle.xn_frac.proofs.Lowest.{gcd_above, lowest_is}
use Rattle.xn_frac.proofs.frac.lowest.Goals as goal

pub quotient-requires : goal.quotient-requires
quotient-requires c = gcd_above _ _ _ c.requires.den c.gcd-common.ensures

pub quotient-requires-2 : goal.quotient-requires-2
quotient-requires-2 c = gcd_above _ _ _ c.requires.den c.gcd-common.ensures

lowest_value : (c : goal.After-quotient-2) → IsFracOf (ratio_of c.args.num (pos c.args.den)) (record { num = to_z w128 (of_z w128 c.with_sign.result); den = c.quotient-2.result })
lowest_value c =
    let fits : FitsSigned w128 c.with_sign.result = search rules in
    let fits_num : FitsSigned w128 c.args.num = c.ranges.num in
    let size = simp to_z-of_z at c.unsigned_abs-size.ensures.value in
    let num = simp to_z-of_z at c.with_sign.ensures in
    let value = lowest_is c.args.num c.args.den c.gcd-common.result c.requires.den (rw size at c.gcd-common.ensures) c.requires.num c.requires.den_in_range in
    rw (to_z-of_z w128 c.with_sign.result fits, c.quotient-2.ensures, num, c.quotient.ensures, size) value

pub invariant_of-result : goal.invariant_of-result
invariant_of-result c = (lowest_value c).frac

pub returns : goal.returns
returns c = lowest_value c
