use Rattle.std.proofs.Common.{◌<◌, rules, arith, ap, ◌∙◌}
use Rattle.std.specs.Prelude.{pos, ◌<ℤ◌}
use Rattle.std.specs.Int.{w128}
use Rattle.std.specs.Int.RustNames.{FitsSigned}
use Rattle.std.proofs.lemmas.Int.{to_z-of_z, quot_is, quot_fits, ints}
use lib.Signed.{quot_z}
use Rattle.std.proofs.lemmas.Result.{IfOk-weaker}
use Rattle.xn_lp.specs.Whole.{IsOver}
use Rattle.xn_lp.proofs.Denominators.{numerator_is}
use Rattle.xn_lp.proofs.scaled.numerator.Goals as goal

pub returns : goal.returns
returns c =
    let fits : FitsSigned w128 c.num.result = search rules in
    let fits_value : FitsSigned w128 c.value.result = search rules in
    let fits_den : FitsSigned w128 c.den.result = search rules in
    let num = rw (to_z-of_z w128 c.num.result fits) at c.from_num.ensures in
    let den : pos 0 <ℤ c.den.result = let some : 0 < c.args.fraction.den = c.den.ensures.lowest.positive in rw c.den.ensures.den (omega (arith, ints)) in
    let quotient = quot_is w128 c.value.result c.den.result fits_value fits_den (quot_fits w128 c.value.result c.den.result fits_value den) in
    IfOk-weaker c.times.result _ (λ n. IsOver c.args.fraction n c.args.over)
    (λ n e. numerator_is c.args.fraction n c.from_num.result c.args.over c.from_num-2.result c.den.result c.num.ensures.lowest
    (num ∙ c.num.ensures.num) c.den.ensures.den c.requires.above c.requires.divided (c.from_num-2.ensures ∙ quotient ∙ ap (λ z. quot_z z c.den.result) c.value.ensures.value) e) c.times.ensures
