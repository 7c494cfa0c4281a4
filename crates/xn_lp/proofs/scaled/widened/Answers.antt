use Rattle.std.proofs.Common.{◌≡◌, ℕ, rules, ap, ◌∙◌}
use Rattle.std.specs.Prelude.{pos, ◌*ℤ◌, ◌<ℤ◌}
use Rattle.std.specs.Int.{w128}
use Rattle.std.specs.Int.RustNames.{FitsSigned}
use Rattle.std.proofs.lemmas.Int.{to_z-of_z}
use Rattle.std.proofs.lemmas.Result.{IfOk-weaker}
use Rattle.xn_frac.specs.Ratio.{ratio_of, IsFracOf}
use Rattle.xn_lp.specs.Whole.{Divides}
use Rattle.xn_lp.proofs.Denominators.{widened_above, widened_divides, widened_keeps}
use Rattle.xn_lp.proofs.scaled.widened.Goals as goal

-- what the quotient of the denominator and the number is, and what it is multiplied by
quotient_is : (c : goal.After-times) → IsFracOf (ratio_of (pos c.args.fraction.den) c.args.over) c.new.result
quotient_is c =
    let fits_value : FitsSigned w128 c.value.result = search rules in
    let fits_den : FitsSigned w128 c.den.result = search rules in
    rw (to_z-of_z w128 c.value.result fits_value, to_z-of_z w128 c.den.result fits_den, c.value.ensures.value, c.den.ensures.den) at c.new.ensures

factor_is : (c : goal.After-times) → c.from_num.result ≡ c.new.result.num
factor_is c =
    let fits : FitsSigned w128 c.num-missing.result = search rules in
    c.from_num.ensures ∙ to_z-of_z w128 c.num-missing.result fits ∙ c.num-missing.ensures.num

pub returns-clause-above : goal.returns-clause-above
returns-clause-above c =
    IfOk-weaker c.times.result _ (λ n. pos 0 <ℤ n)
    (λ n e. widened_above c.args.fraction c.new.result c.args.over n c.requires c.den.ensures.lowest (quotient_is c) (e ∙ ap (λ t. c.args.over *ℤ t) (factor_is c))) c.times.ensures

pub returns-clause-kept : goal.returns-clause-kept
returns-clause-kept c =
    IfOk-weaker c.times.result _ (λ n. (d : ℕ) → Divides d c.args.over → Divides d n)
    (λ n e. widened_keeps c.args.over c.from_num.result n e) c.times.ensures

pub returns-clause-divided : goal.returns-clause-divided
returns-clause-divided c =
    IfOk-weaker c.times.result _ (λ n. Divides c.args.fraction.den n)
    (λ n e. widened_divides c.args.fraction c.new.result c.args.over n c.requires (quotient_is c) (e ∙ ap (λ t. c.args.over *ℤ t) (factor_is c))) c.times.ensures
