use Rattle.std.proofs.Common.{rules, ◌∙◌, sym}
use Rattle.std.specs.Int.{w128}
use Rattle.std.specs.Int.RustNames.{FitsSigned}
use Rattle.std.proofs.lemmas.Int.{to_z-of_z}
use Rattle.xn_lp.proofs.Certificates.{same_fractions}
use Rattle.xn_lp.proofs.checks.are_same.Goals as goal

pub returns : goal.returns
returns c t =
    let fits : FitsSigned w128 c.value.result = search rules in
    let fits2 : FitsSigned w128 c.value-2.result = search rules in
    let fits3 : FitsSigned w128 c.value-3.result = search rules in
    let fits4 : FitsSigned w128 c.value-4.result = search rules in
    let left = rw (to_z-of_z w128 c.value.result fits, to_z-of_z w128 c.value-2.result fits2, c.value.ensures.value, c.value-2.ensures.value) at c.new.ensures in
    let right = rw (to_z-of_z w128 c.value-3.result fits3, to_z-of_z w128 c.value-4.result fits4, c.value-3.ensures.value, c.value-4.ensures.value) at c.new-2.ensures in
    same_fractions c.args.m c.args.d c.args.n c.args.e c.new.result c.new-2.result c.requires.first c.requires.second left right (sym c.eq.ensures ∙ t)
