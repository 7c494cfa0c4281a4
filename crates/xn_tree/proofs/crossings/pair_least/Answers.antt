use Rattle.std.proofs.Common.{arith, ◌≡◌, ◌∙◌, FitsSigned, ap, rules, sym}
use Rattle.std.specs.Prelude.{max, min}
use Rattle.std.specs.Int.{w128}
use Rattle.std.proofs.lemmas.Int.{ints, to_z-of_z}
use Rattle.xn_tree.specs.Leaf.{pair_value, state_in}
use Rattle.xn_tree.proofs.Least.{least_alike, least_small}
use Rattle.xn_tree.proofs.crossings.pair_least.Goals as goal

pub returns-clause-least : goal.returns-clause-least
returns-clause-least c =
    let leaf = c.args.leaf.now in
    let weights = c.pair_weights-zero.ensures in
    let fits : FitsSigned w128 c.least_of.result = search rules in
    let low : min c.args.e c.args.f ≡ c.args.e = omega arith in
    let high : max c.args.e c.args.f ≡ c.args.f = omega arith in
    let value = pair_value leaf.rows.now leaf.parts.now leaf.d c.args.e c.args.f in
    least_alike c.value.result ((state_in leaf).decided c.args.e c.args.f) _ _ c.least_of.result (value 0) (value 1) _ c.least_of.ensures
    (c.value.ensures.value ∙ ap (λ x. (state_in leaf).decided x (max c.args.e c.args.f)) low ∙ ap ((state_in leaf).decided c.args.e) high)
    (omega (arith, ints, weights.zero, weights.small))
    (omega (arith, ints, weights.one, weights.small, c.from.ensures))
    (sym (to_z-of_z w128 c.least_of.result fits))

pub returns-clause-small : goal.returns-clause-small
returns-clause-small c =
    let weights = c.pair_weights-zero.ensures in
    let fits : FitsSigned w128 c.least_of.result = search rules in
    rw (to_z-of_z w128 c.least_of.result fits)
    (least_small c.value.result _ _ c.least_of.result 1 (omega (arith, ints, weights.small), omega (arith, ints, weights.small))
    (omega (arith, ints, weights.small, c.from.ensures), omega (arith, ints, weights.small, c.from.ensures)) c.least_of.ensures)
