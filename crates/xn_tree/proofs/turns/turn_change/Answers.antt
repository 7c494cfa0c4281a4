use Rattle.std.proofs.Common.{◌≡◌, ◌<◌, FitsSigned, arith, rules, subst}
use Rattle.std.specs.Prelude.{max, min}
use Rattle.std.specs.Int.{w128}
use Rattle.std.proofs.lemmas.Int.{to_z-of_z}
use Rattle.xn_tree.specs.Leaf.{WeighsAs, first_parts, state_in}
use Rattle.xn_tree.proofs.Weights.{adds_ahead, adds_behind}
use Rattle.xn_tree.proofs.turns.turn_change.Goals as goal

pub returns-then-f-g-clause-least : goal.returns-then-f-g-clause-least
returns-then-f-g-clause-least c =
    let leaf = c.args.leaf.now in
    let parts = first_parts leaf c.args.before in
    let r = c.order_change.result in
    let fits : FitsSigned w128 r = search rules in
    let low : min c.args.f c.args.g ≡ c.args.f = omega arith in
    let high : max c.args.f c.args.g ≡ c.args.g = omega arith in
    rw (to_z-of_z w128 r fits) (λ number weighs.
    adds_ahead (state_in leaf) leaf.rows.now parts c.args.e c.args.f c.args.g c.args.m c.if-f-g.true number r
    (c.order_change.ensures.least number
    (subst (λ x. WeighsAs (state_in leaf) leaf.rows.now parts c.args.e c.args.f x number) high
    (subst (λ x. WeighsAs (state_in leaf) leaf.rows.now parts c.args.e x (max c.args.f c.args.g) number) low weighs))))

pub returns-else-f-g-clause-least : goal.returns-else-f-g-clause-least
returns-else-f-g-clause-least c =
    let leaf = c.args.leaf.now in
    let parts = first_parts leaf c.args.before in
    let r = c.order_change-else-f-g.result in
    let fits : FitsSigned w128 r = search rules in
    let falls : c.args.g < c.args.f = omega (arith, c.requires.two) in
    let low : min c.args.f c.args.g ≡ c.args.g = omega arith in
    let high : max c.args.f c.args.g ≡ c.args.f = omega arith in
    rw (to_z-of_z w128 r fits) (λ number weighs.
    adds_behind (state_in leaf) leaf.rows.now parts c.args.e c.args.f c.args.g c.args.m falls number r
    (c.order_change-else-f-g.ensures.least number
    (subst (λ x. WeighsAs (state_in leaf) leaf.rows.now parts c.args.e c.args.g x number) high
    (subst (λ x. WeighsAs (state_in leaf) leaf.rows.now parts c.args.e x (max c.args.f c.args.g) number) low weighs))))
