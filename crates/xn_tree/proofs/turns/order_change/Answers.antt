use Rattle.std.proofs.Common.{◌∙◌, FitsSigned, ap, arith, refl, rules}
use Rattle.std.specs.Int.{w128}
use Rattle.std.proofs.lemmas.Int.{ints, to_z-of_z}
use Rattle.xn_tree.specs.Leaf.{first_parts, state_in, turn_loss}
use Rattle.xn_tree.specs.Least.{order_given}
use Rattle.xn_tree.proofs.Least.{change_alike}
use Rattle.xn_tree.proofs.Weights.{adds_order}
use Rattle.xn_tree.proofs.turns.order_change.Goals as goal

pub returns-clause-least : goal.returns-clause-least
returns-clause-least c =
    let leaf = c.args.leaf.now in
    let f = c.args.two.0 in
    let g = c.args.two.1 in
    let parts = first_parts leaf c.args.before in
    let weights = c.turn_weights-zero.ensures in
    let r = c.least_change.result in
    let fits : FitsSigned w128 r = search rules in
    let loss = turn_loss leaf.rows.now parts c.args.e f g in
    rw (to_z-of_z w128 r fits) (λ number weighs.
    adds_order (state_in leaf) leaf.rows.now parts c.args.e f g number weighs c.args.less.0 c.args.less.1 r
    (change_alike c.order_in-given.result (order_given ((state_in leaf).placed c.args.e) f g) _ _ r (loss 0) (loss 1) r c.args.less.0 c.args.less.1
    c.least_change.ensures.change (c.order_in-given.ensures ∙ ap (λ xs. order_given xs f g) c.placed.ensures.list)
    (omega (arith, ints, weights.zero, weights.small)) (omega (arith, ints, weights.one, weights.small)) refl))
