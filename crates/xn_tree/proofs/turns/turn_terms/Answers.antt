use Rattle.std.proofs.Common.{◌≡◌, [], refl}
use Rattle.xn_model.specs.Orders.{order_at}
use Rattle.xn_model.proofs.Ranges.{order_at_outside}
use Rattle.xn_tree.proofs.turns.turn_terms.Goals as goal

pub returns-in-None-clause-zero : goal.returns-in-None-clause-zero
returns-in-None-clause-zero c =
    let row = c.args.row.now in
    let none : order_at row.edges row.orders c.args.e ≡ [] = order_at_outside row.edges row.orders c.args.e c.in-None.ensures.edge in
    rw none refl

pub returns-in-None-clause-one : goal.returns-in-None-clause-one
returns-in-None-clause-one c =
    let row = c.args.row.now in
    let none : order_at row.edges row.orders c.args.e ≡ [] = order_at_outside row.edges row.orders c.args.e c.in-None.ensures.edge in
    rw none refl
