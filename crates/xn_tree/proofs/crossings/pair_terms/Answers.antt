use Rattle.std.proofs.Common.{◌≡◌, [], refl}
use Rattle.xn_model.specs.Orders.{order_at}
use Rattle.xn_model.proofs.Ranges.{order_at_outside}
use Rattle.xn_tree.proofs.crossings.pair_terms.Goals as goal

pub returns-in-None-clause-zero : goal.returns-in-None-clause-zero
returns-in-None-clause-zero c =
    let row = c.args.row.now in
    let none : order_at row.edges row.orders c.args.e ≡ [] = order_at_outside row.edges row.orders c.args.e c.in-None.ensures.edge in
    rw (none, c.in-None.ensures.edge) refl
