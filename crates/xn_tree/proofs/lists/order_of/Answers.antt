use Rattle.xn_tree.proofs.Edges.{found, found_has, missed, order_at-found}
use Rattle.xn_tree.proofs.lists.order_of.Goals as goal

pub returns-in-Ok-clause-edge : goal.returns-in-Ok-clause-edge
returns-in-Ok-clause-edge c =
    found_has c.args.row.now.edges c.args.e c.requires.rise c.in-Ok.i (rw c.as_slice.ensures at c.in-Ok.ensures.position)

pub returns-in-Ok-clause-list : goal.returns-in-Ok-clause-list
returns-in-Ok-clause-list c =
    let row = c.args.row.now in
    rw c.at.ensures
    (order_at-found row.edges row.orders c.in-Ok.i c.args.e c.requires.rise c.requires.lists_fit
    (found row.edges c.args.e c.requires.rise c.in-Ok.i (rw c.as_slice.ensures at c.in-Ok.ensures.position)))

pub returns-in-Err-clause-edge : goal.returns-in-Err-clause-edge
returns-in-Err-clause-edge c =
    missed c.args.row.now.edges c.args.e c.requires.rise c.in-Err.field-0 (rw c.as_slice.ensures at c.in-Err.ensures.position)

pub returns-in-Err-clause-list : goal.returns-in-Err-clause-list
returns-in-Err-clause-list c =
    missed c.args.row.now.edges c.args.e c.requires.rise c.in-Err.field-0 (rw c.as_slice.ensures at c.in-Err.ensures.position)
