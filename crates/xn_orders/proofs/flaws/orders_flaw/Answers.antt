use Rattle.xn_orders.proofs.Found.{orders_from_entries}
use Rattle.xn_orders.proofs.flaws.orders_flaw.Goals as goal

pub dependent_entry-requires-clause-order : goal.dependent_entry-requires-clause-order
dependent_entry-requires-clause-order c = rw c.in_default.is at c.in_ok-e.ensures

pub returns-in-Some-dependent_entry : goal.returns-in-Some-dependent_entry
returns-in-Some-dependent_entry c = (rw c.in_default.is at c.in_ok-e.ensures, c.in-Some-dependent_entry.ensures)

pub returns : goal.returns
returns c =
    let none = rw c.in_default.is at c.in_ok-e.ensures in
    orders_from_entries c.args.graph.now.ends c.args.edges.now c.args.orders.now c.requires.edges none c.in_default-dependent_entry.ensures
