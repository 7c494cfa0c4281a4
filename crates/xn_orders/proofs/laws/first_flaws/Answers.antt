use Rattle.xn_orders.proofs.Flawed.{no_orders_flaw, one_orders_flaw, orders_or_flaw}
use Rattle.xn_orders.proofs.laws.first_flaws.Goals as goal

pub returns-clause-either : goal.returns-clause-either
returns-clause-either c = orders_or_flaw

pub returns-clause-none : goal.returns-clause-none
returns-clause-none c = no_orders_flaw

pub returns-clause-one : goal.returns-clause-one
returns-clause-one c = one_orders_flaw
