use Rattle.std.proofs.Common.{◌≡◌, ℕ, ◌<◌, true}
use Rattle.xn_model.specs.Drawing.{order_of}
use Rattle.xn_brute.specs.Drawings.{is_order}
use Rattle.xn_brute.proofs.orders.are_orders.Given as goal

abbrev pub invariant-loop-e : goal.invariant-loop-e
invariant-loop-e l = (e : ℕ) → e < l.e → is_order l.graph (order_of l.graph l.orders) e ≡ true
