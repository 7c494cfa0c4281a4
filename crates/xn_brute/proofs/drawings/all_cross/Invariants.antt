use Rattle.std.proofs.Common.{◌≡◌, ℕ, ◌<◌, true}
use Rattle.xn_model.specs.Drawing.{order_of}
use Rattle.xn_model.specs.Graph.{edges_of}
use Rattle.xn_model.specs.Lists.{at}
use Rattle.xn_brute.specs.Drawings.{cross_along}
use Rattle.xn_brute.proofs.drawings.all_cross.Given as goal

abbrev pub invariant-loop-e : goal.invariant-loop-e
invariant-loop-e l = (e : ℕ) → e < l.e → cross_along (edges_of l.graph) (order_of l.graph l.drawing.orders) (at l.drawing.next) e ≡ true
