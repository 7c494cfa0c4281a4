use Rattle.std.proofs.Common.{◌≡◌, ◌+◌, ◌*◌, ◌≤◌, drop}
use Rattle.xn_model.specs.Drawing.{order_of}
use Rattle.xn_model.specs.Web.{first_segment}
use Rattle.xn_brute.proofs.drawings.first_segment.Given as goal

abbrev pub invariant-loop-x : goal.invariant-loop-x
invariant-loop-x l = record {
  small : l.sum ≤ 1001 * l.x-index;
  segment : l.sum + first_segment (drop l.x-index l.edges) (order_of l.graph l.orders) l.e ≡ first_segment l.edges (order_of l.graph l.orders) l.e;
}
