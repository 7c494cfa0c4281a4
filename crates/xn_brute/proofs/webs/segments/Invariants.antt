use Rattle.std.proofs.Common.{◌≡◌, ◌++◌, ◌*◌, ◌≤◌, drop, length}
use Rattle.std.specs.List.{flat_map}
use Rattle.xn_model.specs.Drawing.{order_of}
use Rattle.xn_model.specs.Web.{segments_of}
use Rattle.xn_brute.proofs.webs.segments.Given as goal

abbrev pub invariant-loop-e : goal.invariant-loop-e
invariant-loop-e l = record {
  few : length l.ends.items ≤ 1001 * l.e-index;
  segments : l.ends.items ++ flat_map (segments_of l.graph l.pairs (order_of l.graph l.orders)) (drop l.e-index l.edges) ≡ flat_map (segments_of l.graph l.pairs (order_of l.graph l.orders)) l.edges;
}
