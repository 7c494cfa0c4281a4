use Rattle.std.proofs.Common.{◌≡◌, ◌++◌, ◌+◌, drop, length, map}
use Rattle.xn_model.specs.Web.{crossing_node, segments_through}
use Rattle.xn_brute.specs.Drawings.{through}
use Rattle.xn_brute.proofs.webs.push_segments.Given as goal

abbrev pub invariant-loop-f : goal.invariant-loop-f
invariant-loop-f l = record {
  few : length l.ends.items ≡ length l.initial.ends.items + l.f-index;
  segments : l.ends.items ++ segments_through l.from (map (crossing_node l.nodes l.pairs l.e) (drop l.f-index l.list)) l.last ≡ l.initial.ends.items ++ through l.graph l.pairs l.e l.list;
}
