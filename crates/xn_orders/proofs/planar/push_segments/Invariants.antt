use Rattle.std.proofs.Common.{◌≡◌, ◌++◌, map, drop}
use Rattle.xn_model.specs.Web.{crossing_node, segments_through}
use Rattle.xn_orders.proofs.planar.push_segments.Given as goal

-- the segments so far, and then those from here through the crossings that are left
abbrev pub invariant-loop-f : goal.invariant-loop-f
invariant-loop-f l =
    let node = crossing_node l.nodes l.pairs l.e in
    l.ends.items ++ segments_through l.from (map node (drop l.f-index l.list)) l.second
    ≡ l.initial.ends.items ++ segments_through l.first (map node l.list) l.second
