use Rattle.std.proofs.Common.{◌≡◌}
use Rattle.std.specs.List.{range_with_len}
use Rattle.xn_orders.specs.Entries.{list_of}
use Rattle.xn_show.specs.Text.{segment_edges}
use Rattle.xn_show.proofs.segments.segment_edges.Given as goal

-- the edges of the segments so far
abbrev pub invariant-loop-e : goal.invariant-loop-e
invariant-loop-e l = l.of.items ≡ segment_edges (range_with_len 0 l.e) (list_of l.orders)
