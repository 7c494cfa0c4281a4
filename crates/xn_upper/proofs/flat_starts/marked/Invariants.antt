use Rattle.std.proofs.Common.{◌≡◌}
use Rattle.std.specs.List.{range_with_len}
use Rattle.std.specs.Prelude.{filter}
use Rattle.xn_map.specs.Marks.{is_marked}
use Rattle.xn_upper.proofs.flat_starts.marked.Given as goal

-- those below e
abbrev pub invariant-loop-e : goal.invariant-loop-e
invariant-loop-e l = l.edges.items ≡ filter (is_marked l.marks) (range_with_len 0 l.e)
