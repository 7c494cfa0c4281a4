use Rattle.std.proofs.Common.{◌≡◌, ◌++◌}
use Rattle.std.specs.List.{flat_map, range_with_len}
use Rattle.xn_model.specs.Graph.{ends_at}
use Rattle.xn_model.specs.Lists.{at}
use Rattle.xn_show.specs.Text.{segment_line}
use Rattle.xn_show.proofs.text.put_segments.Given as goal

-- the lines so far stand at the end
abbrev pub invariant-loop-s : goal.invariant-loop-s
invariant-loop-s l = l.to.items ≡ l.fn.to.items ++ flat_map (λ s. segment_line s (ends_at l.web.ends s) (at l.of s)) (range_with_len 0 l.s)
