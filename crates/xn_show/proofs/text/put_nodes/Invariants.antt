use Rattle.std.proofs.Common.{◌≡◌, ◌++◌}
use Rattle.std.specs.List.{flat_map, range_with_len}
use Rattle.xn_model.specs.Lists.{at}
use Rattle.xn_show.specs.Text.{node_line}
use Rattle.xn_show.specs.Turns.{turn_of}
use Rattle.xn_show.proofs.text.put_nodes.Given as goal

-- the lines so far stand at the end
abbrev pub invariant-loop-v : goal.invariant-loop-v
invariant-loop-v l = l.to.items ≡ l.fn.to.items ++ flat_map (λ v. node_line l.ids v (turn_of l.stars.ends (at l.next) v)) (range_with_len 0 l.v)
