use Rattle.std.proofs.Common.{take}
use Rattle.xn_map.specs.Forest.{HoldsComponents}
use Rattle.xn_map.proofs.components.join_ends.Given as goal

abbrev pub invariant-loop-s : goal.invariant-loop-s
invariant-loop-s l = HoldsComponents l.parents (record { nodes = l.web.nodes; ends = take l.s l.web.ends })
