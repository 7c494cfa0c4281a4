use Rattle.std.proofs.Common.{take}
use Rattle.xn_model.specs.Lists.{at}
use Rattle.xn_kura.specs.Kinds.{ArePartedBy}
use Rattle.xn_kura.proofs.kinds.sides_of.Given as goal

-- the nodes so far are parted
abbrev pub invariant-loop-v : goal.invariant-loop-v
invariant-loop-v l = ArePartedBy l.web.ends (at l.nodes 0) (take l.v-index l.nodes) l.near.items l.far.items
