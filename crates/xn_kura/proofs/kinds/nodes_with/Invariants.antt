use Rattle.xn_kura.specs.Kinds.{AreNodesWith}
use Rattle.xn_kura.proofs.kinds.nodes_with.Given as goal

-- the nodes so far are sorted out
abbrev pub invariant-loop-v : goal.invariant-loop-v
invariant-loop-v l = AreNodesWith l.web.ends l.v l.count l.nodes.items
