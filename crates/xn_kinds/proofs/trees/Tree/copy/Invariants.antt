use Rattle.std.proofs.Common.{◌≡◌, take}
use Rattle.xn_kinds.proofs.trees.Tree.copy.Given as goal

-- the copies so far are of the nodes so far
abbrev pub invariant-loop-node : goal.invariant-loop-node
invariant-loop-node l = l.nodes.items ≡ take l.node-index l.node-items
