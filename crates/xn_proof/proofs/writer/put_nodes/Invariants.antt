use Rattle.std.proofs.Common.{◌≡◌, ◌++◌, take}
use Rattle.xn_proof.specs.Spelling.{each, node_line}
use Rattle.xn_proof.proofs.writer.put_nodes.Given as goal

-- the lines so far stand at the end
abbrev pub invariant-loop-i : goal.invariant-loop-i
invariant-loop-i l = l.to.items ≡ l.fn.to.items ++ each node_line (take l.i (l.tree))
