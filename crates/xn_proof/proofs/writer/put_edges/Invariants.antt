use Rattle.std.proofs.Common.{◌≡◌, ◌++◌, take}
use Rattle.xn_proof.specs.Spelling.{each, edge_line}
use Rattle.xn_proof.proofs.writer.put_edges.Given as goal

-- the lines so far stand at the end
abbrev pub invariant-loop-e : goal.invariant-loop-e
invariant-loop-e l = l.to.items ≡ l.fn.to.items ++ each edge_line (take l.e (l.graph.ends))
