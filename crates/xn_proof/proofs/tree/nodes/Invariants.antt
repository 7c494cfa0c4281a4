use Rattle.std.proofs.Common.{◌≡◌, ℕ, ◌≤◌, length}
use Rattle.xn_proof.specs.Proofs.{nodes_at}
use Rattle.xn_proof.proofs.Loop.{with_items}
use Rattle.xn_proof.proofs.tree.nodes.Given as goal

-- the nodes so far and those of the lines that are left, at most `most`, are all of them
abbrev pub invariant-loop-nodes : goal.invariant-loop-nodes
invariant-loop-nodes l = record {
  most : ℕ;
  enough : length l.reader.1 ≤ most;
  read : with_items l.nodes.items (nodes_at l.edges l.rows most l.reader) ≡ nodes_at l.edges l.rows (length l.fn.reader.1) l.fn.reader;
}

abbrev pub decreases-loop-nodes : goal.decreases-loop-nodes
decreases-loop-nodes l = length l.reader.1
