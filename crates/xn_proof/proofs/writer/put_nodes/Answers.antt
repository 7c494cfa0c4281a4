use Rattle.xn_proof.specs.Spelling.{node_line}
use Rattle.xn_proof.proofs.Appended.{each_put}
use Rattle.xn_proof.proofs.writer.put_nodes.Goals as goal

pub loop-i-preserved : goal.loop-i-preserved
loop-i-preserved c = each_put node_line c.args.tree.now c.loop-i.i c.at.result.now c.args.to.now.items c.loop-i.to.items c.put_node.new.to.items (rw c.len-i-end.ensures at c.loop-i-test.true) c.at.ensures c.loop-i.invariant c.in_ok-put_node.ensures
