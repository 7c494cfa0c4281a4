use Rattle.xn_proof.proofs.Appended.{spaced_more}
use Rattle.xn_proof.proofs.writing.put_list.Goals as goal

pub loop-n-preserved : goal.loop-n-preserved
loop-n-preserved c = spaced_more c.args.list.now c.loop-n.n-index c.args.to.now.items c.loop-n.to.items c.put_number.new.to.items c.loop-n-test.true c.loop-n.invariant (rw c.from.ensures at c.in_ok-put_number.ensures)
