use Rattle.xn_proof.specs.Spelling.{row_text}
use Rattle.xn_proof.proofs.Appended.{each_put}
use Rattle.xn_proof.proofs.writer.put_rows.Goals as goal

pub loop-row-preserved : goal.loop-row-preserved
loop-row-preserved c = each_put row_text c.args.rows.now c.loop-row.row-index c.row-item.result c.args.to.now.items c.loop-row.to.items c.put_row.new.to.items c.loop-row-test.true c.row-item.is c.loop-row.invariant c.in_ok-put_row.ensures
