use Rattle.xn_proof.specs.Spelling.{edge_line}
use Rattle.xn_proof.proofs.Appended.{each_more}
use Rattle.xn_proof.proofs.writer.put_edges.Goals as goal

pub loop-e-preserved : goal.loop-e-preserved
loop-e-preserved c =
    each_more edge_line c.args.graph.now.ends c.loop-e.e (0, 0) c.args.to.now.items c.loop-e.to.items c.put_line.new.to.items (rw c.edges-e-end.ensures.value at c.loop-e-test.true) c.loop-e.invariant
    (rw (c.as_slice.ensures, c.from.ensures, c.from-in-loop-e.ensures, c.end-u.ensures.value) at c.in_ok-put_line.ensures)
