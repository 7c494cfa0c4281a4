use Rattle.std.proofs.Common.{[]}
use Rattle.xn_proof.specs.Spelling.{path_line}
use Rattle.xn_proof.proofs.Appended.{each_more}
use Rattle.xn_proof.proofs.writer.put_paths.Goals as goal

pub loop-i-preserved : goal.loop-i-preserved
loop-i-preserved c =
    each_more path_line c.args.paths.now c.loop-i.i [] c.args.to.now.items c.loop-i.to.items c.put_list_line.new.to.items (rw c.len-i-end.ensures at c.loop-i-test.true) c.loop-i.invariant
    (rw (c.as_slice.ensures, c.at-list.ensures) at c.in_ok-put_list_line.ensures)
