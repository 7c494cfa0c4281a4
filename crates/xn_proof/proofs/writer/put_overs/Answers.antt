use Rattle.std.proofs.Common.{[], ◌++◌, ◌∙◌, sym, ap, arith}
use Rattle.xn_proof.specs.Spelling.{over_line, overs_of}
use Rattle.xn_proof.proofs.Appended.{each_all, each_more, overs_at, overs_long}
use Rattle.xn_proof.proofs.writer.put_overs.Goals as goal

pub loop-i-preserved : goal.loop-i-preserved
loop-i-preserved c =
    let edges = c.args.edges.now in
    let lists = c.args.orders.now in
    let long = overs_long edges lists c.requires in
    let low = c.loop-i-test.true in
    let mid = c.loop-i.to.items in
    each_more over_line (overs_of edges lists) c.loop-i.i (0, []) c.args.to.now.items mid c.put_list_line.new.to.items (omega (arith, low, long)) c.loop-i.invariant
    ((rw (c.as_slice.ensures, c.from.ensures, c.at-list.ensures) at c.in_ok-put_list_line.ensures) ∙ ap (λ o. mid ++ over_line o) (sym (overs_at edges lists c.loop-i.i c.requires (omega (arith, low)))))

pub returns : goal.returns
returns c =
    let long = overs_long c.args.edges.now c.args.orders.now c.requires in
    let past = c.loop-i-test.false in
    each_all over_line (overs_of c.args.edges.now c.args.orders.now) c.loop-i.i c.args.to.now.items c.loop-i.to.items (omega (arith, past, long)) c.loop-i.invariant
