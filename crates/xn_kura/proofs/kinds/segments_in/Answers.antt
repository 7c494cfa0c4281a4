use Rattle.std.proofs.Common.{◌<◌, length, ap, arith}
use Rattle.xn_kura.proofs.Proposals.{segments_more, segments_within}
use Rattle.xn_kura.proofs.kinds.segments_in.Goals as goal

pub overflow_add-count : goal.overflow_add-count
overflow_add-count c =
    let paths = c.args.paths.now in
    let q_in : c.loop-q.q < length paths = omega (arith, c.loop-q-test.true, c.len-q-end.ensures) in
    omega (arith, c.loop-q.invariant, segments_within paths c.loop-q.q q_in, ap length c.at.ensures, c.requires)

pub loop-q-preserved : goal.loop-q-preserved
loop-q-preserved c =
    let paths = c.args.paths.now in
    let q_in : c.loop-q.q < length paths = omega (arith, c.loop-q-test.true, c.len-q-end.ensures) in
    omega (arith, c.loop-q.invariant, segments_more paths c.loop-q.q q_in, ap length c.at.ensures)
