use Rattle.std.proofs.lemmas.Result.{err_from_is_err_and}
use Rattle.xn_proof.specs.Fronts.{turn_at}
use Rattle.xn_proof.specs.Reading.{many_at}
use Rattle.xn_proof.proofs.Loop.{goes_on, stops, is_done}
use Rattle.xn_proof.proofs.items.turn_lines.Goals as goal

pub returns-in_err-turn_line : goal.returns-in_err-turn_line
returns-in_err-turn_line c =
    let p = err_from_is_err_and c.from_residual.result c.from_residual.ensures.1 in
    rw (p.1, p.2) (stops turn_at c.in_err-turn_line.field-0.0 c.loop-segment.turns.items c.args.count c.loop-segment.segment c.loop-segment.reader (many_at turn_at 0 c.args.count c.args.reader.now) c.loop-segment-test.true c.in_err-turn_line.ensures c.loop-segment.invariant)

pub loop-segment-preserved : goal.loop-segment-preserved
loop-segment-preserved c =
    rw c.in_ok-push.ensures.items (goes_on turn_at c.loop-segment.turns.items c.args.count c.loop-segment.segment c.loop-segment.reader c.in_ok-turn_line.field-0 c.turn_line.new.reader (many_at turn_at 0 c.args.count c.args.reader.now) c.loop-segment-test.true c.in_ok-turn_line.ensures c.loop-segment.invariant)

pub returns : goal.returns
returns c = is_done turn_at c.loop-segment.turns.items c.args.count c.loop-segment.segment c.loop-segment.reader (many_at turn_at 0 c.args.count c.args.reader.now) c.loop-segment-test.false c.loop-segment.invariant
