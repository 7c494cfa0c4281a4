use Rattle.std.proofs.lemmas.Result.{err_from_is_err_and}
use Rattle.xn_check.proofs.Drawn.{line_on, line_stops}
use Rattle.xn_check.proofs.verdicts.draw_text.Goals as goal

pub loop-line-preserved : goal.loop-line-preserved
loop-line-preserved c =
    line_on c.args.graph.now c.args.loops c.args.text.now c.loop-line.judge c.loop-line.lines c.loop-line.invariant c.next.new.self
    (c.in-Some.line.number, c.in-Some.line.bytes.now, c.in-Some.line.ended) c.line.new.self c.in-Some.ensures.lines
    c.in_ok-line.ensures.took c.in_ok-line.ensures.ready

pub returns-in_err-line : goal.returns-in_err-line
returns-in_err-line c =
    let p = err_from_is_err_and c.from_residual.result c.from_residual.ensures.1 in
    rw (p.1, p.2)
    (line_stops c.args.graph.now c.args.loops c.args.text.now c.loop-line.judge c.loop-line.lines c.loop-line.invariant c.next.new.self
    (c.in-Some.line.number, c.in-Some.line.bytes.now, c.in-Some.line.ended) c.line.new.self c.in-Some.ensures.lines
    c.in_err-line.field-0.0 c.in_err-line.ensures.took)
