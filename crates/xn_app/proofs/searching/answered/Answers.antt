use Rattle.xn_app.proofs.Searches.{for_graph, left_open}
use Rattle.xn_app.proofs.searching.answered.Goals as goal

pub returns-then-answer-clause-answer : goal.returns-then-answer-clause-answer
returns-then-answer-clause-answer g c =
    let made = c.in_ok-answer.ensures in
    for_graph c.args.graph.now c.args.loops c.args.budget c.in_ok-solved.solved c.in_ok-solved.ensures.solved c.in_ok-answer.answer made.made made.well_formed made.accepted

pub returns-clause-answer : goal.returns-clause-answer
returns-clause-answer g c =
    let made = c.in_ok-answer.ensures in
    for_graph c.args.graph.now c.args.loops c.args.budget c.in_ok-solved.solved c.in_ok-solved.ensures.solved c.in_ok-answer.answer made.made made.well_formed made.accepted

pub returns-clause-ends : goal.returns-clause-ends
returns-clause-ends g c =
    left_open c.args.graph.now c.args.loops c.args.budget c.in_ok-solved.solved c.in_ok-solved.ensures.solved c.in_ok-answer.answer c.in_ok-answer.ensures.made
    c.if-answer.false
