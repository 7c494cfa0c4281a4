use Rattle.xn_app.proofs.Samples.{sampled_by}
use Rattle.xn_app.proofs.sampling.sampled.Goals as goal

pub accepted-requires-clause-formed : goal.accepted-requires-clause-formed
accepted-requires-clause-formed g c = c.in_ok-end.ensures.answer.spelled.well_formed

pub accepted-requires-clause-accepted : goal.accepted-requires-clause-accepted
accepted-requires-clause-accepted g c = c.in_ok-end.ensures.answer.accepted

pub returns-clause-comes : goal.returns-clause-comes
returns-clause-comes g c =
    sampled_by c.args.budget c.args.nodes c.in_ok-graph.graph c.in_ok-end.end c.in_ok-end.answer c.in_ok-bounds.bounds.lower c.in_ok-bounds.bounds.upper c.in_ok-line.line.items
    c.in_ok-graph.ensures c.nodes-nodes.ensures.limited c.in_ok-end.ensures.answer c.in_ok-end.ensures.ends c.in_ok-bounds.ensures.0 c.in_ok-bounds.ensures.1 c.in_ok-line.ensures
