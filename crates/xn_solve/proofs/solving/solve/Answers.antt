use Rattle.xn_solve.proofs.Made.{bounds_both, decides_from_limit, made_well_formed}
use Rattle.xn_solve.proofs.solving.solve.Goals as goal

pub returns-clause-bounds : goal.returns-clause-bounds
returns-clause-bounds g c =
    bounds_both c.args.graph.now c.args.budget c.in_ok-solved.solved c.nodes-nodes.ensures.limited c.requires c.in_ok-solved.ensures.solved
    c.all_drawings.ensures.drawings c.accepted_proofs.ensures

pub returns-clause-complete : goal.returns-clause-complete
returns-clause-complete g c =
    decides_from_limit c.args.graph.now c.args.budget c.in_ok-solved.solved c.nodes-nodes.ensures.limited c.requires c.in_ok-solved.ensures.solved
    c.all_drawings.ensures.drawings c.accepted_proofs.ensures

pub returns-clause-flat : goal.returns-clause-flat
returns-clause-flat g c = λ flat. c.in_ok-solved.ensures.flat ((c.flat_graphs.ensures c.args.graph.now c.nodes-nodes.ensures.limited.is_graph).1 flat)

pub returns-clause-well_formed : goal.returns-clause-well_formed
returns-clause-well_formed g c =
    made_well_formed c.args.graph.now c.args.budget c.in_ok-solved.solved c.nodes-nodes.ensures.limited c.requires c.in_ok-solved.ensures.solved
    c.answers.ensures
