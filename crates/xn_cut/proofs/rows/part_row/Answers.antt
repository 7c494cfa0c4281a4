use Rattle.xn_cut.proofs.Answered.{part_answer}
use Rattle.xn_cut.proofs.rows.part_row.Goals as goal

pub returns : goal.returns
returns c =
    part_answer c.args.graph.now c.args.orders.now c.in_ok-edges.edges.items c.in_ok-edges.lists c.in_ok-edges.ensures c.in_ok-found.found c.in_ok-found.ensures
