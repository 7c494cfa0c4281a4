use Rattle.std.proofs.Common.{length}
use Rattle.xn_plant.proofs.Shown.{some_edges}
use Rattle.xn_plant.proofs.planting.shrunk.Goals as goal

pub try_edges-requires-clause-edges : goal.try_edges-requires-clause-edges
try_edges-requires-clause-edges g c =
    some_edges (length c.args.graph.now.ends) c.args.row.edges c.in_ok-edges.edges.items c.requires.row.holds.orders.edge_list c.in_ok-edges.ensures
