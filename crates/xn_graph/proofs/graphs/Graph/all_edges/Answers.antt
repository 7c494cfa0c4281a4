use Rattle.std.proofs.Common.{refl, arith}
use Rattle.std.proofs.lemmas.Iterator.{items_from_collect, YieldsList-from_range}
use Rattle.xn_graph.proofs.graphs.Graph.all_edges.Goals as goal

pub returns : goal.returns
returns c =
    rw (← c.edges.ensures.value) (items_from_collect c.collect.result c.collect.ensures.ran (YieldsList-from_range 0 c.edges.result c.edges.result refl (omega arith)))
