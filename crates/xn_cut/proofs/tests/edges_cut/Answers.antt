use Rattle.std.proofs.Common.{◌∙◌, subst, sym}
use Rattle.xn_cutter.specs.Point.{IsPoint}
use Rattle.xn_cutter.proofs.Points.{no_variables}
use Rattle.xn_cut.proofs.tests.edges_cut.Goals as goal

pub cut-requires-clause-point : goal.cut-requires-clause-point
cut-requires-clause-point g c = subst (IsPoint c.in_ok-graph.graph) (sym (c.as_slice.ensures.value ∙ c.new-point.ensures.items)) (no_variables c.in_ok-graph.graph)
