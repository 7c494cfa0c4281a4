use Rattle.std.proofs.Common.{◌∙◌, subst, sym}
use Rattle.xn_cutter.specs.Point.{IsPoint}
use Rattle.xn_cutter.proofs.Points.{no_variables}
use Rattle.xn_cutter.proofs.tests.boxed_cutters_are_asked_in_turn.Goals as goal

pub rows_of-requires-clause-point : goal.rows_of-requires-clause-point
rows_of-requires-clause-point g c = subst (IsPoint c.in_ok-graph.graph) (sym (c.as_slice.ensures.value ∙ c.new-point.ensures.items)) (no_variables c.in_ok-graph.graph)
