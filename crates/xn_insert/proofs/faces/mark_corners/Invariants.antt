use Rattle.xn_insert.specs.Routed.{MarkCorners}
use Rattle.xn_insert.proofs.faces.mark_corners.Given as goal

abbrev pub invariant-loop-c : goal.invariant-loop-c
invariant-loop-c l = MarkCorners l.map l.names l.v l.c l.corners
