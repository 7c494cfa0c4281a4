use Rattle.xn_programs.specs.Named.{Named}
use Rattle.xn_programs.proofs.points.point_of.Given as goal

abbrev pub invariant-loop-e : goal.invariant-loop-e
invariant-loop-e l = Named l.graph l.point.items l.next

abbrev pub invariant-loop-order : goal.invariant-loop-order
invariant-loop-order l = Named l.graph l.point.items l.next
