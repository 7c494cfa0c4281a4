use Rattle.std.proofs.Common.{sym, subst}
use Rattle.xn_programs.specs.Named.{Named}
use Rattle.xn_programs.proofs.Naming.{is_point, named_none}
use Rattle.xn_programs.proofs.points.point_of.Goals as goal

pub loop-e-init : goal.loop-e-init
loop-e-init c = subst (λ items. Named c.args.graph.now items 0) (sym c.new-point.ensures.items) (named_none c.args.graph.now 0)

pub returns : goal.returns
returns c = is_point c.args.graph.now c.loop-order.point.items c.loop-order.next c.loop-order.invariant
