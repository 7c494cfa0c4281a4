use Rattle.std.proofs.Common.{◌+◌, arith}
use Rattle.xn_programs.proofs.Naming.{named_push}
use Rattle.xn_programs.proofs.points.name.Goals as goal

pub returns : goal.returns
returns c =
    named_push c.args.graph.now c.args.point.now.items c.push.new.self.items c.args.next (c.place_of-place.result + 1) c.args.variable c.fraction.result c.in_ok-push.ensures.items
    (c.is_var.ensures c.if-not-is_var.false) (omega (arith, c.if-place-next.false, c.place_of-place.ensures.place)) (omega (arith, c.place_of-place.ensures.place)) c.requires
