use Rattle.std.proofs.Common.{ap}
use Rattle.xn_map.proofs.Subdivided.{web_divided}
use Rattle.xn_map.proofs.maps.dividing.divide.Goals as goal

pub returns-in-Ok-clause-ok : goal.returns-in-Ok-clause-ok
returns-in-Ok-clause-ok c =
    web_divided c.args.web.now c.args.s c.end-v.result.1 c.in_ok-w.w c.add_node.new.self c.add_segment.new.self c.move_dart.new.self c.requires.segment
    (ap (λ p. p.1) c.end-v.ensures.value) c.in_ok-w.ensures.node c.in_ok-w.ensures.ok c.in-Ok.ensures.ok c.move_dart.ensures.exactly
