use Rattle.std.proofs.Common.{arith}
use Rattle.xn_programs.proofs.Grown.{grown_one}
use Rattle.xn_programs.proofs.turns.push_row.Goals as goal

pub returns : goal.returns
returns c =
    grown_one c.args.graph.now c.args.rows.now.items c.push.new.self.items c.args.row c.requires.hold c.requires.row c.requires.kind
    (omega (arith, c.len.ensures, c.args.rows.now.ok.0)) c.in_ok-push.ensures.items
