use Rattle.std.proofs.Common.{◌<◌, length, rules}
use Rattle.xn_text.proofs.Split.{lines_at, lines_last}
use Rattle.xn_text.proofs.pieces.Lines.next.Goals as goal

pub returns-in-Some-clause-lines : goal.returns-in-Some-clause-lines
returns-in-Some-clause-lines c =
    rw (← c.self.view_is) (lines_at c.self.inside.number c.self.inside.text.now c.in-Some.at c.in-Some.ensures)

pub returns-in-None-clause-lines : goal.returns-in-None-clause-lines
returns-in-None-clause-lines c =
    let some : 0 < length c.self.inside.text.now = search rules in
    rw (← c.self.view_is) (lines_last c.self.inside.number c.self.inside.text.now some c.in-None.ensures)
