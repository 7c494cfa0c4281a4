use Rattle.std.proofs.Common.{rules}
use Rattle.xn_app.specs.Texts.{told_line}
use Rattle.xn_app.proofs.Lines.{said}
use Rattle.xn_app.proofs.telling.tell.Goals as goal

pub returns-clause-says : goal.returns-clause-says
returns-clause-says g c =
    let old = g.E.Sink.taken c.args.errors.now in
    let new = g.E.Sink.taken c.write_all.new.sink in
    let before = g.E.Sink.faults c.args.errors.now in
    let after = g.E.Sink.faults c.write_all.new.sink in
    said c.write_all.result old new (told_line c.args.end) before after (search rules) (search rules) c.write_all.ensures.cause
