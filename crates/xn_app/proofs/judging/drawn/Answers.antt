use Rattle.std.proofs.Common.{rules}
use Rattle.std.specs.Map.{keys_of}
use Rattle.xn_check.specs.Verdict.{DrawVerdict}
use Rattle.xn_show.specs.Text.{show_text}
use Rattle.xn_app.proofs.Outcomes.{accepted, refused}
use Rattle.xn_app.proofs.judging.drawn.Goals as goal

pub returns-in_ok-show-in-Ok : goal.returns-in_ok-show-in-Ok
returns-in_ok-show-in-Ok c =
    let read = c.args.read.now in
    accepted (DrawVerdict read.graph read.loops c.args.text.now) (show_text read.graph (keys_of read.ids.entries)) c.in-Ok.drawing c.in_ok-show-in-Ok.field-0.items (search rules) (search rules)

pub returns-in_ok-write_flaw-in-Err-Refused : goal.returns-in_ok-write_flaw-in-Err-Refused
returns-in_ok-write_flaw-in-Err-Refused c =
    let read = c.args.read.now in
    refused (DrawVerdict read.graph read.loops c.args.text.now) (show_text read.graph (keys_of read.ids.entries)) c.in-Err-Refused.flaw c.in_ok-write_flaw-in-Err-Refused.field-0.items (search rules) (search rules)
