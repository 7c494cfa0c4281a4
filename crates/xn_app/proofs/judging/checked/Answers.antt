use Rattle.std.proofs.Common.{rules}
use Rattle.xn_check.specs.Verdict.{Verdict}
use Rattle.xn_app.specs.Output.{accepted_line}
use Rattle.xn_app.proofs.Outcomes.{accepted, refused}
use Rattle.xn_app.proofs.judging.checked.Goals as goal

pub returns-in_ok-accepted_line-in-Ok : goal.returns-in_ok-accepted_line-in-Ok
returns-in_ok-accepted_line-in-Ok c =
    let a = c.in-Ok.accepted in
    let read = c.args.read.now in
    accepted (Verdict read.graph read.loops c.args.text.now) accepted_line (a.lower, a.upper) c.in_ok-accepted_line-in-Ok.field-0.items (search rules) (search rules)

pub returns-in_ok-write_flaw-in-Err-Refused : goal.returns-in_ok-write_flaw-in-Err-Refused
returns-in_ok-write_flaw-in-Err-Refused c =
    let read = c.args.read.now in
    refused (Verdict read.graph read.loops c.args.text.now) accepted_line c.in-Err-Refused.flaw c.in_ok-write_flaw-in-Err-Refused.field-0.items (search rules) (search rules)
