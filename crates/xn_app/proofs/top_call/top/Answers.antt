use Rattle.std.proofs.Common.{◌⊎◌, IfSome, rules, sym, subst, ◌∙◌}
use Rattle.xn_command.specs.Gives.{request_of_command, words_request}
use Rattle.xn_command.specs.Request.{Request, check, draw, examine, sample, solve}
use Rattle.xn_app.specs.Ends.{Finishes, Quits}
use Rattle.xn_app.specs.Files.{Shows, WithFile, WithoutFile}
use Rattle.xn_app.specs.Outcome.{AreOneEnd, ComesTo, Outcome}
use Rattle.xn_app.specs.Status.{IsAside, IsEarly, IsVerdictEnd}
use Rattle.xn_app.proofs.Ends.{asked_is, asked_same, finished_shows, never_asked, never_words, ran_on, with_file, without_file}
use Rattle.xn_app.proofs.OneOutcome.{early_told, exact_told}
use Rattle.xn_app.proofs.Outcomes.{checked_done, drawn_done, examined_done}
use Rattle.xn_app.proofs.Samples.{finished_alone, sampled_done, sampled_undecided, wanting_alone}
use Rattle.xn_app.proofs.Searches.{solved_done, solved_undecided}
use Rattle.xn_app.proofs.top_call.top.Goals as goal

pub returns-in-Ok-work-clause-exact : goal.returns-in-Ok-work-clause-exact
returns-in-Ok-work-clause-exact g c =
    let told = g.I.Input.told c.args.input.now in
    let r = request_of_command c.in-Ok.command in
    let old = g.K.Sink.taken c.args.out.now in
    let new = g.K.Sink.taken c.finish.new.out in
    let before = g.K.Sink.faults c.args.out.now in
    let after = g.K.Sink.faults c.finish.new.out in
    let status = c.in-Ok-work.status in
    let output = c.in-Ok-work.output.items in
    let end = c.finish.result in
    let judged : IsVerdictEnd status = search rules in
    let finishes : Finishes status output old new before after end = search rules in
    let comes : IfSome told (λ files. ComesTo files r (status, output)) = search rules in
    let ran = ran_on told r status output old new before after end judged finishes comes in
    let spoken = never_words status output old new before after end judged finishes in
    let laws = c.one_outcome.ensures in
    asked_is (words_request c.args.words.now) r (λ asked. IfSome told (λ files. (outcome : Outcome) → ComesTo files asked outcome → IsAside end ⊎ AreOneEnd asked end outcome.0))
    c.in-Ok.ensures.gives (exact_told laws.verdict laws.draw laws.front told r end old new spoken ran)

pub returns-in-Ok-work-clause-bounds : goal.returns-in-Ok-work-clause-bounds
returns-in-Ok-work-clause-bounds g c =
    λ graph answer asks done.
    let told = g.I.Input.told c.args.input.now in
    let r = request_of_command c.in-Ok.command in
    let old = g.K.Sink.taken c.args.out.now in
    let new = g.K.Sink.taken c.finish.new.out in
    let before = g.K.Sink.faults c.args.out.now in
    let after = g.K.Sink.faults c.finish.new.out in
    let status = c.in-Ok-work.status in
    let output = c.in-Ok-work.output.items in
    let end = c.finish.result in
    let judged : IsVerdictEnd status = search rules in
    let finishes : Finishes status output old new before after end = search rules in
    let comes : IfSome told (λ files. ComesTo files r (status, output)) = search rules in
    let ran = ran_on told r status output old new before after end judged finishes comes in
    checked_done c.accepted_bounds.ensures told graph answer r end old new (asked_same (words_request c.args.words.now) r (check graph answer) c.in-Ok.ensures.gives asks) done ran

pub returns-in-Ok-work-clause-drawing : goal.returns-in-Ok-work-clause-drawing
returns-in-Ok-work-clause-drawing g c =
    λ answer asks done.
    let told = g.I.Input.told c.args.input.now in
    let r = request_of_command c.in-Ok.command in
    let old = g.K.Sink.taken c.args.out.now in
    let new = g.K.Sink.taken c.finish.new.out in
    let before = g.K.Sink.faults c.args.out.now in
    let after = g.K.Sink.faults c.finish.new.out in
    let status = c.in-Ok-work.status in
    let output = c.in-Ok-work.output.items in
    let end = c.finish.result in
    let judged : IsVerdictEnd status = search rules in
    let finishes : Finishes status output old new before after end = search rules in
    let comes : IfSome told (λ files. ComesTo files r (status, output)) = search rules in
    let ran = ran_on told r status output old new before after end judged finishes comes in
    examined_done c.seen_texts.ensures told answer r end old new (asked_same (words_request c.args.words.now) r (examine answer) c.in-Ok.ensures.gives asks) done ran

pub returns-in-Ok-work-clause-shown : goal.returns-in-Ok-work-clause-shown
returns-in-Ok-work-clause-shown g c =
    λ graph answer asks done.
    let told = g.I.Input.told c.args.input.now in
    let r = request_of_command c.in-Ok.command in
    let old = g.K.Sink.taken c.args.out.now in
    let new = g.K.Sink.taken c.finish.new.out in
    let before = g.K.Sink.faults c.args.out.now in
    let after = g.K.Sink.faults c.finish.new.out in
    let status = c.in-Ok-work.status in
    let output = c.in-Ok-work.output.items in
    let end = c.finish.result in
    let judged : IsVerdictEnd status = search rules in
    let finishes : Finishes status output old new before after end = search rules in
    let comes : IfSome told (λ files. ComesTo files r (status, output)) = search rules in
    let ran = ran_on told r status output old new before after end judged finishes comes in
    drawn_done c.drawn_texts.ensures told graph answer r end old new (asked_same (words_request c.args.words.now) r (draw graph answer) c.in-Ok.ensures.gives asks) done ran

pub returns-in-Ok-work-clause-number : goal.returns-in-Ok-work-clause-number
returns-in-Ok-work-clause-number g c =
    λ graph budget asks done.
    let told = g.I.Input.told c.args.input.now in
    let r = request_of_command c.in-Ok.command in
    let old = g.K.Sink.taken c.args.out.now in
    let new = g.K.Sink.taken c.finish.new.out in
    let before = g.K.Sink.faults c.args.out.now in
    let after = g.K.Sink.faults c.finish.new.out in
    let status = c.in-Ok-work.status in
    let output = c.in-Ok-work.output.items in
    let end = c.finish.result in
    let judged : IsVerdictEnd status = search rules in
    let finishes : Finishes status output old new before after end = search rules in
    let comes : IfSome told (λ files. ComesTo files r (status, output)) = search rules in
    let ran = ran_on told r status output old new before after end judged finishes comes in
    solved_done c.accepted_bounds.ensures told graph budget r end old new (asked_same (words_request c.args.words.now) r (solve graph budget) c.in-Ok.ensures.gives asks) done ran

pub returns-in-Ok-work-clause-undecided : goal.returns-in-Ok-work-clause-undecided
returns-in-Ok-work-clause-undecided g c =
    λ graph budget lower upper spent asks ended.
    let told = g.I.Input.told c.args.input.now in
    let r = request_of_command c.in-Ok.command in
    let old = g.K.Sink.taken c.args.out.now in
    let new = g.K.Sink.taken c.finish.new.out in
    let before = g.K.Sink.faults c.args.out.now in
    let after = g.K.Sink.faults c.finish.new.out in
    let status = c.in-Ok-work.status in
    let output = c.in-Ok-work.output.items in
    let end = c.finish.result in
    let judged : IsVerdictEnd status = search rules in
    let finishes : Finishes status output old new before after end = search rules in
    let comes : IfSome told (λ files. ComesTo files r (status, output)) = search rules in
    let ran = ran_on told r status output old new before after end judged finishes comes in
    solved_undecided c.accepted_bounds.ensures told graph budget lower upper spent r end old new (asked_same (words_request c.args.words.now) r (solve graph budget) c.in-Ok.ensures.gives asks) ended ran

pub returns-in-Err-clause-exact : goal.returns-in-Err-clause-exact
returns-in-Err-clause-exact g c =
    let told = g.I.Input.told c.args.input.now in
    let r = request_of_command c.in-Ok.command in
    let end = c.in-Err.status in
    let early : IsEarly end = search rules in
    let quits : IfSome told (λ files. Quits (ComesTo files r) end) = search rules in
    let laws = c.one_outcome.ensures in
    asked_is (words_request c.args.words.now) r (λ asked. IfSome told (λ files. (outcome : Outcome) → ComesTo files asked outcome → IsAside end ⊎ AreOneEnd asked end outcome.0))
    c.in-Ok.ensures.gives (early_told laws.verdict laws.draw laws.front told r end early quits)

pub returns-in-Ok-work-clause-alone : goal.returns-in-Ok-work-clause-alone
returns-in-Ok-work-clause-alone g c =
    λ nodes budget asks.
    let r = request_of_command c.in-Ok.command in
    let old = g.K.Sink.taken c.args.out.now in
    let new = g.K.Sink.taken c.finish.new.out in
    let end = c.finish.result in
    let is = asked_same (words_request c.args.words.now) r (sample nodes budget) c.in-Ok.ensures.gives asks in
    let ran = finished_alone r nodes budget c.in-Ok-work.status c.in-Ok-work.output.items old new (g.K.Sink.faults c.args.out.now) (g.K.Sink.faults c.finish.new.out) end is c.in-Ok-work.ensures.alone (search rules) in
    ran

pub returns-in-Ok-work-clause-sample_number : goal.returns-in-Ok-work-clause-sample_number
returns-in-Ok-work-clause-sample_number g c =
    λ nodes budget asks done.
    let r = request_of_command c.in-Ok.command in
    let old = g.K.Sink.taken c.args.out.now in
    let new = g.K.Sink.taken c.finish.new.out in
    let end = c.finish.result in
    let is = asked_same (words_request c.args.words.now) r (sample nodes budget) c.in-Ok.ensures.gives asks in
    let ran = finished_alone r nodes budget c.in-Ok-work.status c.in-Ok-work.output.items old new (g.K.Sink.faults c.args.out.now) (g.K.Sink.faults c.finish.new.out) end is c.in-Ok-work.ensures.alone (search rules) in
    sampled_done c.accepted_bounds.ensures nodes budget old new end done ran

pub returns-in-Ok-work-clause-sample_undecided : goal.returns-in-Ok-work-clause-sample_undecided
returns-in-Ok-work-clause-sample_undecided g c =
    λ nodes budget lower upper spent asks ended.
    let r = request_of_command c.in-Ok.command in
    let old = g.K.Sink.taken c.args.out.now in
    let new = g.K.Sink.taken c.finish.new.out in
    let end = c.finish.result in
    let is = asked_same (words_request c.args.words.now) r (sample nodes budget) c.in-Ok.ensures.gives asks in
    let ran = finished_alone r nodes budget c.in-Ok-work.status c.in-Ok-work.output.items old new (g.K.Sink.faults c.args.out.now) (g.K.Sink.faults c.finish.new.out) end is c.in-Ok-work.ensures.alone (search rules) in
    sampled_undecided c.accepted_bounds.ensures nodes budget old new lower upper spent end ended ran

pub returns-in-Err-clause-alone : goal.returns-in-Err-clause-alone
returns-in-Err-clause-alone g c =
    λ nodes budget asks.
    let r = request_of_command c.in-Ok.command in
    let out = g.K.Sink.taken c.args.out.now in
    let end = c.in-Err.status in
    let is = asked_same (words_request c.args.words.now) r (sample nodes budget) c.in-Ok.ensures.gives asks in
    let ran = wanting_alone r nodes budget end out out is c.in-Err.ensures.wanting in
    ran

pub returns-in-Err-clause-sample_number : goal.returns-in-Err-clause-sample_number
returns-in-Err-clause-sample_number g c =
    λ nodes budget asks done.
    let r = request_of_command c.in-Ok.command in
    let out = g.K.Sink.taken c.args.out.now in
    let end = c.in-Err.status in
    let is = asked_same (words_request c.args.words.now) r (sample nodes budget) c.in-Ok.ensures.gives asks in
    let ran = wanting_alone r nodes budget end out out is c.in-Err.ensures.wanting in
    sampled_done c.accepted_bounds.ensures nodes budget out out end done ran

pub returns-in-Err-clause-sample_undecided : goal.returns-in-Err-clause-sample_undecided
returns-in-Err-clause-sample_undecided g c =
    λ nodes budget lower upper spent asks ended.
    let r = request_of_command c.in-Ok.command in
    let out = g.K.Sink.taken c.args.out.now in
    let end = c.in-Err.status in
    let is = asked_same (words_request c.args.words.now) r (sample nodes budget) c.in-Ok.ensures.gives asks in
    let ran = wanting_alone r nodes budget end out out is c.in-Err.ensures.wanting in
    sampled_undecided c.accepted_bounds.ensures nodes budget out out lower upper spent end ended ran

pub returns-in-Ok-work-clause-unread : goal.returns-in-Ok-work-clause-unread
returns-in-Ok-work-clause-unread g c =
    λ nodes budget asks.
    without_file (words_request c.args.words.now) (request_of_command c.in-Ok.command) nodes budget c.in-Ok.ensures.gives asks c.in-Ok-work.ensures.unread

pub returns-in-Err-clause-unread : goal.returns-in-Err-clause-unread
returns-in-Err-clause-unread g c =
    λ nodes budget asks.
    without_file (words_request c.args.words.now) (request_of_command c.in-Ok.command) nodes budget c.in-Ok.ensures.gives asks c.in-Err.ensures.unread
