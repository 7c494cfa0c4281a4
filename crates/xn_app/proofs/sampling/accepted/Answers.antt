use Rattle.std.proofs.Common.{Err, rules}
use Rattle.xn_check.specs.Verdict.{Verdict}
use Rattle.xn_proof.specs.Spelling.{text_of}
use Rattle.xn_app.proofs.Samples.{never_refused, same_bounds}
use Rattle.xn_app.proofs.sampling.accepted.Goals as goal

pub returns-in-Ok : goal.returns-in-Ok
returns-in-Ok c =
    let a = c.args.answer.now in
    let bounds = c.in-Ok.bounds in
    same_bounds c.one_outcome.ensures.verdict c.args.graph.now 0 (text_of a) (bounds.lower, bounds.upper) (a.lower, a.upper) c.in-Ok.ensures c.requires.accepted

pub unreachable-requires : goal.unreachable-requires
unreachable-requires c =
    let a = c.args.answer.now in
    let refused : Verdict c.args.graph.now 0 (text_of a) (Err c.in-Err-Refused._flaw) = search rules in
    never_refused c.one_outcome.ensures.verdict c.args.graph.now 0 (text_of a) (a.lower, a.upper) c.in-Err-Refused._flaw c.requires.accepted refused
