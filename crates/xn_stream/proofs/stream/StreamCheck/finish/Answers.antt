use Rattle.std.proofs.Common.{◌≡◌, ap, sym, subst, ◌∙◌}
use Rattle.xn_check.specs.Gives.{bounds_in}
use Rattle.xn_check.specs.Judging.{at_end}
use Rattle.xn_stream.specs.Stream.{Stream}
use Rattle.xn_stream.proofs.Said.{open_verdict, refused_verdict}
use Rattle.xn_stream.proofs.stream.StreamCheck.finish.Goals as goal

pub returns-in-Some-clause-verdict : goal.returns-in-Some-clause-verdict
returns-in-Some-clause-verdict c =
    let refused = ap (λ (v : Stream). v.refused) (sym c.self.view_is) ∙ c.in-Some.is in
    λ text stands. refused_verdict c.args.self c.in-Some.refusal refused text stands

pub returns-clause-verdict : goal.returns-clause-verdict
returns-clause-verdict c =
    let none = ap (λ (v : Stream). v.refused) (sym c.self.view_is) ∙ c.in-None.is in
    let bounds = subst (λ (v : Stream). bounds_in c.finish.result ≡ at_end v.judge.at (v.judge.front.lower, v.judge.front.upper)) c.self.view_is c.finish.ensures in
    λ text stands. open_verdict c.args.self none text stands c.finish.result bounds
