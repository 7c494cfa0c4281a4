use Rattle.std.proofs.Common.{◌≡◌, ◌++◌, ap, sym, subst, ◌∙◌, rules}
use Rattle.std.specs.Prelude.{None}
use Rattle.xn_check.specs.Judge.{said_of}
use Rattle.xn_stream.specs.Pieces.{ComesOrFails, HasCome}
use Rattle.xn_stream.specs.Stream.{Stream, rules_in}
use Rattle.xn_stream.proofs.Said.{open_exactly, refused_exactly, refused_more}
use Rattle.xn_stream.proofs.stream.StreamCheck.feed.Goals as goal

pub returns-in-Some-clause-stands : goal.returns-in-Some-clause-stands
returns-in-Some-clause-stands c =
    let refused = ap (λ (v : Stream). v.refused) (sym c.self.view_is) ∙ c.in-Some.is in
    λ text stands other. refused_more c.args.self.now c.in-Some.refusal refused text stands c.args.piece.now

pub returns-in-Some-clause-exactly : goal.returns-in-Some-clause-exactly
returns-in-Some-clause-exactly c =
    let refused = ap (λ (v : Stream). v.refused) (sym c.self.view_is) ∙ c.in-Some.is in
    λ text stands. refused_exactly c.args.self.now c.in-Some.refusal refused text stands c.args.piece.now

pub returns-clause-exactly : goal.returns-clause-exactly
returns-clause-exactly c =
    let inside : c.self.inside.refused ≡ None = search rules in
    let none = ap (λ (v : Stream). v.refused) (sym c.self.view_is) ∙ inside in
    λ text stands.
    open_exactly c.args.self.now none text stands c.args.piece.now c.take-result.new.judge.at (said_of c.take-result.new.judge)
    c.take-result.new.begun.items c.take-result.result
    (subst
    (λ (v : Stream). HasCome (rules_in v) text v.judge.at (said_of v.judge) v.begun →
    ComesOrFails (rules_in v) (text ++ c.args.piece.now) c.take-result.new.judge.at (said_of c.take-result.new.judge) c.take-result.new.begun.items
    c.take-result.result) c.self.view_is (c.take-result.ensures.finds text))
