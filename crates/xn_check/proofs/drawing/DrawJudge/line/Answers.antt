use Rattle.std.proofs.Common.{sym, subst}
use Rattle.xn_proof.specs.Forms.{Reached}
use Rattle.xn_check.specs.FrontFits.{FrontStands}
use Rattle.xn_check.specs.FrontSaid.{FrontSaid}
use Rattle.xn_check.proofs.Drawn.{front_fits, stands_on}
use Rattle.xn_check.proofs.drawing.DrawJudge.line.Goals as goal

pub test-requires : goal.test-requires
test-requires c =
    let ready = subst (λ (v : Reached × FrontSaid). FrontStands v.0.1 v.1) (sym c.self.view_is) c.requires in
    front_fits c.self.inside.forms c.line.new.self c.self.inside.front (c.args.bytes.now, c.args.ended) c.in_ok-item.item c.in_ok-item.ensures.takes ready

pub keep-requires : goal.keep-requires
keep-requires c =
    let ready = subst (λ (v : Reached × FrontSaid). FrontStands v.0.1 v.1) (sym c.self.view_is) c.requires in
    front_fits c.self.inside.forms c.line.new.self c.self.inside.front (c.args.bytes.now, c.args.ended) c.in_ok-item.item c.in_ok-item.ensures.takes ready

pub returns-clause-ready : goal.returns-clause-ready
returns-clause-ready c =
    let ready = subst (λ (v : Reached × FrontSaid). FrontStands v.0.1 v.1) (sym c.self.view_is) c.requires in
    stands_on c.self.inside.forms c.line.new.self c.self.inside.front (c.args.bytes.now, c.args.ended) c.in_ok-item.item c.in_ok-item.ensures.takes ready
    c.keep.new.self c.in_ok-keep.ensures
