use Rattle.std.proofs.Common.{subst}
use Rattle.xn_simple.specs.Tangle.{lists_in}
use Rattle.xn_simple.specs.Untangling.{IsStep}
use Rattle.xn_simple.proofs.tangle.Tangle.take_step.Goals as goal

pub cut_off-requires : goal.cut_off-requires
cut_off-requires c =
    let t = lists_in c.args.self.now in
    let r = c.requires in
    (r.0, r.1, subst (IsStep r.0 t c.args.e) c.in-Closed.is r.2)

pub change_beginnings-requires : goal.change_beginnings-requires
change_beginnings-requires c =
    let t = lists_in c.args.self.now in
    let r = c.requires in
    (r.0, r.1, subst (IsStep r.0 t c.args.e) c.in-Beginnings.is r.2)

pub change_middles-requires : goal.change_middles-requires
change_middles-requires c =
    let t = lists_in c.args.self.now in
    let r = c.requires in
    (r.0, r.1, (subst (IsStep r.0 t c.args.e) c.in-Middles.is r.2).1)

pub returns-in_ok-cut_off-in-Closed : goal.returns-in_ok-cut_off-in-Closed
returns-in_ok-cut_off-in-Closed c = λ g tangle step. c.in_ok-cut_off-in-Closed.ensures g tangle (subst (IsStep g (lists_in c.args.self.now) c.args.e) c.in-Closed.is step)

pub returns-in_ok-change_beginnings-in-Beginnings : goal.returns-in_ok-change_beginnings-in-Beginnings
returns-in_ok-change_beginnings-in-Beginnings c = λ g tangle step. c.in_ok-change_beginnings-in-Beginnings.ensures g tangle (subst (IsStep g (lists_in c.args.self.now) c.args.e) c.in-Beginnings.is step)

pub returns-in_ok-change_middles-in-Middles : goal.returns-in_ok-change_middles-in-Middles
returns-in_ok-change_middles-in-Middles c = λ g tangle step. c.in_ok-change_middles-in-Middles.ensures g tangle (subst (IsStep g (lists_in c.args.self.now) c.args.e) c.in-Middles.is step).1
