use Rattle.std.proofs.Common.{ℕ, sym, subst}
use Rattle.xn_check.specs.Judge.{IsReady, Kept, kept_of, rules_of, said_of}
use Rattle.xn_check.specs.Judging.{Judged}
use Rattle.xn_check.proofs.Checked.{front_fits, ready_on, rows_fit}
use Rattle.xn_check.proofs.judge.Judge.line.Goals as goal

pub item-requires-clause-front : goal.item-requires-clause-front
item-requires-clause-front c =
    let k = kept_of c.self.inside.forms c.self.inside.loops c.self.inside.front c.self.inside.rows c.self.inside.tree in
    let ready : IsReady k = subst (λ (j : Kept). IsReady j) (sym c.self.view_is) c.requires in
    front_fits k k (c.args.bytes.now, c.args.ended) c.in_ok-item.item c.line.new.self c.in_ok-item.ensures.takes ready

pub item-requires-clause-rows : goal.item-requires-clause-rows
item-requires-clause-rows c =
    let k = kept_of c.self.inside.forms c.self.inside.loops c.self.inside.front c.self.inside.rows c.self.inside.tree in
    let ready : IsReady k = subst (λ (j : Kept). IsReady j) (sym c.self.view_is) c.requires in
    rows_fit k k (c.args.bytes.now, c.args.ended) c.in_ok-item.item c.line.new.self c.in_ok-item.ensures.takes ready

pub returns-clause-ready : goal.returns-clause-ready
returns-clause-ready c =
    let k = kept_of c.self.inside.forms c.self.inside.loops c.self.inside.front c.self.inside.rows c.self.inside.tree in
    let ready : IsReady k = subst (λ (j : Kept). IsReady j) (sym c.self.view_is) c.requires in
    let task = c.item.ensures.task in
    let judged = subst (λ (n : ℕ). Judged (rules_of k) (said_of k) n c.in_ok-item.item (said_of c.item.new.self) c.item.result) c.number-number.ensures c.item.ensures.judged in
    ready_on k c.item.new.self (c.args.bytes.now, c.args.ended) c.in_ok-item.item c.line.new.self c.in_ok-item.ensures.takes ready
    c.item.result c.item.ensures.at (record { graph = task.graph; loops = task.loops }) judged
