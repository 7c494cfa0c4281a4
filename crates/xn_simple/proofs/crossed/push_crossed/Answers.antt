use Rattle.std.proofs.Common.{◌++◌, ◌+◌, [], ◌∷◌, drop, length, ◌∙◌, ap, arith}
use Rattle.xn_model.specs.Lists.{at}
use Rattle.xn_simple.specs.Crossed.{crossed_lists}
use Rattle.xn_simple.proofs.Steps.{crossed-more, lists_left}
use Rattle.xn_simple.proofs.crossed.push_crossed.Goals as goal

pub loop-e-preserved : goal.loop-e-preserved
loop-e-preserved c =
    let next = at c.args.map.now.next in
    let lists = c.args.orders.now in
    let l = c.at-list.result.now in
    let first = c.loop-e.first in
    let e = c.loop-e.e in
    let old = c.loop-e.invariant in
    let left = lists_left lists e (omega arith) in
    record {
      left = omega (arith, old.left, left.0, left.1, ap length c.at-list.ensures);
      lists =
          ap (λ ls. ls ++ crossed_lists next (first + (length l + 1)) (drop (e + 1) lists)) (c.in_ok-push.ensures.ok ∙ ap (λ x. c.loop-e.crossed ++ x ∷ []) c.in_ok-crossed_by.ensures)
          ∙ crossed-more next c.loop-e.crossed lists l first e _ (omega arith) c.at-list.ensures old.lists;
    }
