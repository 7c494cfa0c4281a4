use Rattle.std.proofs.Common.{◌++◌, ◌+◌, drop, length, ◌∙◌, ap, arith}
use Rattle.xn_model.specs.Lists.{at}
use Rattle.xn_simple.specs.Crossed.{starts_of}
use Rattle.xn_simple.proofs.Steps.{lists_left, starts-more}
use Rattle.xn_simple.proofs.starts.push_starts.Goals as goal

pub loop-e-preserved : goal.loop-e-preserved
loop-e-preserved c =
    let next = at c.args.map.now.next in
    let lists = c.args.orders.now in
    let l = c.at-list.result.now in
    let first = c.loop-e.first in
    let e = c.loop-e.e in
    let old = c.loop-e.invariant in
    let left = lists_left lists e (omega arith) in
    record {
      left = omega (arith, old.left, left.0, left.1, ap length c.at-list.ensures);
      starts =
          ap (λ xs. xs ++ starts_of next (first + (length l + 1)) (drop (e + 1) lists)) c.in_ok-push_along.ensures
          ∙ starts-more next c.loop-e.starts.items lists l first e _ (omega arith) c.at-list.ensures old.starts;
    }
