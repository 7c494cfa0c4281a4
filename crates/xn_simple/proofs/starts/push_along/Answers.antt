use Rattle.std.proofs.Common.{◌≡◌, ◌++◌, ◌-◌, ◌+◌, drop, length, sym, ◌∙◌, ap, arith}
use Rattle.xn_model.specs.Lists.{at}
use Rattle.xn_simple.specs.Crossed.{starts_after}
use Rattle.xn_simple.proofs.Steps.{starts-begin, starts-end, starts-no, starts-yes}
use Rattle.xn_simple.proofs.starts.push_along.Goals.{then-runs_straight+in_ok-push-2+in_ok-push-3, else-runs_straight}
use Rattle.xn_simple.proofs.starts.push_along.Goals as goal

pub loop-s-init : goal.loop-s-init
loop-s-init c =
    let next = at c.args.map.now.next in
    let first = c.args.first in
    let list = c.args.list.now in
    ap (λ xs. xs ++ starts_after next first (drop (first - first) list)) c.in_ok-push.ensures.items ∙ starts-begin next c.args.starts.now.items list first

pub loop-s-preserved : goal.loop-s-preserved
loop-s-preserved c =
    let next = at c.args.map.now.next in
    let s = c.loop-s.s in
    let first = c.args.first in
    let list = c.args.list.now in
    elim c.if-runs_straight.branch [
      | then-runs_straight+in_ok-push-2+in_ok-push-3 w ↦
          rw (w.starts-is, w.in_ok-push-3.ensures.items, w.in_ok-push-2.ensures.items)
          (starts-yes next c.loop-s.starts.items list first s _ (omega arith) (omega arith) (sym c.runs_straight.ensures ∙ w.if-runs_straight.true) c.loop-s.invariant)
      | else-runs_straight w ↦
          rw w.starts-is (starts-no next c.loop-s.starts.items list first s _ (omega arith) (omega arith) (sym c.runs_straight.ensures ∙ w.if-runs_straight.false) c.loop-s.invariant)
    ]

pub returns : goal.returns
returns c =
    let next = at c.args.map.now.next in
    let first = c.args.first in
    let list = c.args.list.now in
    let last : c.loop-s.s ≡ first + length list = omega arith in
    c.in_ok-push-4.ensures.items ∙ starts-end next c.loop-s.starts.items list first c.loop-s.s _ last c.loop-s.invariant
