use Rattle.std.proofs.Common.{◌∙◌, sym, arith}
use Rattle.xn_model.specs.Graph.{independent}
use Rattle.xn_graph.proofs.Pairs.{passed_over, taken}
use Rattle.xn_graph.proofs.graphs.Graph.push_pairs.Goals as goal
use Rattle.xn_graph.proofs.graphs.Graph.push_pairs.Goals.{then-independent+in_ok-push, else-independent}

pub loop-f-preserved : goal.loop-f-preserved
loop-f-preserved c =
    let e = c.args.e in
    let test = independent c.args.self.now.ends e in
    elim c.if-independent.branch [
      | then-independent+in_ok-push w ↦
          rw (w.list-is, w.in_ok-push.ensures.items)
          (sym (taken test (λ f. (e, f)) c.loop-f.list.items c.loop-f.f _ (omega arith) (sym c.independent.ensures ∙ w.if-independent.true)) ∙ c.loop-f.invariant)
      | else-independent w ↦
          rw w.list-is
          (sym (passed_over test (λ f. (e, f)) c.loop-f.list.items c.loop-f.f _ (omega arith) (sym c.independent.ensures ∙ w.if-independent.false)) ∙ c.loop-f.invariant)
    ]
