use Rattle.std.proofs.Common.{◌∙◌, ◌++◌, ap, sym, append_assoc, arith}
use Rattle.xn_graph.proofs.Pairs.{pairs-step}
use Rattle.xn_graph.proofs.graphs.Graph.pairs.Goals as goal

pub loop-e-preserved : goal.loop-e-preserved
loop-e-preserved c =
    let done = c.loop-e.list.items in
    rw c.in_ok-push_pairs.ensures
    (append_assoc done _ _ ∙ ap (λ ps. done ++ ps) (sym (pairs-step c.args.self.now c.loop-e.e (omega arith))) ∙ c.loop-e.invariant)
