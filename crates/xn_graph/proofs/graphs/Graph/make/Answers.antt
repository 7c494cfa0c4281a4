use Rattle.xn_graph.proofs.Refused.{IsRefused-not}
use Rattle.xn_graph.proofs.graphs.Graph.make.Goals as goal

pub returns-in-None-clause-err : goal.returns-in-None-clause-err
returns-in-None-clause-err c =
    λ e. (λ is. cc, λ refused. absurd (IsRefused-not _ _ (rw c.as_slice.ensures.value at c.in-None.ensures.none) e refused))

pub returns-in-Some-clause-ok : goal.returns-in-Some-clause-ok
returns-in-Some-clause-ok c = λ limited. IsRefused-not _ _ limited _ (rw c.as_slice.ensures.value at c.in-Some.ensures.some)
