use Rattle.xn_graph.specs.declared.webs.WebErr.TheVariants.{End}
use Rattle.xn_graph.proofs.Refused.{IsRefusedWeb-not}
use Rattle.xn_graph.proofs.webs.Web.make.Goals as goal

pub returns-in-None-clause-err : goal.returns-in-None-clause-err
returns-in-None-clause-err c =
    λ e. (λ is. cc, λ refused. absurd (IsRefusedWeb-not _ _ (rw c.as_slice.ensures.value at c.in-None.ensures.none) e refused))

pub returns-in-Some-clause-ok : goal.returns-in-Some-clause-ok
returns-in-Some-clause-ok c = λ limited. IsRefusedWeb-not _ _ limited (End c.in-Some.s) (rw c.as_slice.ensures.value at c.in-Some.ensures.some)
