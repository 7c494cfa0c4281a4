use Rattle.std.proofs.Common.{List, ℕ, ◌∙◌, ap}
use Rattle.xn_model.specs.Lists.{has}
use Rattle.xn_insert.specs.ListedLoose.{edges_in}
use Rattle.xn_upper.proofs.Whole.{again_all, taken_out}
use Rattle.xn_upper.proofs.improving.again.Goals as goal

pub with_edge-requires-clause-new : goal.with_edge-requires-clause-new
with_edge-requires-clause-new c = ap (λ (es : List ℕ). has es c.args.e) c.in_ok-rest.ensures.same_edges ∙ taken_out c.args.e (edges_in c.args.loose)

pub returns : goal.returns
returns c = again_all c.args.graph.now c.args.e c.args.loose c.in_ok-rest.rest c.in_ok-whole.whole c.requires.loose c.in_ok-rest.ensures.same_edges c.in_ok-whole.ensures
