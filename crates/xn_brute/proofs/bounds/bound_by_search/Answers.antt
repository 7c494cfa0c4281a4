use Rattle.std.proofs.lemmas.Result.{IfOk-weaker}
use Rattle.xn_brute.specs.Known.{state_of}
use Rattle.xn_brute.proofs.Least.{bound_of_least}
use Rattle.xn_brute.proofs.bounds.bound_by_search.Goals as goal

pub returns : goal.returns
returns c =
    let leaf = c.args.leaf.now in
    IfOk-weaker c.least.result _ _ (bound_of_least leaf.graph.now leaf.rows.now (state_of c.args.given.now) leaf.d leaf.parts.now) c.least.ensures
