use Rattle.std.proofs.Common.{ap, length, arith}
use Rattle.std.proofs.lemmas.List.FromFn.{length-range_with_len}
use Rattle.std.proofs.lemmas.Result.{IfOk-weaker}
use Rattle.xn_brute.proofs.drawings.all_edges.Goals as goal

pub returns-clause-few : goal.returns-clause-few
returns-clause-few c =
    IfOk-weaker c.numbers.result _ _ (λ edges is. omega (arith, ap length is, length-range_with_len 0 c.edges.result, c.edges.ensures.value, c.edges.ensures.limited.few_edges)) c.numbers.ensures
