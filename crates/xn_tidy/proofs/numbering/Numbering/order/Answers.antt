use Rattle.std.proofs.Common.{ap, arith, length}
use Rattle.xn_tidy.specs.Numbering.{Named}
use Rattle.xn_tidy.proofs.Inverse.{few_numbers}
use Rattle.xn_tidy.proofs.numbering.Numbering.order.Goals as goal

pub returns-clause-few : goal.returns-clause-few
returns-clause-few c =
    let few = few_numbers c.self.inside.numbers.items c.self.inside.order.items c.self.invariant in
    omega (arith, few, ap (λ (v : Named). v.count) c.self.view_is, ap (λ (v : Named). length v.order) c.self.view_is)
