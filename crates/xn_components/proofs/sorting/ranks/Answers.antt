use Rattle.std.proofs.Common.{◌≤◌, length, arith}
use Rattle.xn_components.proofs.Overlaid.{few_apart}
use Rattle.xn_components.proofs.sorting.ranks.Goals as goal

pub set_ranks-requires-clause-few : goal.set_ranks-requires-clause-few
set_ranks-requires-clause-few c =
    let few = few_apart c.args.web.now.ends c.args.list.now c.requires in
    omega (arith, few, c.segments.ensures.limited.few_segments)

pub returns-clause-few : goal.returns-clause-few
returns-clause-few c =
    let few = few_apart c.args.web.now.ends c.args.list.now c.requires in
    omega (arith, few, c.segments.ensures.limited.few_segments)
