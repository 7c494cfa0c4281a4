use Rattle.std.proofs.Common.{◌∙◌}
use Rattle.xn_model.specs.Map.{is_lone}
use Rattle.xn_map.proofs.Counting.{count_by-range}
use Rattle.xn_map.proofs.lone.lone_count.Goals as goal

pub returns-clause-lone : goal.returns-clause-lone
returns-clause-lone c = c.lone_among.ensures.lone ∙ count_by-range c.args.web.now.nodes (is_lone c.args.web.now.ends)
