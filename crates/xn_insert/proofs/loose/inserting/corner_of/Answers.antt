use Rattle.std.proofs.Common.{inl, inr}
use Rattle.std.proofs.lemmas.Bool.{cases_Bool}
use Rattle.xn_model.specs.Map.{is_lone}
use Rattle.xn_genus.proofs.Lone.{dart_if_not_lone}
use Rattle.xn_insert.proofs.loose.inserting.corner_of.Goals as goal

pub returns-in-None-clause-corner : goal.returns-in-None-clause-corner
returns-in-None-clause-corner c =
    let ends = c.args.map.now.web.ends in (
      c.requires,
      elim (cases_Bool (is_lone ends c.args.v)) [
        | inl lone ↦ lone
        | inr other ↦ let there = dart_if_not_lone ends c.args.v other in absurd (c.in-None.ensures.none there.0 there.1 there.2)
      ],
    )
