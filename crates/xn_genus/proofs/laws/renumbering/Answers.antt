use Rattle.std.proofs.Common.{arith}
use Rattle.xn_genus.proofs.Part.{components_renumbered, faces_renumbered, map_renumbered}
use Rattle.xn_genus.proofs.laws.renumbering.Goals as goal

pub returns-clause-map : goal.returns-clause-map
returns-clause-map c = λ nodes ends renumbered e next after map is.
    map_renumbered nodes ends renumbered e next after map is.segments is.all is.below is.turns

pub returns-clause-counts : goal.returns-clause-counts
returns-clause-counts c = λ nodes ends renumbered e next after map is. (
  faces_renumbered nodes ends renumbered e next after map is.segments is.all is.below is.turns,
  components_renumbered nodes ends renumbered e next after map is.segments is.all is.below is.turns,
)

pub returns-clause-flat : goal.returns-clause-flat
returns-clause-flat c = λ nodes ends renumbered e next after map is flat.
    omega (
      arith,
      flat,
      is.all,
      faces_renumbered nodes ends renumbered e next after map is.segments is.all is.below is.turns,
      components_renumbered nodes ends renumbered e next after map is.segments is.all is.below is.turns,
    )
