use Rattle.std.proofs.Common.{arith}
use Rattle.xn_surgery.proofs.Contract.{components_left, faces_left, map_left}
use Rattle.xn_surgery.proofs.laws.contraction.Goals as goal

pub returns-clause-map : goal.returns-clause-map
returns-clause-map c = map_left

pub returns-clause-counts : goal.returns-clause-counts
returns-clause-counts c = λ nodes left_nodes ends left next after start steps node map is. (
  faces_left nodes left_nodes ends left next after start steps node map is,
  components_left nodes left_nodes ends left next after start steps node map is,
)

pub returns-clause-flat : goal.returns-clause-flat
returns-clause-flat c = λ nodes left_nodes ends left next after start steps node map is.
    let faces = faces_left nodes left_nodes ends left next after start steps node map is in
    let components = components_left nodes left_nodes ends left next after start steps node map is in (
      λ flat. omega (arith, flat, faces, components, is.as_many),
      λ flat. omega (arith, flat, faces, components, is.as_many),
    )
