use Rattle.std.proofs.Common.{arith}
use Rattle.xn_surgery.proofs.Subdivide.{components_more, faces_more, map_more}
use Rattle.xn_surgery.proofs.laws.subdivision.Goals as goal

pub returns-clause-map : goal.returns-clause-map
returns-clause-map c = map_more

pub returns-clause-counts : goal.returns-clause-counts
returns-clause-counts c = λ nodes s ends more next after map is.
    (faces_more nodes s ends more next after map is, components_more nodes s ends more next after map is)

pub returns-clause-flat : goal.returns-clause-flat
returns-clause-flat c = λ nodes s ends more next after map is.
    let faces = faces_more nodes s ends more next after map is in
    let components = components_more nodes s ends more next after map is in (
      λ flat. omega (arith, flat, faces, components, is.longer),
      λ flat. omega (arith, flat, faces, components, is.longer),
    )
