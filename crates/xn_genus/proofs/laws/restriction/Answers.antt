use Rattle.xn_genus.proofs.Listed.{part_along, part_listed}
use Rattle.xn_genus.proofs.Part.{flat_of_part, map_of_part, passes_over}
use Rattle.xn_genus.proofs.Restrict.{restricted_flat, restricted_leads, restricted_map}
use Rattle.xn_genus.proofs.laws.restriction.Goals as goal

pub returns-clause-live : goal.returns-clause-live
returns-clause-live c = λ web next map keep. (
  restricted_map web.nodes web.ends next map.is_map keep,
  restricted_flat web.nodes web.ends next map.is_map keep map.flat,
  restricted_leads web.nodes web.ends next map.is_map keep,
)

pub returns-clause-rotation : goal.returns-clause-rotation
returns-clause-rotation c = λ nodes ends part e next map is. passes_over nodes ends part e next map is

pub returns-clause-map : goal.returns-clause-map
returns-clause-map c = λ nodes ends part e next after map is passes. map_of_part nodes ends part e next map is after passes

pub returns-clause-flat : goal.returns-clause-flat
returns-clause-flat c = λ nodes ends part e next after map is passes. flat_of_part nodes ends part e next map is after passes

pub returns-clause-darts : goal.returns-clause-darts
returns-clause-darts c = part_along

pub returns-clause-segments : goal.returns-clause-segments
returns-clause-segments c = part_listed
