use Rattle.std.proofs.Common.{arith}
use Rattle.xn_genus.proofs.Nodes.{components_fewer, components_more, faces_fewer, lone_more, map_fewer, map_more}
use Rattle.xn_genus.proofs.laws.nodes_without_darts.Goals as goal

pub returns-clause-comes : goal.returns-clause-comes
returns-clause-comes c = λ nodes ends next map. (
  map_more nodes ends map.ends_in next map,
  omega (arith, lone_more nodes ends map.ends_in),
  components_more nodes ends map.ends_in,
)

pub returns-clause-comes_flat : goal.returns-clause-comes_flat
returns-clause-comes_flat c = λ nodes ends next map flat. omega (arith, flat, lone_more nodes ends map.ends_in, components_more nodes ends map.ends_in)

pub returns-clause-goes : goal.returns-clause-goes
returns-clause-goes c = λ rest v ends left next map goes. (
  map_fewer rest v ends left next map goes,
  faces_fewer rest v ends left next map goes,
  components_fewer rest v ends left next map goes,
)

pub returns-clause-goes_flat : goal.returns-clause-goes_flat
returns-clause-goes_flat c = λ rest v ends left next map goes flat.
    omega (arith, flat, goes.all, faces_fewer rest v ends left next map goes, components_fewer rest v ends left next map goes)
