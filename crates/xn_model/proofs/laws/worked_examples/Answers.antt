use Rattle.std.proofs.Common.{refl}
use Rattle.xn_model.proofs.Examples.{curled_edge, k4_is_flat, k4_on_torus, k5_with_one_crossing, limit_of_nothing, parted_nodes, small_cycles}
use Rattle.xn_model.proofs.laws.worked_examples.Goals as goal

pub returns-clause-k4 : goal.returns-clause-k4
returns-clause-k4 c = k4_is_flat

pub returns-clause-torus : goal.returns-clause-torus
returns-clause-torus c = k4_on_torus

pub returns-clause-k5 : goal.returns-clause-k5
returns-clause-k5 c = k5_with_one_crossing

pub returns-clause-k33 : goal.returns-clause-k33
returns-clause-k33 c = refl

pub returns-clause-lone : goal.returns-clause-lone
returns-clause-lone c = record { faces = refl; components = refl; flat = refl }

pub returns-clause-curled : goal.returns-clause-curled
returns-clause-curled c = curled_edge

pub returns-clause-parted : goal.returns-clause-parted
returns-clause-parted c = parted_nodes

pub returns-clause-nothing : goal.returns-clause-nothing
returns-clause-nothing c = limit_of_nothing

pub returns-clause-cycles : goal.returns-clause-cycles
returns-clause-cycles c = small_cycles
