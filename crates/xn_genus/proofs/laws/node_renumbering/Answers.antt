use Rattle.std.proofs.Common.{arith}
use Rattle.xn_genus.proofs.Nodes.{components_of_nodes, faces_of_nodes, map_of_nodes}
use Rattle.xn_genus.proofs.laws.node_renumbering.Goals as goal

pub returns-clause-map : goal.returns-clause-map
returns-clause-map c = map_of_nodes

pub returns-clause-counts : goal.returns-clause-counts
returns-clause-counts c = λ nodes ends renumbered k next map is.
    (faces_of_nodes nodes ends renumbered k next map is, components_of_nodes nodes ends renumbered k next map is)

pub returns-clause-flat : goal.returns-clause-flat
returns-clause-flat c = λ nodes ends renumbered k next map is flat.
    omega (arith, flat, is.all, faces_of_nodes nodes ends renumbered k next map is, components_of_nodes nodes ends renumbered k next map is)
