use Rattle.xn_kuratowski.proofs.Contract.{contracted_flat}
use Rattle.xn_kuratowski.proofs.Unions.{union_at_node, union_at_segment}
use Rattle.xn_kuratowski.proofs.laws.flat_webs.Goals as goal

pub returns-clause-contracted : goal.returns-clause-contracted
returns-clause-contracted c = contracted_flat

pub returns-clause-at_a_node : goal.returns-clause-at_a_node
returns-clause-at_a_node c = union_at_node

pub returns-clause-at_a_segment : goal.returns-clause-at_a_segment
returns-clause-at_a_segment c = union_at_segment
