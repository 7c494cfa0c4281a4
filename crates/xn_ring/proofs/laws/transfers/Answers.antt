use Rattle.xn_ring.proofs.Renumbering.{inverse_there, is_inverse, is_renumbered}
use Rattle.xn_ring.proofs.Transfer.{transfers}
use Rattle.xn_ring.proofs.laws.transfers.Goals as goal

pub returns-clause-transfers : goal.returns-clause-transfers
returns-clause-transfers c = transfers

pub returns-clause-renumbering : goal.returns-clause-renumbering
returns-clause-renumbering c = is_renumbered

pub returns-clause-undoing : goal.returns-clause-undoing
returns-clause-undoing c = is_inverse

pub returns-clause-inverses : goal.returns-clause-inverses
returns-clause-inverses c = inverse_there
