use Rattle.xn_ring.proofs.Halves.{has_cycles_of_both, kept_halves, top_is_a_pair, top_is_alone}
use Rattle.xn_ring.proofs.laws.halves.Goals as goal

pub returns-clause-add_up : goal.returns-clause-add_up
returns-clause-add_up c = has_cycles_of_both

pub returns-clause-come_apart : goal.returns-clause-come_apart
returns-clause-come_apart c = kept_halves

pub returns-clause-alone : goal.returns-clause-alone
returns-clause-alone c = top_is_alone

pub returns-clause-pair : goal.returns-clause-pair
returns-clause-pair c = top_is_a_pair
