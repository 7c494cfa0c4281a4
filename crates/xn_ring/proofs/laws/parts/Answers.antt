use Rattle.xn_ring.proofs.Marked.{cycle_count_with-all, parts_add_up, walks_stay}
use Rattle.xn_ring.proofs.Marks.{marks_are_many}
use Rattle.xn_ring.proofs.Restriction.{has_cycles_of}
use Rattle.xn_ring.proofs.laws.parts.Goals as goal

pub returns-clause-all : goal.returns-clause-all
returns-clause-all c = cycle_count_with-all

pub returns-clause-stay : goal.returns-clause-stay
returns-clause-stay c = walks_stay

pub returns-clause-two : goal.returns-clause-two
returns-clause-two c = parts_add_up

pub returns-clause-marks : goal.returns-clause-marks
returns-clause-marks c = marks_are_many

pub returns-clause-restrictions : goal.returns-clause-restrictions
returns-clause-restrictions c = has_cycles_of
