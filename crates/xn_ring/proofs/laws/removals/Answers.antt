use Rattle.xn_ring.proofs.Skipping.{all_taken_out}
use Rattle.xn_ring.proofs.Without.{is_taken_out}
use Rattle.xn_ring.proofs.laws.removals.Goals as goal

pub returns-clause-one : goal.returns-clause-one
returns-clause-one c = λ n x f permutes x_in. is_taken_out n x f permutes x_in

pub returns-clause-several : goal.returns-clause-several
returns-clause-several c = λ n xs f permutes. all_taken_out n f permutes xs
