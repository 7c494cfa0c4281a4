use Rattle.xn_ring.proofs.Orbits.{IsLeastOf-walk, least-by_test}
use Rattle.xn_ring.proofs.laws.least.Goals as goal

pub returns-clause-least : goal.returns-clause-least
returns-clause-least c = least-by_test

pub returns-clause-one : goal.returns-clause-one
returns-clause-one c = IsLeastOf-walk
