use Rattle.xn_genus.proofs.Euler.{euler}
use Rattle.xn_genus.proofs.laws.euler_inequality.Goals as goal

pub returns : goal.returns
returns c = euler
