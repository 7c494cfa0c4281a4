use Rattle.xn_lp.proofs.Duality.{ray_excludes}
use Rattle.xn_lp.proofs.laws.ray_excludes_points.Goals as goal

pub returns : goal.returns
returns c = ray_excludes
