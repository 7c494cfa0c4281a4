use Rattle.xn_general.proofs.Touch.{meshes_give_drawings}
use Rattle.xn_general.proofs.laws.touching.Goals as goal

pub returns : goal.returns
returns c = meshes_give_drawings
