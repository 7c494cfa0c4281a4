use Rattle.std.proofs.Common.{ℕ, ◌<◌}
use Rattle.xn_model.specs.Lists.{at}
use Rattle.xn_dmp.specs.Sharing.{HasCornerAt}
use Rattle.xn_dmp.proofs.sharing.has_corners.Given as goal

abbrev pub invariant-loop-v : goal.invariant-loop-v
invariant-loop-v l = (i : ℕ) → i < l.v-index → HasCornerAt l.map l.d (at l.nodes i)
