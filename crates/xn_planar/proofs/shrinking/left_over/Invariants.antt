use Rattle.xn_planar.specs.Leaving.{AreLeft}
use Rattle.xn_planar.proofs.shrinking.left_over.Given as goal

abbrev pub invariant-loop-front : goal.invariant-loop-front
invariant-loop-front l = AreLeft l.web l.front l.kept.items

abbrev pub decreases-loop-front : goal.decreases-loop-front
decreases-loop-front l = l.front
