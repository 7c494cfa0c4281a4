use Rattle.std.proofs.Common.{◌≡◌, length}
use Rattle.xn_gml.specs.Lists.{first_of}
use Rattle.xn_gml.proofs.lists.first_of.Given as goal

abbrev pub invariant-loop-pair : goal.invariant-loop-pair
invariant-loop-pair l = first_of l.key l.tokens ≡ first_of l.key l.list

abbrev pub decreases-loop-pair : goal.decreases-loop-pair
decreases-loop-pair l = length l.tokens
