use Rattle.std.proofs.Common.{◌≡◌, ◌++◌, length, map}
use Rattle.xn_proof.specs.Ranges.{small_of}
use Rattle.xn_proof.proofs.ranges.keep_small.Given as goal

-- those so far and those of the values that are left are all
abbrev pub invariant-loop-value : goal.invariant-loop-value
invariant-loop-value l = l.list.items ++ map small_of l.rest ≡ map small_of l.values

abbrev pub decreases-loop-value : goal.decreases-loop-value
decreases-loop-value l = length l.rest
