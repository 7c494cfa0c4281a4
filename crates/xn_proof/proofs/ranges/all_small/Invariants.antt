use Rattle.std.proofs.Common.{◌-◌, ◌^◌, length, map}
use Rattle.xn_proof.specs.Ranges.{at_most, small_of}
use Rattle.xn_proof.specs.Reading.{each_at}
use Rattle.xn_proof.proofs.Tested.{Leads}
use Rattle.xn_proof.proofs.ranges.all_small.Given as goal

-- what is read of the values that are left is read of all
abbrev pub invariant-loop-value : goal.invariant-loop-value
invariant-loop-value l = Leads (each_at (at_most l.number (2 ^ 32 - 1))) (map small_of) l.rest l.values

abbrev pub decreases-loop-value : goal.decreases-loop-value
decreases-loop-value l = length l.rest
