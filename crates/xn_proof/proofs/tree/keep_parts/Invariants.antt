use Rattle.std.proofs.Common.{◌≡◌, ◌++◌, length}
use Rattle.xn_proof.specs.Ranges.{parts_of}
use Rattle.xn_proof.proofs.tree.keep_parts.Given as goal

-- the parts so far and those of the values that are left are all
abbrev pub invariant-loop-row : goal.invariant-loop-row
invariant-loop-row l = l.parts.items ++ parts_of l.rest ≡ parts_of l.values

abbrev pub decreases-loop-row : goal.decreases-loop-row
decreases-loop-row l = length l.rest
