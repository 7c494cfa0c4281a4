use Rattle.std.proofs.Common.{length}
use Rattle.xn_proof.specs.Ranges.{parts_of, parts_at}
use Rattle.xn_proof.proofs.Tested.{Leads}
use Rattle.xn_proof.proofs.tree.all_parts.Given as goal

-- what is read of the values that are left is read of all
abbrev pub invariant-loop-row : goal.invariant-loop-row
invariant-loop-row l = Leads (parts_at l.rows l.number) parts_of l.rest l.values

abbrev pub decreases-loop-row : goal.decreases-loop-row
decreases-loop-row l = length l.rest
