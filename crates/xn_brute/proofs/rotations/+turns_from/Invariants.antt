use Rattle.std.proofs.Common.{ℕ, ◌*◌, ◌-◌, ◌<◌, length}
use Rattle.xn_brute.proofs.Tries.{LeadsTo}
use Rattle.xn_brute.proofs.rotations.+turns_from.Given as goal

abbrev pub decreases-turns_from : goal.decreases-turns_from
decreases-turns_from l = 2 * length l.trial.now.ends.now - length l.turns.now

-- the next turn leads to no dart before this one
abbrev pub invariant-loop-d : goal.invariant-loop-d
invariant-loop-d l = (d : ℕ) → d < l.d → LeadsTo l.trial.graph.now l.trial.orders.now l.turns d → ⊥
