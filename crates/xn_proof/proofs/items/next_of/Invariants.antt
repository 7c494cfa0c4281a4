use Rattle.std.proofs.Common.{◌≡◌}
use Rattle.xn_proof.specs.Fronts.{next_of}
use Rattle.xn_proof.proofs.Turns.{listed_from}
use Rattle.xn_proof.proofs.items.next_of.Given as goal

-- what is listed and what the turns that are left give are all
abbrev pub invariant-loop-turn : goal.invariant-loop-turn
invariant-loop-turn l = listed_from l.next.items l.turns l.turn-index ≡ next_of l.turns
