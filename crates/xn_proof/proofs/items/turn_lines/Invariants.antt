use Rattle.std.proofs.Common.{◌≡◌, ◌-◌}
use Rattle.xn_proof.specs.Fronts.{turn_at}
use Rattle.xn_proof.specs.Reading.{many_at}
use Rattle.xn_proof.proofs.Loop.{with_items}
use Rattle.xn_proof.proofs.items.turn_lines.Given as goal

-- the turns so far and those of the lines that are left are all of them
abbrev pub invariant-loop-segment : goal.invariant-loop-segment
invariant-loop-segment l = with_items l.turns.items (many_at turn_at l.segment (l.count - l.segment) l.reader) ≡ many_at turn_at 0 l.count l.fn.reader
