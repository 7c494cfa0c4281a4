use Rattle.std.proofs.Common.{◌≡◌, ◌+◌, ◌*◌, length, take}
use Rattle.xn_model.specs.Lists.{total}
use Rattle.xn_draw.proofs.lengths.is_turns.Given as goal

-- the turns of the lists so far were taken away
abbrev pub invariant-loop-i : goal.invariant-loop-i
invariant-loop-i l = l.left + 2 * (l.i + total length (take l.i l.orders)) ≡ l.turns
