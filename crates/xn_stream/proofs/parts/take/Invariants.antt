use Rattle.std.proofs.Common.{length}
use Rattle.xn_stream.proofs.Taking.{IsTaken}
use Rattle.xn_stream.proofs.parts.take.Given as goal

-- what the parts so far have come to
abbrev pub invariant-loop-part : goal.invariant-loop-part
invariant-loop-part l = IsTaken l.fn.judge l.fn.begun.items l.fn.piece l.judge l.begun.items l.parts.1

abbrev pub decreases-loop-part : goal.decreases-loop-part
decreases-loop-part l = length l.parts.1
