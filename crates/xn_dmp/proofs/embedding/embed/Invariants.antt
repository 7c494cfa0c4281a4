use Rattle.std.proofs.Common.{◌+◌, ◌-◌, length}
use Rattle.xn_dmp.proofs.Turning.{EmbedsTo}
use Rattle.xn_dmp.proofs.embedding.embed.Given as goal

abbrev pub invariant-loop-i : goal.invariant-loop-i
invariant-loop-i l = EmbedsTo l.web l.list l.growth l.i

abbrev pub decreases-loop-i : goal.decreases-loop-i
decreases-loop-i l = (length l.list - l.i) + (length l.growth.web.ends - length l.growth.placed)
