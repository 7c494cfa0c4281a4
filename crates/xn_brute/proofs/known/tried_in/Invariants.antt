use Rattle.std.proofs.Common.{◌≡◌, drop}
use Rattle.xn_brute.specs.Known.{tried_in}
use Rattle.xn_brute.proofs.known.tried_in.Given as goal

abbrev pub invariant-loop-p : goal.invariant-loop-p
invariant-loop-p l = tried_in (drop l.p-index l.tried) l.x ≡ tried_in l.tried l.x
