use Rattle.std.proofs.Common.{◌≡◌, drop}
use Rattle.xn_brute.specs.Known.{decided_in}
use Rattle.xn_brute.proofs.known.decided_in.Given as goal

abbrev pub invariant-loop-p : goal.invariant-loop-p
invariant-loop-p l = decided_in (drop l.p-index l.decided) l.e l.f ≡ decided_in l.decided l.e l.f
