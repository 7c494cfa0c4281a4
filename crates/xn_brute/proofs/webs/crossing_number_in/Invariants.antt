use Rattle.std.proofs.Common.{◌≡◌, ◌+◌, drop}
use Rattle.xn_model.specs.Web.{crossing_number_in}
use Rattle.xn_brute.proofs.webs.crossing_number_in.Given as goal

abbrev pub invariant-loop-i : goal.invariant-loop-i
invariant-loop-i l = l.i + crossing_number_in (drop l.i l.pairs) l.e l.f ≡ crossing_number_in l.pairs l.e l.f
