use Rattle.std.proofs.Common.{◌≡◌, drop}
use Rattle.xn_model.specs.Insertion.{is_old}
use Rattle.xn_brute.proofs.insertions.is_old.Given as goal

abbrev pub invariant-loop-s : goal.invariant-loop-s
invariant-loop-s l = is_old l.web.ends (drop l.s-index l.done) l.v ≡ is_old l.web.ends l.done l.v
