use Rattle.std.proofs.Common.{ℕ, length}
use Rattle.xn_insert.specs.Search.{unmet}
use Rattle.xn_insert.proofs.FaceWalks.{IsNamed}
use Rattle.xn_insert.proofs.faces.name_face.Given as goal

abbrev pub invariant-loop-names : goal.invariant-loop-names
invariant-loop-names l = (k : ℕ) × IsNamed l.map l.d l.initial.names k l.e l.names

abbrev pub decreases-loop-names : goal.decreases-loop-names
decreases-loop-names l = unmet (length l.map.next) l.names
