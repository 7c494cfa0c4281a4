use Rattle.std.proofs.Common.{◌<◌, ℕ, length}
use Rattle.xn_model.specs.Lists.{at}
use Rattle.xn_insert.specs.Routed.{AreClosed}
use Rattle.xn_insert.proofs.faces.name_faces.Given as goal

-- the faces of the darts so far have names
abbrev pub invariant-loop-d : goal.invariant-loop-d
invariant-loop-d l = record {
  closed : AreClosed l.map l.names;
  named : (x : ℕ) → x < l.d → at l.names x < length l.map.next;
}
