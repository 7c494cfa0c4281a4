use Rattle.std.proofs.Common.{◌≡◌, ℕ, ◌<◌, length}
use Rattle.xn_model.specs.Lists.{at}
use Rattle.xn_model.specs.Map.{face_step}
use Rattle.xn_model.specs.Permutation.{iterate}
use Rattle.xn_brute.proofs.insertions.in_one_face.Given as goal

abbrev pub invariant-loop : goal.invariant-loop
invariant-loop l = record {
  within : l.dart < length l.next;
  walked : l.dart ≡ iterate (face_step (at l.next)) l.counter l.d;
  unmet : (j : ℕ) → j < l.counter → iterate (face_step (at l.next)) j l.d ≡ l.e → ⊥;
}
