use Rattle.std.proofs.Common.{◌≡◌, ℕ, ◌<◌, length}
use Rattle.xn_model.specs.Lists.{at}
use Rattle.xn_model.specs.Map.{face_step}
use Rattle.xn_model.specs.Permutation.{Reaches, iterate}
use Rattle.xn_map.specs.Anchored.{IsDartOf}
use Rattle.xn_dmp.proofs.sharing.corner_in.Given as goal

abbrev pub invariant-loop : goal.invariant-loop
invariant-loop l = record {
  here : IsDartOf l.map.web.ends l.v l.e;
  walked : l.e ≡ iterate (at l.map.next) l.counter l.first;
  unmet : (j : ℕ) → j < l.counter → Reaches (face_step (at l.map.next)) (at l.map.next l.d) (at l.map.next (iterate (at l.map.next) j l.first)) → ⊥;
}
