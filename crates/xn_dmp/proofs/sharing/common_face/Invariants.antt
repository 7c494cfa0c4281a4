use Rattle.std.proofs.Common.{◌≡◌, ℕ, ◌<◌, length}
use Rattle.xn_model.specs.Lists.{at}
use Rattle.xn_model.specs.Map.{tail_of}
use Rattle.xn_model.specs.Permutation.{iterate}
use Rattle.xn_map.specs.Anchored.{IsDartOf}
use Rattle.xn_dmp.specs.Sharing.{HasCorners}
use Rattle.xn_dmp.proofs.sharing.common_face.Given as goal

abbrev pub invariant-loop : goal.invariant-loop
invariant-loop l = record {
  here : IsDartOf l.map.web.ends (tail_of l.map.web.ends l.first) l.d;
  walked : l.d ≡ iterate (at l.map.next) l.counter l.first;
  unmet : (j : ℕ) → j < l.counter → HasCorners l.map (iterate (at l.map.next) j l.first) l.nodes → ⊥;
}
