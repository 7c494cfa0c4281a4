-- Nodes with one label are joined.
use Rattle.std.proofs.Common.{◌≡◌, ℕ, ◌<◌, Bool, List, Result, Ok, Err}
use Rattle.std.specs.Prelude.{◌↔◌, IfOk, IsTrue}
use Rattle.std.specs.declared.alloc.AllocError.{AllocError}
use Rattle.xn_model.specs.Graph.{EndsIn}
use Rattle.xn_model.specs.Lists.{at}
use Rattle.xn_model.specs.Map.{Joined, component_labels}
use Rattle.xn_model.proofs.ComponentWalks.{joined_from_label, label_from_joined}

pub joined_by_labels : (nodes : ℕ) (ends : List (ℕ × ℕ)) (u v : ℕ) → EndsIn nodes ends → u < nodes → v < nodes → (r : Result Bool AllocError) →
    IfOk r (λ one. IsTrue one ↔ (at (component_labels nodes ends) u ≡ at (component_labels nodes ends) v)) → IfOk r (λ joined. IsTrue joined ↔ Joined ends u v)
joined_by_labels nodes ends u v ends_in u_in v_in (Ok one) by_labels = (
  λ t. joined_from_label nodes ends ends_in u v u_in v_in (by_labels.0 t),
  λ there. by_labels.1 (label_from_joined nodes ends ends_in u v there),
)
joined_by_labels nodes ends u v ends_in u_in v_in (Err e) by_labels = by_labels
