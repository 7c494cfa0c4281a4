-- What the labels of components say of walks.
use Rattle.std.specs.Prelude.{◌≡◌, ℕ, ◌<◌, ◌↔◌, List}
use Rattle.xn_model.specs.Graph.{EndsIn}
use Rattle.xn_model.specs.Lists.{at}
use Rattle.xn_model.specs.Map.{IsComponentCount, Joined, component_count, component_labels}

-- two nodes have one label exactly where a walk of segments joins them
abbrev pub LabelsAreByWalks : Type 0
LabelsAreByWalks =
    (nodes : ℕ) (ends : List (ℕ × ℕ)) → EndsIn nodes ends → (u v : ℕ) → u < nodes → v < nodes →
    (at (component_labels nodes ends) u ≡ at (component_labels nodes ends) v) ↔ Joined ends u v

-- the count by labels is the count by walks
abbrev pub ComponentsAreByWalks : Type 0
ComponentsAreByWalks =
    (nodes : ℕ) (ends : List (ℕ × ℕ)) → EndsIn nodes ends → IsComponentCount nodes ends (component_count nodes ends)
