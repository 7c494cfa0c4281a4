-- Trees given by the parent of each node.
use Rattle.std.specs.Prelude.{◌≡◌, ℕ, ◌<◌, ◌≤◌, ◌==◌, Bool, List, length}
use Rattle.xn_model.specs.Graph.{Graph}
use Rattle.xn_model.specs.Lists.{at}
use Rattle.xn_model.specs.Map.{component_labels, relabel}
use Rattle.xn_model.specs.Permutation.{iterate}

-- each parent is at most its child; a root is its own parent
abbrev pub IsForest : List ℕ → Type 0
IsForest parents = (v : ℕ) → v < length parents → at parents v ≤ v

-- the root to which the parents lead from v
abbrev pub root_of : List ℕ → ℕ → ℕ
root_of parents v = iterate (at parents) v v

-- the root of each node is the label of its component
pub record HoldsComponents (parents : List ℕ) (web : Graph) : Type 0 where
  pub forest : IsForest parents
  pub len : length parents ≡ web.nodes
  pub roots : (v : ℕ) → v < web.nodes → root_of parents v ≡ at (component_labels web.nodes web.ends) v

-- v is its own parent
abbrev pub is_root : List ℕ → ℕ → Bool
is_root parents = λ v. at parents v == v

-- each node keeps its root
abbrev pub KeepsRoots : List ℕ → List ℕ → Type 0
KeepsRoots old new = (w : ℕ) → w < length old → root_of new w ≡ root_of old w

-- the trees of u and v are one, under the lesser of their roots
abbrev pub JoinsTrees : List ℕ → List ℕ → ℕ → ℕ → Type 0
JoinsTrees old new u v =
    (w : ℕ) → w < length old → root_of new w ≡ relabel (root_of old u) (root_of old v) (root_of old w)

-- u and v have the label of one component
abbrev pub HaveOneLabel : Graph → ℕ → ℕ → Type 0
HaveOneLabel web u v = let labels = component_labels web.nodes web.ends in at labels u ≡ at labels v
