-- Chains of segments become one segment each.
use Rattle.std.specs.Prelude.{◌≡◌, ◌≢◌, ◌↔◌, ℕ, suc, ◌+◌, ◌*◌, ◌<◌, ◌≤◌, true, List, length}
use Rattle.xn_model.specs.Graph.{EndsIn}
use Rattle.xn_model.specs.Map.{MeetsEuler, IsMap, component_count, face_count, face_step, is_lone, reverse_of, tail_of}
use Rattle.xn_model.specs.Permutation.{iterate}

-- the dart i steps on along the face from where the chain of dart j starts
abbrev pub along_chain : (ℕ → ℕ) → (ℕ → ℕ) → ℕ → ℕ → ℕ
along_chain next start j i = iterate (face_step next) i (start j)

-- dart j of the contracted web stands for the chain of steps j + 1 darts from start j on, and its node w is the node called node w
pub record IsContraction (nodes : ℕ) (ends : List (ℕ × ℕ)) (next : ℕ → ℕ) (left_nodes : ℕ)
    (left : List (ℕ × ℕ)) (after start steps node : ℕ → ℕ) : Type 0 where
  pub ends_in : EndsIn left_nodes left
  pub starts_in : (j : ℕ) → j < 2 * length left → start j < 2 * length ends
  pub below : (j : ℕ) → j < 2 * length left → after j < 2 * length left
  pub turns : (j : ℕ) → j < 2 * length left → start (after j) ≡ next (start j)
  pub arrives : (j : ℕ) → j < 2 * length left → along_chain next start j (steps j) ≡ reverse_of (start (reverse_of j))
  pub covers : (d : ℕ) → d < 2 * length ends → (j : ℕ) × (j < 2 * length left) × (i : ℕ) × (i ≤ steps j) × (along_chain next start j i ≡ d)
  pub apart : (i j l : ℕ) → i < 2 * length left → j < 2 * length left → l ≤ steps j → along_chain next start j l ≡ start i → (i ≡ j) × (l ≡ 0)
  pub two_darts : (j i : ℕ) → j < 2 * length left → i < steps j →
      next (next (reverse_of (along_chain next start j i))) ≡ reverse_of (along_chain next start j i)
  pub nodes_in : (w : ℕ) → w < left_nodes → node w < nodes
  pub nodes_apart : (u v : ℕ) → u < left_nodes → v < left_nodes → node u ≡ node v → u ≡ v
  pub tails : (j : ℕ) → j < 2 * length left → tail_of ends (start j) ≡ node (tail_of left j)
  pub inner : (j i w : ℕ) → j < 2 * length left → i < steps j → w < left_nodes → tail_of ends (along_chain next start j (suc i)) ≢ node w
  pub lone : (w : ℕ) → w < nodes → is_lone ends w ≡ true → (v : ℕ) × (v < left_nodes) × (node v ≡ w)
  pub as_many : left_nodes + length ends ≡ nodes + length left

-- what is left is a map
abbrev pub ContractionLeavesAMap : Type 0
ContractionLeavesAMap =
    (nodes left_nodes : ℕ) (ends left : List (ℕ × ℕ)) (next after start steps node : ℕ → ℕ) → IsMap nodes ends next →
    IsContraction nodes ends next left_nodes left after start steps node → IsMap left_nodes left after

-- with as many faces and components
abbrev pub ContractionKeepsCounts : Type 0
ContractionKeepsCounts =
    (nodes left_nodes : ℕ) (ends left : List (ℕ × ℕ)) (next after start steps node : ℕ → ℕ) → IsMap nodes ends next →
    IsContraction nodes ends next left_nodes left after start steps node →
    (face_count left_nodes left after ≡ face_count nodes ends next) × (component_count left_nodes left ≡ component_count nodes ends)

-- it is flat exactly where the map was
abbrev pub ContractionKeepsFlat : Type 0
ContractionKeepsFlat =
    (nodes left_nodes : ℕ) (ends left : List (ℕ × ℕ)) (next after start steps node : ℕ → ℕ) → IsMap nodes ends next →
    IsContraction nodes ends next left_nodes left after start steps node → MeetsEuler nodes ends next ↔ MeetsEuler left_nodes left after
