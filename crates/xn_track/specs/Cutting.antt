-- Runs of segments of a map, each from one number to another, become one segment each.
use Rattle.std.specs.Prelude.{◌≡◌, ◌≢◌, ℕ, suc, ◌+◌, ◌*◌, ◌/◌, ◌%◌, ◌<◌, ◌≤◌, ◌==◌, true, List, length, if◌then◌else◌}
use Rattle.xn_model.specs.Graph.{EndsIn}
use Rattle.xn_model.specs.Map.{MeetsEuler, IsMap, is_lone, tail_of}

-- segment j of what is left stands for the segments first j to last j, which follow each other over nodes with two darts, and
-- its node w is the node called node w
pub record IsCutting (nodes : ℕ) (ends : List (ℕ × ℕ)) (next : ℕ → ℕ) (left_nodes : ℕ) (left : List (ℕ × ℕ)) (first last node : ℕ → ℕ) : Type 0 where
  pub ends_in : EndsIn left_nodes left
  pub rise : (j : ℕ) → j < length left → first j ≤ last j
  pub below : (j : ℕ) → j < length left → last j < length ends
  pub covers : (s : ℕ) → s < length ends → (j : ℕ) × (j < length left) × (first j ≤ s) × (s ≤ last j)
  pub apart : (i j s : ℕ) → i < length left → j < length left → first i ≤ s → s ≤ last i → first j ≤ s → s ≤ last j → i ≡ j
  pub inside : (j s : ℕ) → j < length left → first j ≤ s → s < last j → (next (2 * s + 1) ≡ 2 * suc s) × (next (2 * suc s) ≡ 2 * s + 1)
  pub nodes_in : (w : ℕ) → w < left_nodes → node w < nodes
  pub nodes_apart : (u v : ℕ) → u < left_nodes → v < left_nodes → node u ≡ node v → u ≡ v
  pub starts : (j : ℕ) → j < length left → tail_of ends (2 * first j) ≡ node (tail_of left (2 * j))
  pub stops : (j : ℕ) → j < length left → tail_of ends (2 * last j + 1) ≡ node (tail_of left (2 * j + 1))
  pub inner : (j s w : ℕ) → j < length left → first j ≤ s → s < last j → w < left_nodes → tail_of ends (2 * s + 1) ≢ node w
  pub lone : (w : ℕ) → w < nodes → is_lone ends w ≡ true → (v : ℕ) × (v < left_nodes) × (node v ≡ w)

-- the dart at which a run starts: its first, or the reverse of its last
abbrev pub run_dart : (ℕ → ℕ) → (ℕ → ℕ) → ℕ → ℕ
run_dart first last x = if x % 2 == 0 then 2 * first (x / 2) else 2 * last (x / 2) + 1

-- after turns as next does where runs start
pub record TurnsAsRuns (next : ℕ → ℕ) (count : ℕ) (first last after : ℕ → ℕ) : Type 0 where
  pub below : (j : ℕ) → j < 2 * count → after j < 2 * count
  pub turns : (x : ℕ) → x < 2 * count → run_dart first last (after x) ≡ next (run_dart first last x)
  pub from : (x y : ℕ) → x < 2 * count → y < 2 * count → next (run_dart first last x) ≡ run_dart first last y → after x ≡ y

-- a flat map leaves a flat map
abbrev pub CuttingLeavesAMap : Type 0
CuttingLeavesAMap =
    (nodes left_nodes : ℕ) (ends left : List (ℕ × ℕ)) (next first last node : ℕ → ℕ) → IsMap nodes ends next → MeetsEuler nodes ends next →
    IsCutting nodes ends next left_nodes left first last node →
    (after : ℕ → ℕ) × IsMap left_nodes left after × MeetsEuler left_nodes left after × TurnsAsRuns next (length left) first last after
