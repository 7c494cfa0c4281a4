-- What evidence shows.
use Rattle.std.specs.Prelude.{◌≡◌, ℕ, ◌<◌, ◌⊎◌, true, List, length, nat_eq, reverse}
use Rattle.std.specs.List.{IsDistinct}
use Rattle.xn_model.specs.Drawing.{IsSimpleDrawing, IsSimplyAtLeast}
use Rattle.xn_model.specs.Evidence.{IsPathSystem}
use Rattle.xn_model.specs.Examples.{k33, k5}
use Rattle.xn_model.specs.Graph.{Graph}
use Rattle.xn_model.specs.Lists.{has}
use Rattle.xn_model.specs.Map.{IsFlat}
use Rattle.xn_model.specs.Orders.{crossing_count}
use Rattle.xn_kinds.specs.Row.{EvidenceHolds}
use Rattle.xn_kinds.specs.declared.rows.Evidence.{Evidence}
use Rattle.xn_kinds.specs.declared.rows.Evidence.TheVariants.{Five, ThreeThree}
use Rattle.xn_kura.specs.Flaws.{HasAKind, begins_at, goes_to, path_at}

-- a web in which five nodes are joined by paths, each two, has no flat map
abbrev pub FiveExcludesFlat : Type 0
FiveExcludesFlat =
    (web : Graph) (branch : List ℕ) (paths : List (List ℕ)) → EvidenceHolds web (Five branch paths) →
    (next : ℕ → ℕ) → ¬ IsFlat web next

-- nor has one in which three nodes are each joined to three others
abbrev pub ThreeThreeExcludesFlat : Type 0
ThreeThreeExcludesFlat =
    (web : Graph) (branch : List ℕ) (paths : List (List ℕ)) → EvidenceHolds web (ThreeThree branch paths) →
    (next : ℕ → ℕ) → ¬ IsFlat web next

-- so no web for which an evidence of either kind holds has one
abbrev pub EvidenceExcludesFlat : Type 0
EvidenceExcludesFlat =
    (web : Graph) (evidence : Evidence) → HasAKind evidence → EvidenceHolds web evidence → (next : ℕ → ℕ) → ¬ IsFlat web next

-- a simple drawing without crossings is a flat map of the graph itself
abbrev pub CrossingFreeIsFlat : Type 0
CrossingFreeIsFlat =
    (g : Graph) (ord : ℕ → List ℕ) (next : ℕ → ℕ) → IsSimpleDrawing g ord next → crossing_count g ord ≡ 0 → IsFlat g next

-- so an evidence of either kind for the graph shows that each simple drawing has a crossing
abbrev pub EvidenceOfCrossings : Type 0
EvidenceOfCrossings =
    (g : Graph) (branch : List ℕ) (paths : List (List ℕ)) →
    EvidenceHolds g (Five branch paths) ⊎ EvidenceHolds g (ThreeThree branch paths) → IsSimplyAtLeast g 1

-- neither K5 nor K3,3 has a flat map, and every simple drawing of theirs has a crossing
pub record KuratowskiGraphs : Type 0 where
  pub k5_not_flat : (next : ℕ → ℕ) → ¬ IsFlat k5 next
  pub k33_not_flat : (next : ℕ → ℕ) → ¬ IsFlat k33 next
  pub k5_crosses : IsSimplyAtLeast k5 1
  pub k33_crosses : IsSimplyAtLeast k33 1

-- a path of u to v, or that path turned round
abbrev pub IsPathOrTurned : ℕ → List ℕ → ℕ → ℕ → List ℕ → ℕ → Type 0
IsPathOrTurned u path v x turn y = ((x ≡ u) × (y ≡ v) × (turn ≡ path)) ⊎ ((x ≡ v) × (y ≡ u) × (turn ≡ reverse path))

-- the chosen pairs of some of the branch nodes have some of the paths, in any order, each perhaps turned round
pub record AreSomePaths (pairs : List (ℕ × ℕ)) (branch : List ℕ) (paths : List (List ℕ))
    (chosen : List (ℕ × ℕ)) (nodes : List ℕ) (turns : List (List ℕ)) (from : ℕ → ℕ) : Type 0 where
  pub as_many : length turns ≡ length chosen
  pub below : (q : ℕ) → q < length chosen → from q < length pairs
  pub apart : (q r : ℕ) → q < length chosen → r < length chosen → from q ≡ from r → q ≡ r
  pub same : (q : ℕ) → q < length chosen →
      IsPathOrTurned (begins_at pairs branch (from q)) (path_at paths (from q)) (goes_to pairs branch (from q))
      (begins_at chosen nodes q) (path_at turns q) (goes_to chosen nodes q)
  pub nodes_once : IsDistinct nat_eq nodes
  pub among : (v : ℕ) → has nodes v ≡ true → has branch v ≡ true

-- they are a subdivision too
abbrev pub SomePathsAreApart : Type 0
SomePathsAreApart =
    (web : Graph) (pairs chosen : List (ℕ × ℕ)) (branch nodes : List ℕ) (paths turns : List (List ℕ)) (from : ℕ → ℕ) →
    IsPathSystem web pairs branch paths → AreSomePaths pairs branch paths chosen nodes turns from → IsPathSystem web chosen nodes turns
