-- The evidence that uses a whole web, and how it is proposed.
use Rattle.std.specs.Prelude.{◌≡◌, ℕ, ◌+◌, ◌<◌, true, List, [], Option, None, Some, length, nat_eq}
use Rattle.std.specs.List.{IsDistinct, concat}
use Rattle.xn_model.specs.Graph.{Graph}
use Rattle.xn_model.specs.Lists.{at, has}
use Rattle.xn_kinds.specs.Row.{EvidenceHolds}
use Rattle.xn_kinds.specs.declared.rows.Evidence.{Evidence}
use Rattle.xn_kinds.specs.declared.rows.Evidence.TheVariants.{Five, ThreeThree, Extension}
use Rattle.xn_kura.specs.Flaws.{HasAKind, begins_at, goes_to, path_at}
use Rattle.xn_kura.specs.Straight.{IsStraightBetween}
use Rattle.xn_model.specs.Loose.{dart_count}

-- the paths of an evidence of either kind
abbrev pub paths_of : Evidence → List (List ℕ)
paths_of (Five branch paths) = paths
paths_of (ThreeThree branch paths) = paths
paths_of (Extension list) = []

-- each segment of the web is in one of the paths
abbrev pub UsesAll : Graph → List (List ℕ) → Type 0
UsesAll web paths = (s : ℕ) → s < length web.ends → has (concat paths) s ≡ true

-- the evidence is of one of the two kinds, holds, and uses each segment of the web
pub record IsWhole (web : Graph) (evidence : Evidence) : Type 0 where
  pub kind : HasAKind evidence
  pub holds : EvidenceHolds web evidence
  pub all : UsesAll web (paths_of evidence)

-- what is found is such an evidence; with nothing found, there is none
abbrev pub IsFoundIn : Graph → Option Evidence → Type 0
IsFoundIn web None = (evidence : Evidence) → ¬ IsWhole web evidence
IsFoundIn web (Some evidence) = IsWhole web evidence

-- the same, of one kind
abbrev pub IsFoundFive : Graph → Option Evidence → Type 0
IsFoundFive web None = (branch : List ℕ) (paths : List (List ℕ)) → ¬ IsWhole web (Five branch paths)
IsFoundFive web (Some evidence) = IsWhole web evidence

abbrev pub IsFoundThree : Graph → Option Evidence → Type 0
IsFoundThree web None = (branch : List ℕ) (paths : List (List ℕ)) → ¬ IsWhole web (ThreeThree branch paths)
IsFoundThree web (Some evidence) = IsWhole web evidence

-- the same, of one evidence
abbrev pub IsJudged : Graph → Evidence → Option Evidence → Type 0
IsJudged web evidence None = ¬ IsWhole web evidence
IsJudged web evidence (Some accepted) = IsWhole web accepted

-- ---- what is proposed

-- these are, once each, the nodes below n with this many darts
pub record AreNodesWith (ends : List (ℕ × ℕ)) (n count : ℕ) (nodes : List ℕ) : Type 0 where
  pub once : IsDistinct nat_eq nodes
  pub are : (v : ℕ) → has nodes v ≡ true → (v < n) × (dart_count ends v ≡ count)
  pub all : (v : ℕ) → v < n → dart_count ends v ≡ count → has nodes v ≡ true

-- the nodes are parted by whether a straight path leads to them from u
pub record ArePartedBy (ends : List (ℕ × ℕ)) (u : ℕ) (nodes near far : List ℕ) : Type 0 where
  pub near_once : IsDistinct nat_eq near
  pub far_once : IsDistinct nat_eq far
  pub near_are : (v : ℕ) → has near v ≡ true → (has nodes v ≡ true) × IsStraightBetween ends u v None
  pub far_are : (v : ℕ) → has far v ≡ true → (has nodes v ≡ true) × ((path : List ℕ) × IsStraightBetween ends u v (Some path))
  pub as_many : length near + length far ≡ length nodes

-- they are parted by the first of them
abbrev pub AreSides : List (ℕ × ℕ) → List ℕ → List ℕ → List ℕ → Type 0
AreSides ends nodes near far = ArePartedBy ends (at nodes 0) nodes near far

-- a straight path for each pair of nodes; with none, some pair has no such path
abbrev pub ArePathsFor : List (ℕ × ℕ) → List (ℕ × ℕ) → List ℕ → Option (List (List ℕ)) → Type 0
ArePathsFor ends pairs nodes None =
    (q : ℕ) × (q < length pairs) × IsStraightBetween ends (begins_at pairs nodes q) (goes_to pairs nodes q) None
ArePathsFor ends pairs nodes (Some paths) =
    (length paths ≡ length pairs)
    × ((q : ℕ) → q < length pairs → IsStraightBetween ends (begins_at pairs nodes q) (goes_to pairs nodes q) (Some (path_at paths q)))
