-- A segment comes into a map, from a corner to a corner.
use Rattle.std.specs.Prelude.{◌≡◌, ◌≢◌, ℕ, suc, ◌+◌, ◌*◌, ◌<◌, ◌⊎◌, List, [], ◌∷◌, ◌++◌, length}
use Rattle.xn_model.specs.Map.{MeetsEuler, IsMap, Joined, component_count, face_count}
use Rattle.xn_surgery.specs.Corners.{Corner, InOneFace, IsCornerOf, node_of, stand_at}

-- the last segment goes from the node of a to another, that of b, and its darts stand in these corners
pub record IsInsertion (nodes : ℕ) (ends : List (ℕ × ℕ)) (next : ℕ → ℕ) (a b : Corner) (more : List (ℕ × ℕ)) (after : ℕ → ℕ) : Type 0 where
  pub first : IsCornerOf nodes ends a
  pub second : IsCornerOf nodes ends b
  pub two_nodes : node_of ends a ≢ node_of ends b
  pub ends_more : more ≡ ends ++ (node_of ends a, node_of ends b) ∷ []
  pub turns : (d : ℕ) → d < 2 * suc (length ends) → after d ≡ stand_at a (2 * length ends) (stand_at b (2 * length ends + 1) next) d

abbrev pub InsertionLeavesAMap : Type 0
InsertionLeavesAMap =
    (nodes : ℕ) (ends more : List (ℕ × ℕ)) (a b : Corner) (next after : ℕ → ℕ) → IsMap nodes ends next → IsInsertion nodes ends next a b more after →
    IsMap nodes more after

-- within one face: one face more
abbrev pub InsertionSplitsAFace : Type 0
InsertionSplitsAFace =
    (nodes : ℕ) (ends more : List (ℕ × ℕ)) (a b : Corner) (next after : ℕ → ℕ) → IsMap nodes ends next → IsInsertion nodes ends next a b more after →
    InOneFace next a b → (face_count nodes more after ≡ face_count nodes ends next + 1) × Joined ends (node_of ends a) (node_of ends b)

-- between two faces: one face less
abbrev pub InsertionJoinsFaces : Type 0
InsertionJoinsFaces =
    (nodes : ℕ) (ends more : List (ℕ × ℕ)) (a b : Corner) (next after : ℕ → ℕ) → IsMap nodes ends next → IsInsertion nodes ends next a b more after →
    (InOneFace next a b → ⊥) → face_count nodes more after + 1 ≡ face_count nodes ends next

-- between joined nodes: as many components
abbrev pub InsertionKeepsComponents : Type 0
InsertionKeepsComponents =
    (nodes : ℕ) (ends more : List (ℕ × ℕ)) (a b : Corner) (next after : ℕ → ℕ) → IsMap nodes ends next → IsInsertion nodes ends next a b more after →
    Joined ends (node_of ends a) (node_of ends b) → component_count nodes more ≡ component_count nodes ends

-- between two components: one component less
abbrev pub InsertionJoinsComponents : Type 0
InsertionJoinsComponents =
    (nodes : ℕ) (ends more : List (ℕ × ℕ)) (a b : Corner) (next after : ℕ → ℕ) → IsMap nodes ends next → IsInsertion nodes ends next a b more after →
    (Joined ends (node_of ends a) (node_of ends b) → ⊥) → component_count nodes more + 1 ≡ component_count nodes ends

-- within one face or between two components a flat map stays flat
abbrev pub InsertionKeepsFlat : Type 0
InsertionKeepsFlat =
    (nodes : ℕ) (ends more : List (ℕ × ℕ)) (a b : Corner) (next after : ℕ → ℕ) → IsMap nodes ends next → IsInsertion nodes ends next a b more after →
    (InOneFace next a b ⊎ (Joined ends (node_of ends a) (node_of ends b) → ⊥)) → MeetsEuler nodes ends next → MeetsEuler nodes more after

-- and nowhere else
abbrev pub OtherInsertionsAreNotFlat : Type 0
OtherInsertionsAreNotFlat =
    (nodes : ℕ) (ends more : List (ℕ × ℕ)) (a b : Corner) (next after : ℕ → ℕ) → IsMap nodes ends next → IsInsertion nodes ends next a b more after →
    (InOneFace next a b → ⊥) → Joined ends (node_of ends a) (node_of ends b) → MeetsEuler nodes ends next → MeetsEuler nodes more after → ⊥
