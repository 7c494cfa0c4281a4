-- A segment goes out of a map.
use Rattle.std.specs.Prelude.{◌≡◌, ℕ, suc, ◌+◌, ◌*◌, ◌/◌, ◌%◌, ◌<◌, ◌==◌, List, length, if◌then◌else◌}
use Rattle.xn_model.specs.Graph.{ends_at}
use Rattle.xn_model.specs.Map.{MeetsEuler, IsMap, Joined, component_count, face_count, face_step}
use Rattle.xn_model.specs.Permutation.{Reaches}
use Rattle.xn_genus.specs.Live.{without_segment}

-- the number that dart d had before the last segment took the number s
abbrev pub dart_before : ℕ → ℕ → ℕ → ℕ
dart_before s last d = if d / 2 == s then 2 * last + d % 2 else d

-- the segment s is gone from its rings, and the last segment has its number
pub record IsDeletion (ends : List (ℕ × ℕ)) (next : ℕ → ℕ) (s : ℕ) (left : List (ℕ × ℕ)) (after : ℕ → ℕ) : Type 0 where
  pub is_there : s < length ends
  pub fewer : length ends ≡ suc (length left)
  pub ends_left : (i : ℕ) → i < length left → ends_at left i ≡ ends_at ends (if i == s then length left else i)
  pub below : (d : ℕ) → d < 2 * length left → after d < 2 * length left
  pub turns : (d : ℕ) → d < 2 * length left →
      dart_before s (length left) (after d) ≡ without_segment s next (dart_before s (length left) d)

-- what is left is a map
abbrev pub DeletionLeavesAMap : Type 0
DeletionLeavesAMap =
    (nodes s : ℕ) (ends left : List (ℕ × ℕ)) (next after : ℕ → ℕ) → IsMap nodes ends next → IsDeletion ends next s left after → IsMap nodes left after

-- the two sides of the segment are in one face: it becomes two
abbrev pub DeletionSplitsAFace : Type 0
DeletionSplitsAFace =
    (nodes s : ℕ) (ends left : List (ℕ × ℕ)) (next after : ℕ → ℕ) → IsMap nodes ends next → IsDeletion ends next s left after →
    Reaches (face_step next) (2 * s) (2 * s + 1) → face_count nodes left after ≡ face_count nodes ends next + 1

-- they are in two faces: these become one, and the segment was no bridge
abbrev pub DeletionJoinsFaces : Type 0
DeletionJoinsFaces =
    (nodes s : ℕ) (ends left : List (ℕ × ℕ)) (next after : ℕ → ℕ) → IsMap nodes ends next → IsDeletion ends next s left after →
    (Reaches (face_step next) (2 * s) (2 * s + 1) → ⊥) →
    (face_count nodes left after + 1 ≡ face_count nodes ends next) × Joined left (ends_at ends s).0 (ends_at ends s).1

-- the segment's ends stay joined: as many components
abbrev pub DeletionKeepsComponents : Type 0
DeletionKeepsComponents =
    (nodes s : ℕ) (ends left : List (ℕ × ℕ)) (next after : ℕ → ℕ) → IsMap nodes ends next → IsDeletion ends next s left after →
    Joined left (ends_at ends s).0 (ends_at ends s).1 → component_count nodes left ≡ component_count nodes ends

-- they don't: one component more
abbrev pub DeletionSplitsAComponent : Type 0
DeletionSplitsAComponent =
    (nodes s : ℕ) (ends left : List (ℕ × ℕ)) (next after : ℕ → ℕ) → IsMap nodes ends next → IsDeletion ends next s left after →
    (Joined left (ends_at ends s).0 (ends_at ends s).1 → ⊥) → component_count nodes left ≡ component_count nodes ends + 1

-- a flat map stays flat
abbrev pub DeletionKeepsFlat : Type 0
DeletionKeepsFlat =
    (nodes s : ℕ) (ends left : List (ℕ × ℕ)) (next after : ℕ → ℕ) → IsMap nodes ends next → IsDeletion ends next s left after →
    MeetsEuler nodes ends next → MeetsEuler nodes left after
