-- A new node on a segment.
use Rattle.std.specs.Prelude.{◌≡◌, ◌≢◌, ◌↔◌, ℕ, suc, ◌+◌, ◌*◌, ◌<◌, ◌==◌, List, length, if◌then◌else◌}
use Rattle.xn_model.specs.Graph.{ends_at}
use Rattle.xn_model.specs.Map.{MeetsEuler, IsMap, component_count, face_count}

-- the dart that stands where d stood before s was divided: at the second end of s it is the last dart
abbrev pub dart_now : ℕ → ℕ → ℕ → ℕ
dart_now s last d = if d == 2 * s + 1 then 2 * last + 1 else d

-- s leads from its first end to the new node, and the last segment from there to its second end, where it has the old place
pub record IsSubdivision (nodes : ℕ) (ends : List (ℕ × ℕ)) (next : ℕ → ℕ) (s : ℕ) (more : List (ℕ × ℕ)) (after : ℕ → ℕ) : Type 0 where
  pub is_there : s < length ends
  pub longer : length more ≡ suc (length ends)
  pub ends_kept : (i : ℕ) → i < length ends → i ≢ s → ends_at more i ≡ ends_at ends i
  pub first_part : ends_at more s ≡ ((ends_at ends s).0, nodes)
  pub last_part : ends_at more (length ends) ≡ (nodes, (ends_at ends s).1)
  pub turns : (d : ℕ) → d < 2 * length ends → after (dart_now s (length ends) d) ≡ dart_now s (length ends) (next d)
  pub turns_new : after (2 * s + 1) ≡ 2 * length ends
  pub turns_back : after (2 * length ends) ≡ 2 * s + 1

abbrev pub SubdivisionLeavesAMap : Type 0
SubdivisionLeavesAMap =
    (nodes s : ℕ) (ends more : List (ℕ × ℕ)) (next after : ℕ → ℕ) → IsMap nodes ends next → IsSubdivision nodes ends next s more after →
    IsMap (suc nodes) more after

-- as many faces and components
abbrev pub SubdivisionKeepsCounts : Type 0
SubdivisionKeepsCounts =
    (nodes s : ℕ) (ends more : List (ℕ × ℕ)) (next after : ℕ → ℕ) → IsMap nodes ends next → IsSubdivision nodes ends next s more after →
    (face_count (suc nodes) more after ≡ face_count nodes ends next) × (component_count (suc nodes) more ≡ component_count nodes ends)

-- flat exactly where the map was
abbrev pub SubdivisionKeepsFlat : Type 0
SubdivisionKeepsFlat =
    (nodes s : ℕ) (ends more : List (ℕ × ℕ)) (next after : ℕ → ℕ) → IsMap nodes ends next → IsSubdivision nodes ends next s more after →
    MeetsEuler nodes ends next ↔ MeetsEuler (suc nodes) more after
