-- Laws on the genus of maps.
use Rattle.std.specs.Prelude.{◌≡◌, ℕ, Bool, true, ◌+◌, ◌*◌, ◌/◌, ◌<◌, ◌≤◌, List, length}
use Rattle.xn_model.specs.Graph.{Graph}
use Rattle.xn_model.specs.Map.{MeetsEuler, IsFlat, IsMap, component_count, face_count}
use Rattle.xn_ring.specs.Removals.{IsNextKept}
use Rattle.xn_genus.specs.Live.{IsFlatOn, IsMapOn, passing_over}
use Rattle.xn_genus.specs.Part.{AreDartsApart, AreSegmentsApart, IsPart, PassesOver, dart_along, dart_listed, ends_along, ends_listed}

-- V - E + F is at most 2C for every map, by addition
abbrev pub GenusIsNotNegative : Type 0
GenusIsNotNegative =
    (nodes : ℕ) (ends : List (ℕ × ℕ)) (next : ℕ → ℕ) → IsMap nodes ends next →
    nodes + face_count nodes ends next ≤ 2 * component_count nodes ends + length ends

-- ---- restriction

-- a flat map is flat on any of its segments, in its own numbers, with the darts of the others passed over
abbrev pub FlatOnAnySegments : Type 0
FlatOnAnySegments =
    (web : Graph) (next : ℕ → ℕ) → IsFlat web next → (keep : ℕ → Bool) →
    let after : ℕ → ℕ = passing_over keep (length web.ends) next in
    IsMapOn web.ends keep after × IsFlatOn web.nodes web.ends keep after
    × ((d : ℕ) → d < 2 * length web.ends → keep (d / 2) ≡ true → IsNextKept next (λ x. keep (x / 2)) d (after d))

-- each part of a map has a rotation that passes over all other darts
abbrev pub PartsHaveRotations : Type 0
PartsHaveRotations =
    (nodes : ℕ) (ends part : List (ℕ × ℕ)) (e next : ℕ → ℕ) → IsMap nodes ends next → IsPart ends part e →
    (after : ℕ → ℕ) × PassesOver (2 * length part) e next after

-- a part of a map is a map, where the rotation passes over all other darts
abbrev pub PartsAreMaps : Type 0
PartsAreMaps =
    (nodes : ℕ) (ends part : List (ℕ × ℕ)) (e next after : ℕ → ℕ) → IsMap nodes ends next → IsPart ends part e →
    PassesOver (2 * length part) e next after → IsMap nodes part after

-- a part of a flat map is a flat map
abbrev pub PartsStayFlat : Type 0
PartsStayFlat =
    (nodes : ℕ) (ends part : List (ℕ × ℕ)) (e next after : ℕ → ℕ) → IsMap nodes ends next → IsPart ends part e →
    PassesOver (2 * length part) e next after → MeetsEuler nodes ends next → MeetsEuler nodes part after

-- listed darts of different segments make a part, and so do listed segments
abbrev pub ListedDartsAreAPart : Type 0
ListedDartsAreAPart =
    (ends : List (ℕ × ℕ)) (darts : List ℕ) → AreDartsApart ends darts → IsPart ends (ends_along ends darts) (dart_along darts)

abbrev pub ListedSegmentsAreAPart : Type 0
ListedSegmentsAreAPart =
    (ends : List (ℕ × ℕ)) (segments : List ℕ) → AreSegmentsApart ends segments → IsPart ends (ends_listed ends segments) (dart_listed segments)
