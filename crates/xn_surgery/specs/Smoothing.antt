-- A node with two darts goes, and its two segments become one.
use Rattle.std.specs.Prelude.{◌≡◌, ◌↔◌, ℕ, suc, ◌*◌, ◌/◌, ◌<◌, ◌==◌, List, length, if◌then◌else◌}
use Rattle.xn_model.specs.Map.{MeetsEuler, IsMap, component_count, face_count, reverse_of, tail_of}
use Rattle.xn_genus.specs.Deletion.{dart_before}

-- the dart in whose place dart j stands: the last segment has the number of q's, and p has gone to the far end of q
abbrev pub dart_smoothed : ℕ → ℕ → ℕ → ℕ → ℕ
dart_smoothed p q last j = if dart_before (q / 2) last j == p then reverse_of q else dart_before (q / 2) last j

-- the node that has the number w once v is gone and the last node has its number
abbrev pub node_before : ℕ → ℕ → ℕ → ℕ
node_before v rest w = if w == v then rest else w

-- the node of p, of suc rest nodes, has this dart and q alone: the segment of p, of the smaller number, runs on to the far end of q's
pub record IsSmoothing (rest : ℕ) (ends : List (ℕ × ℕ)) (next : ℕ → ℕ) (p q : ℕ) (left : List (ℕ × ℕ)) (after : ℕ → ℕ) : Type 0 where
  pub first_in : p < 2 * length ends
  pub second_in : q < 2 * length ends
  pub to_second : next p ≡ q
  pub to_first : next q ≡ p
  pub smaller : p / 2 < q / 2
  pub fewer : length ends ≡ suc (length left)
  pub ends_in : (j : ℕ) → j < 2 * length left → tail_of left j < rest
  pub tails : (j : ℕ) → j < 2 * length left →
      node_before (tail_of ends p) rest (tail_of left j) ≡ tail_of ends (dart_smoothed p q (length left) j)
  pub below : (j : ℕ) → j < 2 * length left → after j < 2 * length left
  pub turns : (j : ℕ) → j < 2 * length left → dart_smoothed p q (length left) (after j) ≡ next (dart_smoothed p q (length left) j)

abbrev pub SmoothingLeavesAMap : Type 0
SmoothingLeavesAMap =
    (rest p q : ℕ) (ends left : List (ℕ × ℕ)) (next after : ℕ → ℕ) → IsMap (suc rest) ends next → IsSmoothing rest ends next p q left after →
    IsMap rest left after

-- as many faces and components
abbrev pub SmoothingKeepsCounts : Type 0
SmoothingKeepsCounts =
    (rest p q : ℕ) (ends left : List (ℕ × ℕ)) (next after : ℕ → ℕ) → IsMap (suc rest) ends next → IsSmoothing rest ends next p q left after →
    (face_count rest left after ≡ face_count (suc rest) ends next) × (component_count rest left ≡ component_count (suc rest) ends)

-- flat exactly where the map was
abbrev pub SmoothingKeepsFlat : Type 0
SmoothingKeepsFlat =
    (rest p q : ℕ) (ends left : List (ℕ × ℕ)) (next after : ℕ → ℕ) → IsMap (suc rest) ends next → IsSmoothing rest ends next p q left after →
    MeetsEuler (suc rest) ends next ↔ MeetsEuler rest left after
