-- Segments and nodes under other numbers, segments turned, and nodes without darts.
use Rattle.std.specs.Prelude.{◌≡◌, ℕ, suc, ◌+◌, ◌*◌, ◌<◌, ◌≤◌, ◌==◌, true, List, length, if◌then◌else◌}
use Rattle.xn_model.specs.Map.{MeetsEuler, IsMap, component_count, face_count, is_lone, tail_of}
use Rattle.xn_model.specs.Permutation.{Permutes}
use Rattle.xn_genus.specs.Part.{IsPart}

-- all segments under other numbers, some perhaps turned: the dart j is the dart e j of before, and turns as it did
pub record IsRenumbering (ends renumbered : List (ℕ × ℕ)) (e next after : ℕ → ℕ) : Type 0 where
  pub segments : IsPart ends renumbered e
  pub all : length renumbered ≡ length ends
  pub below : (j : ℕ) → j < 2 * length renumbered → after j < 2 * length renumbered
  pub turns : (j : ℕ) → j < 2 * length renumbered → e (after j) ≡ next (e j)

abbrev pub RenumberingLeavesAMap : Type 0
RenumberingLeavesAMap =
    (nodes : ℕ) (ends renumbered : List (ℕ × ℕ)) (e next after : ℕ → ℕ) → IsMap nodes ends next → IsRenumbering ends renumbered e next after →
    IsMap nodes renumbered after

-- as many faces and components
abbrev pub RenumberingKeepsCounts : Type 0
RenumberingKeepsCounts =
    (nodes : ℕ) (ends renumbered : List (ℕ × ℕ)) (e next after : ℕ → ℕ) → IsMap nodes ends next → IsRenumbering ends renumbered e next after →
    (face_count nodes renumbered after ≡ face_count nodes ends next) × (component_count nodes renumbered ≡ component_count nodes ends)

abbrev pub RenumberingKeepsFlat : Type 0
RenumberingKeepsFlat =
    (nodes : ℕ) (ends renumbered : List (ℕ × ℕ)) (e next after : ℕ → ℕ) → IsMap nodes ends next → IsRenumbering ends renumbered e next after →
    MeetsEuler nodes ends next → MeetsEuler nodes renumbered after

-- ---- nodes

-- the node w has the number k w
pub record IsNodeRenumbering (nodes : ℕ) (ends renumbered : List (ℕ × ℕ)) (k : ℕ → ℕ) : Type 0 where
  pub numbers : Permutes nodes k
  pub all : length renumbered ≡ length ends
  pub tails : (d : ℕ) → d < 2 * length ends → tail_of renumbered d ≡ k (tail_of ends d)

abbrev pub NodeRenumberingLeavesAMap : Type 0
NodeRenumberingLeavesAMap =
    (nodes : ℕ) (ends renumbered : List (ℕ × ℕ)) (k next : ℕ → ℕ) → IsMap nodes ends next → IsNodeRenumbering nodes ends renumbered k →
    IsMap nodes renumbered next

abbrev pub NodeRenumberingKeepsCounts : Type 0
NodeRenumberingKeepsCounts =
    (nodes : ℕ) (ends renumbered : List (ℕ × ℕ)) (k next : ℕ → ℕ) → IsMap nodes ends next → IsNodeRenumbering nodes ends renumbered k →
    (face_count nodes renumbered next ≡ face_count nodes ends next) × (component_count nodes renumbered ≡ component_count nodes ends)

abbrev pub NodeRenumberingKeepsFlat : Type 0
NodeRenumberingKeepsFlat =
    (nodes : ℕ) (ends renumbered : List (ℕ × ℕ)) (k next : ℕ → ℕ) → IsMap nodes ends next → IsNodeRenumbering nodes ends renumbered k →
    MeetsEuler nodes ends next → MeetsEuler nodes renumbered next

-- a node without darts is one face and one component more
abbrev pub NodeComes : Type 0
NodeComes =
    (nodes : ℕ) (ends : List (ℕ × ℕ)) (next : ℕ → ℕ) → IsMap nodes ends next →
    IsMap (suc nodes) ends next × (face_count (suc nodes) ends next ≡ face_count nodes ends next + 1)
    × (component_count (suc nodes) ends ≡ component_count nodes ends + 1)

abbrev pub NodeComesFlat : Type 0
NodeComesFlat =
    (nodes : ℕ) (ends : List (ℕ × ℕ)) (next : ℕ → ℕ) → IsMap nodes ends next → MeetsEuler nodes ends next → MeetsEuler (suc nodes) ends next

-- v has no dart and goes; the last node, of the number rest, takes its number
pub record IsNodeRemoval (rest v : ℕ) (ends left : List (ℕ × ℕ)) : Type 0 where
  pub is_there : v ≤ rest
  pub lone : is_lone ends v ≡ true
  pub all : length left ≡ length ends
  pub tails : (d : ℕ) → d < 2 * length ends → tail_of left d ≡ (if tail_of ends d == rest then v else tail_of ends d)

abbrev pub NodeGoes : Type 0
NodeGoes =
    (rest v : ℕ) (ends left : List (ℕ × ℕ)) (next : ℕ → ℕ) → IsMap (suc rest) ends next → IsNodeRemoval rest v ends left →
    IsMap rest left next × (face_count (suc rest) ends next ≡ face_count rest left next + 1)
    × (component_count (suc rest) ends ≡ component_count rest left + 1)

abbrev pub NodeGoesFlat : Type 0
NodeGoesFlat =
    (rest v : ℕ) (ends left : List (ℕ × ℕ)) (next : ℕ → ℕ) → IsMap (suc rest) ends next → IsNodeRemoval rest v ends left →
    MeetsEuler (suc rest) ends next → MeetsEuler rest left next
