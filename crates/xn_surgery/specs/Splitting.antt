-- A node is split: some darts that follow each other go to a new node.
use Rattle.std.specs.Prelude.{◌≡◌, ◌≢◌, ℕ, suc, ◌+◌, ◌*◌, ◌<◌, ◌≤◌, ◌==◌, List, length, if◌then◌else◌}
use Rattle.xn_model.specs.Map.{MeetsEuler, IsMap, Joined, component_count, face_count, face_step, tail_of}
use Rattle.xn_model.specs.Permutation.{Reaches, iterate}

-- d is one of a, next a and so on, up to the dart before b
abbrev pub InArc : (ℕ → ℕ) → ℕ → ℕ → ℕ → Type 0
InArc next a b d = (i : ℕ) × (iterate next i a ≡ d) × ((l : ℕ) → l ≤ i → iterate next l a ≢ b)

-- the darts from a up to the one before b are now those of the new node, of the number nodes, in their cyclic order
pub record IsSplit (nodes : ℕ) (ends : List (ℕ × ℕ)) (next : ℕ → ℕ) (a b : ℕ) (split : List (ℕ × ℕ)) (after : ℕ → ℕ) : Type 0 where
  pub first_in : a < 2 * length ends
  pub second_in : b < 2 * length ends
  pub differ : a ≢ b
  pub one_node : tail_of ends a ≡ tail_of ends b
  pub all : length split ≡ length ends
  pub moved : (d : ℕ) → d < 2 * length ends → InArc next a b d → tail_of split d ≡ nodes
  pub stayed : (d : ℕ) → d < 2 * length ends → (InArc next a b d → ⊥) → tail_of split d ≡ tail_of ends d
  pub turns : (d : ℕ) → d < 2 * length ends → after d ≡ (if next d == a then b else (if next d == b then a else next d))

abbrev pub SplitLeavesAMap : Type 0
SplitLeavesAMap =
    (nodes a b : ℕ) (ends split : List (ℕ × ℕ)) (next after : ℕ → ℕ) → IsMap nodes ends next → IsSplit nodes ends next a b split after →
    IsMap (suc nodes) split after

-- a and b in one face: it becomes two
abbrev pub SplitSplitsAFace : Type 0
SplitSplitsAFace =
    (nodes a b : ℕ) (ends split : List (ℕ × ℕ)) (next after : ℕ → ℕ) → IsMap nodes ends next → IsSplit nodes ends next a b split after →
    Reaches (face_step next) a b → face_count (suc nodes) split after ≡ face_count nodes ends next + 1

-- a and b in two faces: they become one
abbrev pub SplitJoinsFaces : Type 0
SplitJoinsFaces =
    (nodes a b : ℕ) (ends split : List (ℕ × ℕ)) (next after : ℕ → ℕ) → IsMap nodes ends next → IsSplit nodes ends next a b split after →
    (Reaches (face_step next) a b → ⊥) → face_count (suc nodes) split after + 1 ≡ face_count nodes ends next

-- the two nodes are still joined: as many components
abbrev pub SplitKeepsComponents : Type 0
SplitKeepsComponents =
    (nodes a b : ℕ) (ends split : List (ℕ × ℕ)) (next after : ℕ → ℕ) → IsMap nodes ends next → IsSplit nodes ends next a b split after →
    Joined split (tail_of ends a) nodes → component_count (suc nodes) split ≡ component_count nodes ends

-- they aren't: one component more
abbrev pub SplitSplitsAComponent : Type 0
SplitSplitsAComponent =
    (nodes a b : ℕ) (ends split : List (ℕ × ℕ)) (next after : ℕ → ℕ) → IsMap nodes ends next → IsSplit nodes ends next a b split after →
    (Joined split (tail_of ends a) nodes → ⊥) → component_count (suc nodes) split ≡ component_count nodes ends + 1

abbrev pub SplitKeepsFlat : Type 0
SplitKeepsFlat =
    (nodes a b : ℕ) (ends split : List (ℕ × ℕ)) (next after : ℕ → ℕ) → IsMap nodes ends next → IsSplit nodes ends next a b split after →
    MeetsEuler nodes ends next → MeetsEuler (suc nodes) split after
