-- Two maps of the same nodes, laid over each other.
use Rattle.std.specs.Prelude.{◌≡◌, ◌≢◌, ℕ, ◌+◌, ◌*◌, ◌<◌, ◌⊎◌, true, List, ◌++◌, length}
use Rattle.xn_model.specs.Map.{MeetsEuler, IsMap, component_count, face_count, is_lone, tail_of}
use Rattle.xn_model.specs.Permutation.{IsSplice}
use Rattle.xn_ring.specs.Parts.{IsBeside}

-- no node but w has darts of both webs
abbrev pub ShareOnly : ℕ → List (ℕ × ℕ) → List (ℕ × ℕ) → ℕ → Type 0
ShareOnly nodes first second w = (v : ℕ) → v < nodes → v ≢ w → (is_lone first v ≡ true) ⊎ (is_lone second v ≡ true)

-- no node has darts of both webs
abbrev pub ShareNothing : ℕ → List (ℕ × ℕ) → List (ℕ × ℕ) → Type 0
ShareNothing nodes first second = (v : ℕ) → v < nodes → (is_lone first v ≡ true) ⊎ (is_lone second v ≡ true)

-- maps without a shared node beside each other: the darts of the second have the numbers after those of the first
pub record IsApart (nodes : ℕ) (first second : List (ℕ × ℕ)) (f g after : ℕ → ℕ) : Type 0 where
  pub share : ShareNothing nodes first second
  pub turns : IsBeside (2 * length first) (2 * length second) f g after

-- maps that share one node: there the dart b of the second follows the dart a of the first, and its ring is put in
pub record IsJoinedAt (nodes : ℕ) (first second : List (ℕ × ℕ)) (f g : ℕ → ℕ) (a b : ℕ) (after : ℕ → ℕ) : Type 0 where
  pub first_in : a < 2 * length first
  pub second_in : b < 2 * length second
  pub one_node : tail_of first a ≡ tail_of second b
  pub share : ShareOnly nodes first second (tail_of first a)
  pub beside : ℕ → ℕ
  pub two_maps : IsBeside (2 * length first) (2 * length second) f g beside
  pub turns : IsSplice (2 * length first + 2 * length second) a (2 * length first + b) beside after

-- the one or the other
abbrev pub IsOverlay : ℕ → List (ℕ × ℕ) → List (ℕ × ℕ) → (ℕ → ℕ) → (ℕ → ℕ) → (ℕ → ℕ) → Type 0
IsOverlay nodes first second f g after =
    IsApart nodes first second f g after ⊎ ((a b : ℕ) × IsJoinedAt nodes first second f g a b after)

abbrev pub OverlayIsAMap : Type 0
OverlayIsAMap =
    (nodes : ℕ) (first second : List (ℕ × ℕ)) (f g after : ℕ → ℕ) → IsMap nodes first f → IsMap nodes second g →
    IsOverlay nodes first second f g after → IsMap nodes (first ++ second) after

-- the faces and the components add up, but that each node is one of either where it has no dart
abbrev pub OverlayAddsCounts : Type 0
OverlayAddsCounts =
    (nodes : ℕ) (first second : List (ℕ × ℕ)) (f g after : ℕ → ℕ) → IsMap nodes first f → IsMap nodes second g →
    IsOverlay nodes first second f g after →
    (face_count nodes (first ++ second) after + nodes ≡ face_count nodes first f + face_count nodes second g)
    × (component_count nodes (first ++ second) + nodes ≡ component_count nodes first + component_count nodes second)

abbrev pub OverlayKeepsFlat : Type 0
OverlayKeepsFlat =
    (nodes : ℕ) (first second : List (ℕ × ℕ)) (f g after : ℕ → ℕ) → IsMap nodes first f → IsMap nodes second g →
    IsOverlay nodes first second f g after → MeetsEuler nodes first f → MeetsEuler nodes second g → MeetsEuler nodes (first ++ second) after
