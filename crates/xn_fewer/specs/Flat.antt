-- Webs that have a flat map, and what is done to a web.
use Rattle.std.specs.Prelude.{◌≡◌, ◌≢◌, ℕ, suc, ◌<◌, ◌≤◌, ◌==◌, ◌⊎◌, true, List, [], ◌∷◌, ◌++◌, length, map, if◌then◌else◌}
use Rattle.xn_model.specs.Graph.{EndsIn, ends_at}
use Rattle.xn_model.specs.Map.{MeetsEuler, IsMap, Joined, is_lone}
use Rattle.xn_model.specs.Permutation.{Permutes}

-- some rotation makes of the web a flat map
pub record HasFlat (nodes : ℕ) (ends : List (ℕ × ℕ)) : Type 0 where
  pub next : ℕ → ℕ
  pub is_map : IsMap nodes ends next
  pub flat : MeetsEuler nodes ends next

-- ---- ways to change a web

-- the node y is called x
abbrev pub called : ℕ → ℕ → ℕ → ℕ
called x y v = if v == y then x else v

-- both ends under new names
abbrev pub both : (ℕ → ℕ) → ℕ × ℕ → ℕ × ℕ
both m p = (m p.0, m p.1)

-- y's segments are those of x
abbrev pub merged : ℕ → ℕ → List (ℕ × ℕ) → List (ℕ × ℕ)
merged x y ends = map (both (called x y)) ends

-- p and q are the same two nodes
abbrev pub SameEnds : ℕ × ℕ → ℕ × ℕ → Type 0
SameEnds p q = ((p.0 ≡ q.0) × (p.1 ≡ q.1)) ⊎ ((p.0 ≡ q.1) × (p.1 ≡ q.0))

-- segment i of the part is segment σ i of the web, perhaps turned
pub record IsSelection (ends part : List (ℕ × ℕ)) (σ : ℕ → ℕ) : Type 0 where
  pub below : (i : ℕ) → i < length part → σ i < length ends
  pub apart : (i j : ℕ) → i < length part → j < length part → σ i ≡ σ j → i ≡ j
  pub same : (i : ℕ) → i < length part → SameEnds (ends_at part i) (ends_at ends (σ i))

-- ---- flat maps of what is left or comes

-- some of the segments, in any order, each perhaps turned
abbrev pub SomeSegmentsStayFlat : Type 0
SomeSegmentsStayFlat = (nodes : ℕ) (ends part : List (ℕ × ℕ)) (σ : ℕ → ℕ) → IsSelection ends part σ → HasFlat nodes ends → HasFlat nodes part

-- a segment beside another one
abbrev pub ParallelStaysFlat : Type 0
ParallelStaysFlat =
    (nodes s : ℕ) (ends : List (ℕ × ℕ)) → s < length ends → (ends_at ends s).0 ≢ (ends_at ends s).1 → HasFlat nodes ends →
    HasFlat nodes (ends ++ ends_at ends s ∷ [])

-- a segment between two nodes that aren't joined
abbrev pub BridgeStaysFlat : Type 0
BridgeStaysFlat =
    (nodes x y : ℕ) (ends : List (ℕ × ℕ)) → x < nodes → y < nodes → (Joined ends x y → ⊥) → HasFlat nodes ends → HasFlat nodes (ends ++ (x, y) ∷ [])

-- the node v has no darts: without it, the last node has its number
abbrev pub LoneNodeComesFlat : Type 0
LoneNodeComesFlat =
    (rest v : ℕ) (ends : List (ℕ × ℕ)) → v ≤ rest → EndsIn (suc rest) ends → is_lone ends v ≡ true →
    HasFlat rest (merged v rest ends) → HasFlat (suc rest) ends

-- nodes under other names
abbrev pub OtherNamesStayFlat : Type 0
OtherNamesStayFlat =
    (nodes : ℕ) (ends : List (ℕ × ℕ)) (m : ℕ → ℕ) → Permutes nodes m → HasFlat nodes ends → HasFlat nodes (map (both m) ends)
