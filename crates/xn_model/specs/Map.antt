-- Maps, which are webs with a rotation at each node; their counts, and genus zero.
use Rattle.std.specs.Prelude.{◌≡◌, ℕ, ◌+◌, ◌*◌, ◌/◌, ◌%◌, ◌<◌, ◌≤◌, ◌==◌, ◌↔◌, Bool, true, not, List, [], ◌∷◌, length, map, max, min, if◌then◌else◌, slice_index, bit_xor}
use Rattle.std.specs.List.{fold, list_any, range_with_len}
use Rattle.xn_model.specs.Graph.{Graph, EndsIn, ends_at, touches}
use Rattle.xn_model.specs.Permutation.{Permutes, Reaches, count_below, cycle_count}

-- the dart at the other end of the segment
abbrev pub reverse_of : ℕ → ℕ
reverse_of d = bit_xor d 1

-- the node of a dart: segment s has the dart 2s at its first end and 2s + 1 at its second
abbrev pub tail_of : List (ℕ × ℕ) → ℕ → ℕ
tail_of ends d = if d % 2 == 0 then (ends_at ends (d / 2)).0 else (ends_at ends (d / 2)).1

-- the next dart along the face
abbrev pub face_step : (ℕ → ℕ) → ℕ → ℕ
face_step next d = next (reverse_of d)

-- the ends are nodes, and next turns round each node, once through all its darts
pub record IsMap (nodes : ℕ) (ends : List (ℕ × ℕ)) (next : ℕ → ℕ) : Type 0 where
  pub ends_in : EndsIn nodes ends
  pub permutes : Permutes (2 * length ends) next
  pub same_node : (d : ℕ) → d < 2 * length ends → tail_of ends (next d) ≡ tail_of ends d
  pub one_ring : (d e : ℕ) → d < 2 * length ends → e < 2 * length ends → tail_of ends d ≡ tail_of ends e → Reaches next d e

-- v has no dart
abbrev pub is_lone : List (ℕ × ℕ) → ℕ → Bool
is_lone ends v = not (list_any (λ p. touches p v) ends)

-- the cycles of the faces, and one face for each node without darts
abbrev pub face_count : ℕ → List (ℕ × ℕ) → (ℕ → ℕ) → ℕ
face_count nodes ends next = cycle_count (2 * length ends) (face_step next) + count_below nodes (is_lone ends)

-- ---- components

-- the darts lead from u to v, each from where the one before ends
abbrev pub WalksTo : List (ℕ × ℕ) → ℕ → List ℕ → ℕ → Type 0
WalksTo ends u [] v = u ≡ v
WalksTo ends u (d ∷ darts) v =
    (d < 2 * length ends) × (tail_of ends d ≡ u) × WalksTo ends (tail_of ends (reverse_of d)) darts v

-- a walk of segments joins u and v
abbrev pub Joined : List (ℕ × ℕ) → ℕ → ℕ → Type 0
Joined ends u v = (darts : List ℕ) × WalksTo ends u darts v

-- no walk joins v to a smaller node
abbrev pub LeadsItsComponent : List (ℕ × ℕ) → ℕ → Type 0
LeadsItsComponent ends v = (u : ℕ) → Joined ends v u → v ≤ u

-- this many nodes lead their components
pub record IsComponentCount (nodes : ℕ) (ends : List (ℕ × ℕ)) (count : ℕ) : Type 0 where
  pub leads : ℕ → Bool
  pub exactly : (v : ℕ) → v < nodes → (leads v ≡ true) ↔ LeadsItsComponent ends v
  pub counted : count_below nodes leads ≡ count

-- the label of a node's component, once the components labelled a and b are one
abbrev pub relabel : ℕ → ℕ → ℕ → ℕ
relabel a b v = if v == max a b then min a b else v

-- the labels once the two ends of a segment are in one component
abbrev pub join_components : List ℕ → ℕ × ℕ → List ℕ
join_components labels p = map (relabel (slice_index labels p.0) (slice_index labels p.1)) labels

-- for each node the least node of its component, segment by segment
abbrev pub component_labels : ℕ → List (ℕ × ℕ) → List ℕ
component_labels nodes ends = fold join_components (range_with_len 0 nodes) ends

-- the nodes that are their component's label: a law says that this is the count by walks
abbrev pub component_count : ℕ → List (ℕ × ℕ) → ℕ
component_count nodes ends = let labels = component_labels nodes ends in count_below nodes (λ v. slice_index labels v == v)

-- ---- genus zero

-- V - E + F = 2C, by addition
abbrev pub MeetsEuler : ℕ → List (ℕ × ℕ) → (ℕ → ℕ) → Type 0
MeetsEuler nodes ends next = nodes + face_count nodes ends next ≡ 2 * component_count nodes ends + length ends

-- next makes of the web a map of genus zero
pub record IsFlat (web : Graph) (next : ℕ → ℕ) : Type 0 where
  pub is_map : IsMap web.nodes web.ends next
  pub flat : MeetsEuler web.nodes web.ends next
