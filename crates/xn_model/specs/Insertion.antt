-- Flat insertions: a flat map grows by one segment after another, each within one face.
use Rattle.std.specs.Prelude.{◌≡◌, ◌≢◌, ℕ, ◌+◌, ◌*◌, ◌/◌, ◌<◌, ◌⊎◌, ◌||◌, Bool, true, false, List, [], ◌∷◌, length}
use Rattle.std.specs.List.{list_any}
use Rattle.xn_model.specs.Graph.{Graph, HasNoLoop, ends_at, touches}
use Rattle.xn_model.specs.Lists.{has}
use Rattle.xn_model.specs.Map.{tail_of, face_step}
use Rattle.xn_model.specs.Permutation.{Reaches}

-- a segment that is in touches v
abbrev pub is_old : List (ℕ × ℕ) → List ℕ → ℕ → Bool
is_old ends done v = list_any (λ s. touches (ends_at ends s) v) done

-- each further segment is new and shares a node with one that is in
abbrev pub Follow : List (ℕ × ℕ) → List ℕ → List ℕ → Type 0
Follow ends done [] = Unit {0}
Follow ends done (s ∷ rest) =
    (s < length ends) × (has done s ≡ false)
    × ((is_old ends done (ends_at ends s).0 || is_old ends done (ends_at ends s).1) ≡ true)
    × Follow ends (s ∷ done) rest

-- at least one segment, no segment twice, and each but the first shares a node with an earlier one
abbrev pub GrowsFromFirst : List (ℕ × ℕ) → List ℕ → Type 0
GrowsFromFirst ends [] = ⊥
GrowsFromFirst ends (s ∷ rest) = (s < length ends) × Follow ends (s ∷ []) rest

-- c is a dart of the segments that are in, at the node of d: the corner after c is one of that node
pub record IsOldCorner (ends : List (ℕ × ℕ)) (done : List ℕ) (d c : ℕ) : Type 0 where
  pub in_map : has done (c / 2) ≡ true
  pub same_node : tail_of ends c ≡ tail_of ends d

-- d has come to stand right after c
pub record StandsAfter (n d c : ℕ) (before after : ℕ → ℕ) : Type 0 where
  pub follows : after c ≡ d
  pub leads_on : after d ≡ before c
  pub others : (x : ℕ) → x < n → x ≢ c → x ≢ d → after x ≡ before x

-- the end with the dart e is new: d goes to any corner of its node
pub record HangsAt (ends : List (ℕ × ℕ)) (done : List ℕ) (d e : ℕ) (before after : ℕ → ℕ) : Type 0 where
  pub corner : ℕ
  pub is_corner : IsOldCorner ends done d corner
  pub new_end : is_old ends done (tail_of ends e) ≡ false
  pub stands : StandsAfter (2 * length ends) d corner before after

-- both ends are old: the darts go to a corner of each, the two in one face
pub record CutsFace (ends : List (ℕ × ℕ)) (done : List ℕ) (s : ℕ) (before after : ℕ → ℕ) : Type 0 where
  pub first : ℕ
  pub second : ℕ
  pub is_first : IsOldCorner ends done (2 * s) first
  pub is_second : IsOldCorner ends done (2 * s + 1) second
  pub one_face : Reaches (face_step before) (before first) (before second)
  pub between : ℕ → ℕ
  pub first_stands : StandsAfter (2 * length ends) (2 * s) first before between
  pub second_stands : StandsAfter (2 * length ends) (2 * s + 1) second between after

-- the segment s goes into the map, in which every dart that isn't in is alone
abbrev pub FlatInsertion : List (ℕ × ℕ) → List ℕ → ℕ → (ℕ → ℕ) → (ℕ → ℕ) → Type 0
FlatInsertion ends done s before after =
    HangsAt ends done (2 * s) (2 * s + 1) before after
    ⊎ (HangsAt ends done (2 * s + 1) (2 * s) before after ⊎ CutsFace ends done s before after)

-- some insertions lead from next, the map of the segments that are in, to last, the map with the rest of the list
abbrev pub Extends : List (ℕ × ℕ) → List ℕ → List ℕ → (ℕ → ℕ) → (ℕ → ℕ) → Type 0
Extends ends done [] next last = (d : ℕ) → d < 2 * length ends → last d ≡ next d
Extends ends done (s ∷ rest) next last =
    (after : ℕ → ℕ) × FlatInsertion ends done s next after × Extends ends (s ∷ done) rest after last

-- last is the map of the listed segments, reached by flat insertions in the order of the list
abbrev pub ReachesEnd : List (ℕ × ℕ) → List ℕ → (ℕ → ℕ) → Type 0
ReachesEnd ends [] last = ⊥
ReachesEnd ends (s ∷ rest) last = Extends ends (s ∷ []) rest (λ d. d) last

-- a list of a web without loops whose end no flat insertions reach
pub record IsStuck (web : Graph) (list : List ℕ) : Type 0 where
  pub no_loop : HasNoLoop web.ends
  pub grows : GrowsFromFirst web.ends list
  pub stuck : (last : ℕ → ℕ) → ReachesEnd web.ends list last → ⊥
