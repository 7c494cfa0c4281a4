-- Names of faces, the faces around a node, the dual web, and a least route.
use Rattle.std.specs.Prelude.{◌≡◌, ◌⊎◌, ℕ, ◌*◌, ◌<◌, ◌≤◌, true, List, length}
use Rattle.xn_model.specs.Graph.{Graph}
use Rattle.xn_model.specs.Lists.{at}
use Rattle.xn_model.specs.Loose.{IsRoute, IsRouteLength}
use Rattle.xn_model.specs.Map.{face_step, tail_of}
use Rattle.xn_model.specs.Permutation.{Reaches}
use Rattle.xn_loose.specs.Routes.{AreFaceNames, RouteOf}
use Rattle.xn_map.specs.Listed.{ListedMap}

-- along each face the names are the same: a dart of the face, or the number of darts where there is none yet
pub record AreClosed (m : ListedMap) (names : List ℕ) : Type 0 where
  pub size : length names ≡ length m.next
  pub bound : (x : ℕ) → x < length m.next → at names x ≤ length m.next
  pub keeps : (x : ℕ) → x < length m.next → at names (face_step (at m.next) x) ≡ at names x
  pub own : (x : ℕ) → x < length m.next → at names x < length m.next → Reaches (face_step (at m.next)) (at names x) x

-- the face of d has a name besides
pub record NamesFace (m : ListedMap) (d : ℕ) (old new : List ℕ) : Type 0 where
  pub closed : AreClosed m new
  pub named : at new d < length m.next
  pub kept : (x : ℕ) → x < length m.next → at old x < length m.next → at new x < length m.next

-- all darts of a face have one of its darts as their name
pub record NamesFaces (m : ListedMap) (names : List ℕ) : Type 0 where
  pub size : length names ≡ length m.next
  pub below : (d : ℕ) → d < length m.next → at names d < length m.next
  pub faces : AreFaceNames m.web.ends (at m.next) (at names) (λ c. true)

-- after the dart c at v comes a dart of the face named x
abbrev pub IsCornerIn : ListedMap → List ℕ → ℕ → ℕ → ℕ → Type 0
IsCornerIn m names v x c = (c < length m.next) × (tail_of m.web.ends c ≡ v) × (at names (at m.next c) ≡ x)

-- for each name of a face a dart of v before a corner in it, or the number of darts; the darts before d are looked at
pub record MarkCorners (m : ListedMap) (names : List ℕ) (v d : ℕ) (corners : List ℕ) : Type 0 where
  pub size : length corners ≡ length m.next
  pub sound : (x : ℕ) → x < length m.next → (at corners x ≡ length m.next) ⊎ IsCornerIn m names v x (at corners x)
  pub all : (c : ℕ) → c < d → tail_of m.web.ends c ≡ v → at corners (at names (at m.next c)) < length m.next

-- its nodes are the names, and each dart is at the name of its face
pub record IsDual (names : List ℕ) (dual : Graph) : Type 0 where
  pub nodes : dual.nodes ≡ length names
  pub size : 2 * length dual.ends ≡ length names
  pub tails : (d : ℕ) → d < length names → tail_of dual.ends d ≡ at names d

-- the first s segments of it
pub record AreDualEnds (names : List ℕ) (s : ℕ) (ends : List (ℕ × ℕ)) : Type 0 where
  pub size : length ends ≡ s
  pub tails : (d : ℕ) → d < 2 * s → tail_of ends d ≡ at names d

-- from the corner after one dart over the darts to the corner after another, over as few segments as can be, and no face twice
pub record IsLeastRoute (m : ListedMap) (u v from : ℕ) (darts : List ℕ) (to : ℕ) : Type 0 where
  pub name : ℕ → ℕ
  pub faces : AreFaceNames m.web.ends (at m.next) name (λ c. true)
  pub from_in : from < length m.next
  pub to_in : to < length m.next
  pub at_from : tail_of m.web.ends from ≡ u
  pub at_to : tail_of m.web.ends to ≡ v
  pub over : RouteOf name (λ c. true) (name (at m.next from)) darts (at m.next to)
  pub darts_in : (i : ℕ) → i < length darts → at darts i < length m.next
  pub least : IsRouteLength m.web.ends (at m.next) u v (length darts)
  pub few : length darts ≤ length m.next

-- no route leads from u to v
abbrev pub HasNoRoute : ListedMap → ℕ → ℕ → Type 0
HasNoRoute m u v = (darts : List ℕ) → IsRoute m.web.ends (at m.next) u darts v → ⊥
