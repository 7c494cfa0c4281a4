-- An edge comes into a track or a loose drawing, along a route from face to face.
use Rattle.std.specs.Prelude.{◌≡◌, ◌⊎◌, ℕ, ◌+◌, ◌≤◌, Bool, true, false, List, length}
use Rattle.xn_model.specs.Graph.{Graph, IsGraph, ends_at}
use Rattle.xn_model.specs.Lists.{has}
use Rattle.xn_model.specs.Loose.{IsLoose, MeetsOnce}
use Rattle.xn_model.specs.Map.{Joined}
use Rattle.xn_model.specs.Orders.{IsEdgeList}
use Rattle.xn_model.specs.Permutation.{count_below}
use Rattle.xn_loose.specs.Routes.{AreFaceNames, IsSimpleRoute}
use Rattle.xn_track.specs.Track.{IsTrack}

-- the edges and one more
pub record IsOneMore (count : ℕ) (edges : List ℕ) (e : ℕ) (more : List ℕ) : Type 0 where
  pub edge_list : IsEdgeList count more
  pub only : (x : ℕ) → has more x ≡ true → (x ≡ e) ⊎ (has edges x ≡ true)
  pub new : has edges e ≡ false
  pub there : has more e ≡ true
  pub kept : (x : ℕ) → has edges x ≡ true → has more x ≡ true

-- no walk of these edges meets a node twice
abbrev pub EachMeetsOnce : List ℕ → List (ℕ × ℕ) → (ℕ → List ℕ) → Type 0
EachMeetsOnce edges ends walks = (e : ℕ) → has edges e ≡ true → MeetsOnce ends (walks e)

-- an edge comes in, with a crossing for each segment that its route crosses
abbrev pub EdgesComeIn : Type 0
EdgesComeIn =
    (g : Graph) (edges all : List ℕ) (e : ℕ) (web : Graph) (next : ℕ → ℕ) (four : ℕ → Bool) (walks : ℕ → List ℕ) → IsGraph g →
    IsTrack g edges web next four walks → IsOneMore (length g.ends) edges e all →
    (name : ℕ → ℕ) → AreFaceNames web.ends next name (λ c. true) →
    (ds : List ℕ) → IsSimpleRoute web.ends name (ends_at g.ends e).0 ds (ends_at g.ends e).1 →
    (more : Graph) × (after : ℕ → ℕ) × (fewer : ℕ → Bool) × (longer : ℕ → List ℕ) × IsTrack g all more after fewer longer
    × (count_below more.nodes fewer ≤ count_below web.nodes four + length ds)

-- into a loose drawing it comes with just as many crossings as its route crosses segments, and where no walk met a node twice, none does then
abbrev pub EdgesComeIntoLooseDrawings : Type 0
EdgesComeIntoLooseDrawings =
    (g : Graph) (edges all : List ℕ) (e further : ℕ) (web : Graph) (next : ℕ → ℕ) (walks : ℕ → List ℕ) →
    IsLoose g edges further web next walks → IsOneMore (length g.ends) edges e all →
    (name : ℕ → ℕ) → AreFaceNames web.ends next name (λ c. true) →
    (ds : List ℕ) → IsSimpleRoute web.ends name (ends_at g.ends e).0 ds (ends_at g.ends e).1 →
    (more : Graph) × (after : ℕ → ℕ) × (longer : ℕ → List ℕ) × IsLoose g all (further + length ds) more after longer
    × (EachMeetsOnce edges web.ends walks → EachMeetsOnce all more.ends longer)

-- between two components it comes without any
abbrev pub EdgesJoinComponents : Type 0
EdgesJoinComponents =
    (g : Graph) (edges all : List ℕ) (e further : ℕ) (web : Graph) (next : ℕ → ℕ) (walks : ℕ → List ℕ) →
    IsLoose g edges further web next walks → IsOneMore (length g.ends) edges e all →
    (Joined web.ends (ends_at g.ends e).0 (ends_at g.ends e).1 → ⊥) →
    (more : Graph) × (after : ℕ → ℕ) × (longer : ℕ → List ℕ) × IsLoose g all further more after longer
    × (EachMeetsOnce edges web.ends walks → EachMeetsOnce all more.ends longer)
