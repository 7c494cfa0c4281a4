-- Tracks: flat maps with walks that go straight over nodes with four darts and on over nodes with two. Segments may be left unwalked.
use Rattle.std.specs.Prelude.{◌≡◌, ◌≢◌, ℕ, ◌*◌, ◌<◌, ◌≤◌, Bool, true, false, List, [], ◌∷◌, length, map, nat_eq, if◌then◌else◌}
use Rattle.std.specs.List.{IsDistinct, flat_map}
use Rattle.xn_model.specs.Graph.{Graph, Independent, ends_at}
use Rattle.xn_model.specs.Lists.{has}
use Rattle.xn_model.specs.Loose.{times_walked}
use Rattle.xn_model.specs.Map.{IsFlat, WalksTo, tail_of, reverse_of}
use Rattle.xn_model.specs.Orders.{IsEdgeList}

-- the dart by which a walk leaves that comes by the reverse of d: the second after d at a node that four names, elsewhere the next
abbrev pub straight_on : List (ℕ × ℕ) → (ℕ → Bool) → (ℕ → ℕ) → ℕ → ℕ
straight_on ends four next d = if four (tail_of ends d) then next (next d) else next d

-- between each two darts the walk meets a further node and leaves it by the dart that leave names
abbrev pub GoesOn : ℕ → List (ℕ × ℕ) → (ℕ → ℕ) → List ℕ → Type 0
GoesOn nodes ends leave [] = Unit {0}
GoesOn nodes ends leave (d ∷ []) = Unit {0}
GoesOn nodes ends leave (d ∷ e ∷ darts) =
    (nodes ≤ tail_of ends e) × (leave (reverse_of d) ≡ e) × GoesOn nodes ends leave (e ∷ darts)

-- the nodes between the two ends of a walk
abbrev pub passed : List (ℕ × ℕ) → List ℕ → List ℕ
passed ends [] = []
passed ends (d ∷ darts) = map (tail_of ends) darts

-- a flat map of some nodes and further ones, which have four darts where four names them, and otherwise two or none
pub record IsGround (nodes : ℕ) (web : Graph) (next : ℕ → ℕ) (four : ℕ → Bool) : Type 0 where
  pub nodes_in : nodes ≤ web.nodes
  pub is_flat_map : IsFlat web next
  pub further : (v : ℕ) → four v ≡ true → (nodes ≤ v) × (v < web.nodes)
  pub crossing : (d : ℕ) → d < 2 * length web.ends → four (tail_of web.ends d) ≡ true → (next (next d) ≢ d) × (next (next (next (next d))) ≡ d)
  pub bend : (d : ℕ) → d < 2 * length web.ends → nodes ≤ tail_of web.ends d → four (tail_of web.ends d) ≡ false → (next d ≢ d) × (next (next d) ≡ d)

-- and a walk for each edge that is in, over further nodes alone; no segment is walked twice
pub record IsTrack (g : Graph) (edges : List ℕ) (web : Graph) (next : ℕ → ℕ) (four : ℕ → Bool) (walks : ℕ → List ℕ) : Type 0 where
  pub edge_list : IsEdgeList (length g.ends) edges
  pub ground : IsGround g.nodes web next four
  pub lead : (e : ℕ) → has edges e ≡ true → WalksTo web.ends (ends_at g.ends e).0 (walks e) (ends_at g.ends e).1
  pub straight : (e : ℕ) → has edges e ≡ true → GoesOn g.nodes web.ends (straight_on web.ends four next) (walks e)
  pub once : (s : ℕ) → times_walked s (flat_map walks edges) ≤ 1

-- no walk meets a node twice, walks of edges with a common end don't meet between, and two walks meet at most once
pub record MeetSimply (g : Graph) (edges : List ℕ) (ends : List (ℕ × ℕ)) (walks : ℕ → List ℕ) : Type 0 where
  pub itself : (e : ℕ) → has edges e ≡ true → IsDistinct nat_eq (passed ends (walks e))
  pub apart : (e f v : ℕ) → has edges e ≡ true → has edges f ≡ true → e ≢ f → has (passed ends (walks e)) v ≡ true →
      has (passed ends (walks f)) v ≡ true →
      Independent g.ends e f
  pub one : (e f u v : ℕ) → has edges e ≡ true → has edges f ≡ true → e ≢ f →
      has (passed ends (walks e)) u ≡ true → has (passed ends (walks f)) u ≡ true →
      has (passed ends (walks e)) v ≡ true → has (passed ends (walks f)) v ≡ true → u ≡ v
