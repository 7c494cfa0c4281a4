-- Walks over a map that stays as it is, while its further nodes come apart.
use Rattle.std.specs.Prelude.{◌≡◌, ◌≢◌, ℕ, suc, ◌+◌, ◌-◌, ◌*◌, ◌<◌, ◌≤◌, ◌⊎◌, ◌==◌, ◌&&◌, Bool, true, false, not, List, ◌++◌, length, take, drop}
use Rattle.xn_model.specs.Graph.{Graph, IsGraph}
use Rattle.xn_model.specs.Lists.{has}
use Rattle.xn_model.specs.Map.{tail_of}
use Rattle.xn_track.specs.Steps.{crossing_over, end_from, node_after, turned_walk, with_walk}
use Rattle.xn_track.specs.Track.{IsTrack}

-- a dart stands where it stood, or at a new node, and then its old one is no longer named; at nodes that are named, and at
-- the first ones, it turns as before; at a further node that isn't, it turns to a neighbour that it had
pub record ComesFrom (n : ℕ) (web : Graph) (next : ℕ → ℕ) (more : Graph) (after : ℕ → ℕ) (four : ℕ → Bool) : Type 0 where
  pub size : length more.ends ≡ length web.ends
  pub nodes : web.nodes ≤ more.nodes
  pub old : (v : ℕ) → four v ≡ true → v < web.nodes
  pub tails : (d : ℕ) → d < 2 * length web.ends →
      (tail_of more.ends d ≡ tail_of web.ends d)
      ⊎ ((web.nodes ≤ tail_of more.ends d) × (n ≤ tail_of web.ends d) × (four (tail_of web.ends d) ≡ false))
  pub turns : (d : ℕ) → d < 2 * length web.ends → (tail_of web.ends d < n) ⊎ (four (tail_of web.ends d) ≡ true) → after d ≡ next d
  pub bends : (d : ℕ) → d < 2 * length web.ends → n ≤ tail_of web.ends d → four (tail_of web.ends d) ≡ false → (after d ≡ next d) ⊎ (next (after d) ≡ d)

-- once the further nodes that aren't named have come apart, the walks are a track
pub record IsLoosened (g : Graph) (edges : List ℕ) (web : Graph) (next : ℕ → ℕ) (four : ℕ → Bool) (walks : ℕ → List ℕ) : Type 0 where
  pub more : Graph
  pub after : ℕ → ℕ
  pub comes : ComesFrom g.nodes web next more after four
  pub track : IsTrack g edges more after four walks

-- v is no longer named
abbrev pub all_but : (ℕ → Bool) → ℕ → ℕ → Bool
all_but four v w = four w && not (w == v)

-- a walk that passes a named node twice: the part between goes
abbrev pub ClosedPartsGo : Type 0
ClosedPartsGo =
    (g : Graph) (edges : List ℕ) (web : Graph) (next : ℕ → ℕ) (four : ℕ → Bool) (walks : ℕ → List ℕ) → IsGraph g → IsLoosened g edges web next four walks →
    (e i j v : ℕ) → has edges e ≡ true → i < j → suc j < length (walks e) → four v ≡ true →
    node_after web.ends (walks e) i ≡ v → node_after web.ends (walks e) j ≡ v →
    IsLoosened g edges web next (all_but four v) (with_walk walks e (take (suc i) (walks e) ++ drop (suc j) (walks e)))

-- two walks from one end that pass one named node: their parts up to it change places
abbrev pub BeginningsChange : Type 0
BeginningsChange =
    (g : Graph) (edges : List ℕ) (web : Graph) (next : ℕ → ℕ) (four : ℕ → Bool) (walks : ℕ → List ℕ) → IsGraph g → IsLoosened g edges web next four walks →
    (e f i j v : ℕ) (s t : Bool) → has edges e ≡ true → has edges f ≡ true → e ≢ f → end_from g.ends e s ≡ end_from g.ends f t →
    let one : List ℕ = turned_walk s (walks e) in
    let two : List ℕ = turned_walk t (walks f) in
    suc i < length one → suc j < length two → four v ≡ true → node_after web.ends one i ≡ v → node_after web.ends two j ≡ v →
    IsLoosened g edges web next (all_but four v)
    (with_walk (with_walk walks e (turned_walk s (crossing_over two j one i))) f (turned_walk t (crossing_over one i two j)))

-- two walks that pass two named nodes: their parts between change places
abbrev pub MiddlesChange : Type 0
MiddlesChange =
    (g : Graph) (edges : List ℕ) (web : Graph) (next : ℕ → ℕ) (four : ℕ → Bool) (walks : ℕ → List ℕ) → IsGraph g → IsLoosened g edges web next four walks →
    (e f i j k l u v : ℕ) (t : Bool) → has edges e ≡ true → has edges f ≡ true → e ≢ f →
    let one : List ℕ = walks e in
    let two : List ℕ = turned_walk t (walks f) in
    i < k → suc k < length one → j < l → suc l < length two → four u ≡ true → four v ≡ true → u ≢ v →
    node_after web.ends one i ≡ u → node_after web.ends two j ≡ u → node_after web.ends one k ≡ v → node_after web.ends two l ≡ v →
    let first : List ℕ = crossing_over one i two j in
    let second : List ℕ = crossing_over two j one i in
    let p : ℕ = i + (l - j) in
    let q : ℕ = j + (k - i) in
    IsLoosened g edges web next (all_but (all_but four u) v)
    (with_walk (with_walk walks e (crossing_over first p second q)) f (turned_walk t (crossing_over second q first p)))
