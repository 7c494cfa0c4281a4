-- The steps by which walks meet less: the node is relinked, and the walks are cut, joined and turned.
use Rattle.std.specs.Prelude.{◌≡◌, ◌≢◌, ℕ, suc, ◌+◌, ◌-◌, ◌<◌, ◌==◌, Bool, true, List, [], ◌∷◌, ◌++◌, length, take, drop, if◌then◌else◌}
use Rattle.xn_model.specs.Graph.{Graph, IsGraph, ends_at}
use Rattle.xn_model.specs.Lists.{at, has}
use Rattle.xn_model.specs.Map.{reverse_of, tail_of}
use Rattle.xn_track.specs.Relinking.{IsRelinked, MayBeRelinked}
use Rattle.xn_track.specs.Track.{IsTrack}

-- the walk of e is ds, all others are as before
abbrev pub with_walk : (ℕ → List ℕ) → ℕ → List ℕ → ℕ → List ℕ
with_walk walks e ds f = if f == e then ds else walks f

-- the walk the other way
abbrev pub reverse_walk : List ℕ → List ℕ
reverse_walk [] = []
reverse_walk (d ∷ ds) = reverse_walk ds ++ reverse_of d ∷ []

-- the walk as it is, or the other way
abbrev pub turned_walk : Bool → List ℕ → List ℕ
turned_walk t ds = if t then reverse_walk ds else ds

-- where it begins
abbrev pub end_from : List (ℕ × ℕ) → ℕ → Bool → ℕ
end_from ends e t = if t then (ends_at ends e).1 else (ends_at ends e).0

-- the node at which the walk leaves its dart i
abbrev pub node_after : List (ℕ × ℕ) → List ℕ → ℕ → ℕ
node_after ends ds i = tail_of ends (at ds (suc i))

-- what is after a relinking of the passes from a and from b a track with these walks
pub record IsStep (g : Graph) (edges : List ℕ) (web : Graph) (next : ℕ → ℕ) (four : ℕ → Bool) (a b : ℕ) (walks : ℕ → List ℕ) : Type 0 where
  pub may : MayBeRelinked web next four a b
  pub leaves : (more : Graph) (after : ℕ → ℕ) (fewer : ℕ → Bool) → IsRelinked g.nodes web next four a b more after fewer →
      IsTrack g edges more after fewer walks

-- a walk that passes a node twice: the part between goes
abbrev pub ClosedPartsAreCutOff : Type 0
ClosedPartsAreCutOff =
    (g : Graph) (edges : List ℕ) (web : Graph) (next : ℕ → ℕ) (four : ℕ → Bool) (walks : ℕ → List ℕ) → IsGraph g →
    IsTrack g edges web next four walks →
    (e i j : ℕ) → has edges e ≡ true → i < j → suc j < length (walks e) → node_after web.ends (walks e) i ≡ node_after web.ends (walks e) j →
    IsStep g edges web next four (reverse_of (at (walks e) i)) (reverse_of (at (walks e) j))
    (with_walk walks e (take (suc i) (walks e) ++ drop (suc j) (walks e)))

-- the walk one up to its dart i, and the walk two after its dart j
abbrev pub crossing_over : List ℕ → ℕ → List ℕ → ℕ → List ℕ
crossing_over one i two j = take (suc i) one ++ drop (suc j) two

-- two walks from one end that pass one node: their parts up to it change places
abbrev pub BeginningsAreExchanged : Type 0
BeginningsAreExchanged =
    (g : Graph) (edges : List ℕ) (web : Graph) (next : ℕ → ℕ) (four : ℕ → Bool) (walks : ℕ → List ℕ) → IsGraph g →
    IsTrack g edges web next four walks →
    (e f i j : ℕ) (s t : Bool) → has edges e ≡ true → has edges f ≡ true → e ≢ f → end_from g.ends e s ≡ end_from g.ends f t →
    let one : List ℕ = turned_walk s (walks e) in
    let two : List ℕ = turned_walk t (walks f) in
    suc i < length one → suc j < length two → node_after web.ends one i ≡ node_after web.ends two j →
    IsStep g edges web next four (reverse_of (at one i)) (reverse_of (at two j))
    (with_walk (with_walk walks e (turned_walk s (crossing_over two j one i))) f (turned_walk t (crossing_over one i two j)))

-- the passes of two nodes are relinked, one after the other
pub record IsDoubleStep (g : Graph) (edges : List ℕ) (web : Graph) (next : ℕ → ℕ) (four : ℕ → Bool) (a b c d : ℕ) (walks : ℕ → List ℕ) : Type 0 where
  pub may : MayBeRelinked web next four a b
  pub may_then : (more : Graph) (after : ℕ → ℕ) (fewer : ℕ → Bool) → IsRelinked g.nodes web next four a b more after fewer →
      MayBeRelinked more after fewer c d
  pub leaves : (more most : Graph) (after last : ℕ → ℕ) (fewer fewest : ℕ → Bool) → IsRelinked g.nodes web next four a b more after fewer →
      IsRelinked g.nodes more after fewer c d most last fewest → IsTrack g edges most last fewest walks

-- two walks that pass two nodes in the same order: what follows the first changes places, and then what follows the second, so the parts between do
abbrev pub MiddlesAreExchanged : Type 0
MiddlesAreExchanged =
    (g : Graph) (edges : List ℕ) (web : Graph) (next : ℕ → ℕ) (four : ℕ → Bool) (walks : ℕ → List ℕ) → IsGraph g →
    IsTrack g edges web next four walks →
    (e f i j k l : ℕ) (t : Bool) → has edges e ≡ true → has edges f ≡ true → e ≢ f →
    let one : List ℕ = walks e in
    let two : List ℕ = turned_walk t (walks f) in
    i < k → suc k < length one → j < l → suc l < length two → node_after web.ends one i ≡ node_after web.ends two j →
    node_after web.ends one k ≡ node_after web.ends two l → node_after web.ends one i ≢ node_after web.ends one k →
    let first : List ℕ = crossing_over one i two j in
    let second : List ℕ = crossing_over two j one i in
    let p : ℕ = i + (l - j) in
    let q : ℕ = j + (k - i) in
    IsDoubleStep g edges web next four (reverse_of (at one i)) (reverse_of (at two j)) (reverse_of (at first p)) (reverse_of (at second q))
    (with_walk (with_walk walks e (crossing_over first p second q)) f (turned_walk t (crossing_over second q first p)))
