-- The steps that make walks meet less, and walks that no step is left for.
use Rattle.std.specs.Prelude.{◌≡◌, ◌≢◌, ℕ, suc, ◌+◌, ◌-◌, ◌<◌, ◌≤◌, Bool, true, Option, Some, None, List, length, map, if◌then◌else◌}
use Rattle.xn_model.specs.Drawing.{IsListedDrawing, order_of}
use Rattle.xn_model.specs.Graph.{Graph, Independent}
use Rattle.xn_model.specs.Lists.{at, has, position_in}
use Rattle.xn_model.specs.Orders.{crossing_count}
use Rattle.xn_model.specs.Permutation.{count_below}
use Rattle.xn_genus.specs.Part.{PassesOver}
use Rattle.xn_loose.specs.Renaming.{subgraph_of}
use Rattle.xn_track.specs.Steps.{crossing_over, end_from}
use Rattle.xn_track.specs.Tidying.{other_at}
use Rattle.xn_simple.specs.Tangle.{IsTangle, ListedTangle, MeetAt, named, node_in, walk_in}
use Rattle.xn_simple.specs.Tidied.{is_crossed, order_by_walks, starts_by_walks, walk_starts}
use Rattle.xn_simple.specs.declared.finding.Step.{Step}
use Rattle.xn_simple.specs.declared.finding.Step.TheVariants.{Beginnings, Closed, Middles}
use Rattle.xn_simple.specs.declared.tangle.Pass.{Pass}
use Rattle.xn_kinds.specs.declared.drawings.Drawing.{Drawing}

-- ---- steps

-- two walks pass two nodes, that of e first the one and then the other
pub record MeetTwice (t : ListedTangle) (e i k f j l : ℕ) : Type 0 where
  pub differ : e ≢ f
  pub order : i < k
  pub first : MeetAt t e i f j
  pub second : MeetAt t e k f l
  pub apart : node_in t e i ≢ node_in t e k

-- what is said of a step that the walk of e gives
abbrev pub IsStep : Graph → ListedTangle → ℕ → Step → Type 0
IsStep g t e (Closed i j) = (i < j) × MeetAt t e i e j
IsStep g t e (Beginnings i pass s u) = (e ≢ pass.edge) × MeetAt t e i pass.edge pass.place × (end_from g.ends e s ≡ end_from g.ends pass.edge u)
IsStep g t e (Middles i k one two) = (one.edge ≡ two.edge) × MeetTwice t e i k one.edge one.place two.place

-- two walks meet simply: the walk of an edge passes no named node twice, two that meet are of independent edges, and they meet once
pub record MeetWell (g : Graph) (t : ListedTangle) (e f : ℕ) : Type 0 where
  pub itself : (i j : ℕ) → MeetAt t e i f j → e ≡ f → i ≡ j
  pub apart : (i j : ℕ) → MeetAt t e i f j → e ≢ f → Independent g.ends e f
  pub one : (i j k l : ℕ) → MeetAt t e i f j → MeetAt t e k f l → e ≢ f → node_in t e i ≡ node_in t e k

-- the end that two edges share, or none
abbrev pub IsCommonEnd : List (ℕ × ℕ) → ℕ → ℕ → Option (Bool × Bool) → Type 0
IsCommonEnd ends e f (Some turns) = end_from ends e turns.0 ≡ end_from ends f turns.1
IsCommonEnd ends e f None = Independent ends e f

-- up to its dart i the walk of e meets no walk as it may not, and each other one at the noted place
pub record MeetsSoFar (g : Graph) (t : ListedTangle) (e i : ℕ) (met : List ℕ) : Type 0 where
  pub fits : length met ≡ length g.ends
  pub itself : (k j : ℕ) → suc k < i → MeetAt t e k e j → k ≡ j
  pub apart : (k f j : ℕ) → suc k < i → e ≢ f → MeetAt t e k f j → Independent g.ends e f
  pub noted : (k f j : ℕ) → suc k < i → e ≢ f → MeetAt t e k f j → at met f ≡ k

-- a step, or nothing is met at the next place that may not be
pub record GoesOnWith (g : Graph) (t : ListedTangle) (e i : ℕ) (met : List ℕ) (found : Option Step) : Type 0 where
  pub fits : length met ≡ length g.ends
  pub some : (step : Step) → found ≡ Some step → IsStep g t e step
  pub none : found ≡ None → MeetsSoFar g t e (suc (suc i)) met

-- the walks of e and f meet at that place before i
pub record HasMetBefore (t : ListedTangle) (e first i f : ℕ) (found : Option Pass) : Type 0 where
  pub some : (p : Pass) → found ≡ Some p → (first < i) × (p.edge ≡ f) × MeetAt t e first f p.place
  pub none : found ≡ None → (j : ℕ) → first < i → MeetAt t e first f j → e ≡ f

-- the place of the same pass when a walk of so many darts is turned
abbrev pub place_turned : Bool → ℕ → ℕ → ℕ
place_turned t long i = if t then long - 2 - i else i

-- the parts between two places of one walk and of another change places
pub record AreExchanged (one : List ℕ) (i k : ℕ) (two : List ℕ) (j l : ℕ) (walk back : List ℕ) : Type 0 where
  pub walk_is : walk ≡ crossing_over (crossing_over one i two j) (i + (l - j)) (crossing_over two j one i) (j + (k - i))
  pub back_is : back ≡ crossing_over (crossing_over two j one i) (j + (k - i)) (crossing_over one i two j) (i + (l - j))

-- how many nodes are named
abbrev pub named_count : ListedTangle → ℕ
named_count t = count_below t.map.web.nodes (named t)

-- the map and the edges stay
pub record KeepsMap (old new : ListedTangle) : Type 0 where
  pub same_map : new.map ≡ old.map
  pub same_edges : new.edges ≡ old.edges

-- a step was taken that changed the walks of e and f at most: fewer nodes are named
pub record Leaves (g : Graph) (old new : ListedTangle) (e f : ℕ) : Type 0 where
  pub keeps : KeepsMap old new
  pub tangle : IsTangle g new
  pub other_in : has old.edges f ≡ true
  pub others : (h : ℕ) → h ≢ e → h ≢ f → walk_in new h ≡ walk_in old h
  pub fewer : (v : ℕ) → named new v ≡ true → named old v ≡ true
  pub count : named_count new < named_count old

-- no step is left
pub record IsUntangled (g : Graph) (t : ListedTangle) : Type 0 where
  pub tangle : IsTangle g t
  pub meet : (e f : ℕ) → MeetWell g t e f

-- ---- what is read off

-- the edge that the walk of e crosses at v
abbrev pub crossed_at : ListedTangle → ℕ → ℕ → Option ℕ
crossed_at t e v =
    if is_crossed t.edges t.map.web.ends (named t) (walk_in t) e v then Some (other_at t.edges t.map.web.ends (walk_in t) e v) else None

-- along the walk of e the edges that it crosses
abbrev pub order_in : ListedTangle → ℕ → List ℕ
order_in t e = order_by_walks t.edges t.map.web.ends (named t) (walk_in t) e

-- the darts of the walk of e at its ends and its crossings
abbrev pub starts_in_walk : ListedTangle → ℕ → List ℕ
starts_in_walk t e = walk_starts t.map.web.ends (is_crossed t.edges t.map.web.ends (named t) (walk_in t) e) (walk_in t e)

-- each listed edge has its place
pub record AreNumbers (count : ℕ) (edges numbers : List ℕ) : Type 0 where
  pub fits : length numbers ≡ count
  pub held : (e : ℕ) → has edges e ≡ true → at numbers e ≡ position_in edges e

-- the darts of the walks at their ends and crossings
abbrev pub starts_in : ListedTangle → List ℕ
starts_in t = starts_by_walks t.edges t.map.web.ends (named t) (walk_in t)

-- the lists of the edges that are in, under these numbers, and the turns
pub record IsReadBy (t : ListedTangle) (numbers : List ℕ) (d : Drawing) : Type 0 where
  pub rows : d.orders ≡ map (λ e. map (at numbers) (order_in t e)) t.edges
  pub size : length d.next ≡ length (starts_in t)
  pub over : PassesOver (length (starts_in t)) (at (starts_in t)) (at t.map.next) (at d.next)

-- a drawing of the graph of the edges that are in, with no more crossings than there are named nodes
pub record IsDrawnBy (g : Graph) (t : ListedTangle) (d : Drawing) : Type 0 where
  pub drawing : IsListedDrawing (subgraph_of g t.edges) d.orders d.next
  pub few : crossing_count (subgraph_of g t.edges) (order_of (subgraph_of g t.edges) d.orders) ≤ named_count t
