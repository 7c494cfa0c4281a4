-- What is first wrong with a map and walks that are said to be a loose drawing of all edges of a graph.
use Rattle.std.specs.Prelude.{◌≡◌, ◌≢◌, ℕ, suc, ◌<◌, ◌≤◌, ◌⊎◌, ◌↔◌, Bool, true, false, List, length, min}
use Rattle.std.specs.List.{flat_map, range_with_len}
use Rattle.xn_model.specs.Drawing.{IsDrawing}
use Rattle.xn_model.specs.Graph.{Graph, edges_of, ends_at}
use Rattle.xn_model.specs.Lists.{at}
use Rattle.xn_model.specs.Loose.{dart_count, times_walked}
use Rattle.xn_model.specs.Map.{WalksTo, reverse_of, tail_of}
use Rattle.xn_graph.specs.Counts.{IsBalanced, euler_of}
use Rattle.xn_map.specs.Listed.{ListedMap}
use Rattle.xn_map.specs.Marks.{is_marked}
use Rattle.xn_insert.specs.ListedLoose.{IsLooseOf, ListedLoose, edges_in, loose_of, walk_of}
use Rattle.xn_insert.specs.declared.flaws.LooseErr.{LooseErr}
use Rattle.xn_insert.specs.declared.flaws.LooseErr.TheVariants.{Flaw, Memory}
use Rattle.xn_insert.specs.declared.flaws.LooseFlaw.{LooseFlaw}
use Rattle.xn_insert.specs.declared.flaws.LooseFlaw.TheVariants.{Size, Ends, Walked, Turn, Genus}

-- n is the first number from low on that fails
pub record IsFirstFailing (low : ℕ) (P : ℕ → Type 0) (n : ℕ) : Type 0 where
  pub from : low ≤ n
  pub fails : ¬ (P n)
  pub before : (m : ℕ) → low ≤ m → m < n → P m

-- ---- what a loose drawing has, step by step

-- a walk for each edge, and at least the nodes of the graph
pub record HasSizes (g : Graph) (m : ListedMap) (walks : List (List ℕ)) : Type 0 where
  pub one_each : length walks ≡ length g.ends
  pub nodes_in : g.nodes ≤ m.web.nodes

-- each dart of the walk but the first begins at a further node
abbrev pub PassesFurther : ℕ → List (ℕ × ℕ) → List ℕ → Type 0
PassesFurther nodes ends walk = (i : ℕ) → suc i < length walk → nodes ≤ tail_of ends (at walk (suc i))

-- the walk of e leads from its first to its second end, and over further nodes between
abbrev pub LeadsWell : Graph → ListedMap → List (List ℕ) → ℕ → Type 0
LeadsWell g m walks e =
    WalksTo m.web.ends (ends_at g.ends e).0 (walk_of walks e) (ends_at g.ends e).1 × PassesFurther g.nodes m.web.ends (walk_of walks e)

pub record HasWalks (g : Graph) (m : ListedMap) (walks : List (List ℕ)) : Type 0 where
  pub sizes : HasSizes g m walks
  pub lead : (e : ℕ) → e < length g.ends → LeadsWell g m walks e

-- all darts of the walks
abbrev pub darts_walked : List (List ℕ) → List ℕ
darts_walked walks = flat_map (walk_of walks) (range_with_len 0 (length walks))

-- the segment is walked once in all
abbrev pub IsWalkedOnce : List (List ℕ) → ℕ → Type 0
IsWalkedOnce walks s = times_walked s (darts_walked walks) ≡ 1

pub record WalksOnce (g : Graph) (m : ListedMap) (walks : List (List ℕ)) : Type 0 where
  pub has_walks : HasWalks g m walks
  pub once : (s : ℕ) → s < length m.web.ends → IsWalkedOnce walks s

-- a walk doesn't go straight on between its darts i and the next, at v
pub record BendsAt (m : ListedMap) (walk : List ℕ) (v i : ℕ) : Type 0 where
  pub goes_on : suc i < length walk
  pub there : tail_of m.web.ends (at walk (suc i)) ≡ v
  pub bends : at m.next (at m.next (reverse_of (at walk i))) ≢ at walk (suc i)

-- the walk of some edge does so
abbrev pub IsBent : ListedMap → List (List ℕ) → ℕ → Type 0
IsBent m walks v = (e : ℕ) × (i : ℕ) × BendsAt m (walk_of walks e) v i

-- v has four darts, and each walk goes straight over it
abbrev pub IsCrossing : ListedMap → List (List ℕ) → ℕ → Type 0
IsCrossing m walks v = (dart_count m.web.ends v ≡ 4) × ¬ (IsBent m walks v)

pub record HasTurns (g : Graph) (m : ListedMap) (walks : List (List ℕ)) : Type 0 where
  pub walked : WalksOnce g m walks
  pub crossings : (v : ℕ) → g.nodes ≤ v → v < m.web.nodes → IsCrossing m walks v

-- this is the first flaw: what comes before it in this list is as in a loose drawing
abbrev pub IsLooseFlaw : Graph → ListedMap → List (List ℕ) → LooseFlaw → Type 0
IsLooseFlaw g m walks Size = ¬ (HasSizes g m walks)
IsLooseFlaw g m walks (Ends e) = HasSizes g m walks × (e < length g.ends) × IsFirstFailing 0 (LeadsWell g m walks) e
IsLooseFlaw g m walks (Walked s) = HasWalks g m walks × (s < length m.web.ends) × IsFirstFailing 0 (IsWalkedOnce walks) s
IsLooseFlaw g m walks (Turn v) = WalksOnce g m walks × (v < m.web.nodes) × IsFirstFailing g.nodes (IsCrossing m walks) v
IsLooseFlaw g m walks (Genus counts) = HasTurns g m walks × (counts ≡ euler_of m.web (at m.next)) × ¬ (IsBalanced counts)

-- want of memory needs no cause
abbrev pub IsLooseCause : Graph → ListedMap → List (List ℕ) → LooseErr → Type 0
IsLooseCause g m walks (Flaw x) = IsLooseFlaw g m walks x
IsLooseCause g m walks Memory = Unit {0}

-- ---- what is made

-- map and walks are a loose drawing of all edges, so a drawing of the graph
pub record IsDrawnLoosely (g : Graph) (m : ListedMap) (walks : List (List ℕ)) : Type 0 where
  pub lists : length walks ≡ length g.ends
  pub further : ℕ
  pub drawing : IsDrawing g further m.web (at m.next) (walk_of walks)

-- the loose drawing of all edges with this map and these walks
pub record IsMade (g : Graph) (m : ListedMap) (walks : List (List ℕ)) (l : ListedLoose) : Type 0 where
  pub made : l ≡ loose_of g.nodes m walks
  pub drawn : IsDrawnLoosely g m walks
  pub loose : IsLooseOf g l
  pub all_in : edges_in l ≡ edges_of g

-- map and walks that have a flaw are no loose drawing of all edges
abbrev pub FlawedIsNotDrawn : Type 0
FlawedIsNotDrawn = (g : Graph) (m : ListedMap) (walks : List (List ℕ)) (x : LooseFlaw) → IsLooseFlaw g m walks x → ¬ (IsDrawnLoosely g m walks)

-- there is at most one flaw
abbrev pub OneLooseFlaw : Type 0
OneLooseFlaw = (g : Graph) (m : ListedMap) (walks : List (List ℕ)) (x y : LooseFlaw) → IsLooseFlaw g m walks x → IsLooseFlaw g m walks y → x ≡ y

-- ---- on the way there

-- how often each segment is walked, where 2 stands for twice or more
pub record AreTimes (segments : ℕ) (darts times : List ℕ) : Type 0 where
  pub long : length times ≡ segments
  pub each : (s : ℕ) → s < segments → at times s ≡ min (times_walked s darts) 2

-- those nodes are marked that were, and those at which a walk bends before its dart n
pub record MarksBends (m : ListedMap) (walk : List ℕ) (n : ℕ) (old new : List Bool) : Type 0 where
  pub long : length new ≡ m.web.nodes
  pub marks : (v : ℕ) → v < m.web.nodes → (is_marked new v ≡ true) ↔ ((is_marked old v ≡ true) ⊎ ((i : ℕ) × (suc i < n) × BendsAt m walk v i))

-- those are marked at which the walks of the edges before n bend
pub record AreBends (m : ListedMap) (walks : List (List ℕ)) (n : ℕ) (marks : List Bool) : Type 0 where
  pub long : length marks ≡ m.web.nodes
  pub bent : (v : ℕ) → v < m.web.nodes → (is_marked marks v ≡ true) ↔ ((e : ℕ) × (i : ℕ) × (e < n) × BendsAt m (walk_of walks e) v i)

-- v has four darts and isn't marked
abbrev pub IsUnmarkedFour : List (ℕ × ℕ) → List Bool → ℕ → Type 0
IsUnmarkedFour ends marks v = (dart_count ends v ≡ 4) × (is_marked marks v ≡ false)
