-- Low points of a forest of a search, and the classes that they give.
use Rattle.std.specs.Prelude.{◌≡◌, ◌≢◌, ℕ, ◌+◌, ◌*◌, ◌<◌, ◌≤◌, ◌⊎◌, ◌↔◌, List, length, min, set}
use Rattle.xn_model.specs.Cycles.{AreInOneBlock}
use Rattle.xn_model.specs.Graph.{Graph, ends_at}
use Rattle.xn_model.specs.Lists.{at}
use Rattle.xn_model.specs.Map.{reverse_of, tail_of}
use Rattle.xn_blocks.specs.Growth.{IsWhole, Lists}
use Rattle.xn_blocks.specs.Search.{Above, later_end}

-- a dart leads from v or below it to a node whose number is at most l
pub record GoesDownTo (web : Graph) (s : Lists) (v l : ℕ) : Type 0 where
  pub dart : ℕ
  pub inside : dart < 2 * length web.ends
  pub below : Above (at s.parent) v (tail_of web.ends dart)
  pub low : at s.number (tail_of web.ends (reverse_of dart)) ≤ l

-- what is noted of a node is its number at least, or some dart goes down to it; of the first n darts none goes below it
pub record AreNoted (web : Graph) (s : Lists) (n : ℕ) (low : List ℕ) : Type 0 where
  pub size : length low ≡ web.nodes
  pub met : (v : ℕ) → v < web.nodes → (at s.number v ≤ at low v) ⊎ GoesDownTo web s v (at low v)
  pub near : (d : ℕ) → d < n → at low (tail_of web.ends d) ≤ at s.number (tail_of web.ends (reverse_of d))

-- the least numbers to which darts lead from each node or below it, where they are less than its own
pub record AreLowPoints (web : Graph) (s : Lists) (low : List ℕ) : Type 0 where
  pub size : length low ≡ web.nodes
  pub met : (v : ℕ) → v < web.nodes → (at s.number v ≤ at low v) ⊎ GoesDownTo web s v (at low v)
  pub least : (v d : ℕ) → v < web.nodes → d < 2 * length web.ends → Above (at s.parent) v (tail_of web.ends d)
      → at low v ≤ at s.number (tail_of web.ends (reverse_of d))

-- the search of some web has come to its end
abbrev pub IsSomeWhole : Lists → Type 0
IsSomeWhole s = (web : Graph) × IsWhole web s

-- the least of x and what is noted of v
abbrev pub lowered : List ℕ → ℕ → ℕ → List ℕ
lowered low v x = set low v (min (at low v) x)

-- the last k nodes have handed what is noted of them to their parents: new notes are old ones of nodes below
pub record AreHandedUp (s : Lists) (k : ℕ) (old new : List ℕ) : Type 0 where
  pub size : length new ≡ length old
  pub less : (v : ℕ) → v < length old → at new v ≤ at old v
  pub from : (v : ℕ) → v < length old → (u : ℕ) × (u < length old) × Above (at s.parent) v u × (at new v ≡ at old u)
  pub handed : (v : ℕ) → v < length old → length s.order ≤ at s.number v + k → at new (at s.parent v) ≤ at new v

-- k is the class of v: that of its parent where its low point is before it, else its own
abbrev pub IsClassAt : Lists → List ℕ → List ℕ → ℕ → ℕ → Type 0
IsClassAt s low class v k =
    ((at s.parent v ≢ v) × (at low v < at s.number (at s.parent v)) × (k ≡ at class (at s.parent v)))
    ⊎ (((at s.parent v ≡ v) ⊎ (at s.number (at s.parent v) ≤ at low v)) × (k ≡ v))

-- the first i nodes have their classes
pub record AreClassed (s : Lists) (low : List ℕ) (i : ℕ) (class : List ℕ) : Type 0 where
  pub size : length class ≡ length s.parent
  pub below : (v : ℕ) → v < length s.parent → at class v < length s.parent
  pub classed : (v : ℕ) → v < length s.parent → at s.number v < i → IsClassAt s low class v (at class v)

-- all nodes have
abbrev pub AreAllClassed : Lists → List ℕ → List ℕ → Type 0
AreAllClassed s low class = AreClassed s low (length s.order) class

-- the first n segments have the classes of their later ends
pub record HaveClasses (web : Graph) (number class : List ℕ) (n : ℕ) (keys : List ℕ) : Type 0 where
  pub size : length keys ≡ n
  pub key : (s : ℕ) → s < n → at keys s ≡ at class (later_end (at number) (ends_at web.ends s))

-- two segments have one key exactly where they are in one block; keys are nodes
pub record NameBlocks (web : Graph) (keys : List ℕ) : Type 0 where
  pub size : length keys ≡ length web.ends
  pub below : (s : ℕ) → s < length web.ends → at keys s < web.nodes
  pub one_block : (s t : ℕ) → s < length web.ends → t < length web.ends → (at keys s ≡ at keys t) ↔ AreInOneBlock web.ends s t
