-- Forests of a search in depth, the classes of their nodes, and the classes of segments.
use Rattle.std.specs.Prelude.{◌≡◌, ◌≢◌, ℕ, ◌*◌, ◌<◌, ◌⊎◌, List, length, nat_lt, if◌then◌else◌}
use Rattle.xn_model.specs.Graph.{Graph}
use Rattle.xn_model.specs.Map.{reverse_of, tail_of}
use Rattle.xn_model.specs.Permutation.{Reaches}

-- a is v, or it stands above v: parents lead from v to a
abbrev pub Above : (ℕ → ℕ) → ℕ → ℕ → Type 0
Above parent a v = Reaches parent v a

-- the dart leads from u to v
pub record LeadsBetween (ends : List (ℕ × ℕ)) (d u v : ℕ) : Type 0 where
  pub inside : d < 2 * length ends
  pub from : tail_of ends d ≡ u
  pub to : tail_of ends (reverse_of d) ≡ v

-- some dart leads from u to v
abbrev pub IsLinked : List (ℕ × ℕ) → ℕ → ℕ → Type 0
IsLinked ends u v = (d : ℕ) × LeadsBetween ends d u v

-- of the two nodes one is the other or stands above it
abbrev pub AreComparable : (ℕ → ℕ) → ℕ → ℕ → Type 0
AreComparable parent u v = Above parent u v ⊎ Above parent v u

-- parents are linked and have smaller numbers, where a node isn't its own; of the ends of each segment one stands above the other
pub record IsSearchForest (web : Graph) (parent number : ℕ → ℕ) : Type 0 where
  pub within : (v : ℕ) → v < web.nodes → parent v < web.nodes
  pub linked : (v : ℕ) → v < web.nodes → parent v ≢ v → IsLinked web.ends v (parent v)
  pub earlier : (v : ℕ) → v < web.nodes → parent v ≢ v → number (parent v) < number v
  pub comparable : (d : ℕ) → d < 2 * length web.ends → AreComparable parent (tail_of web.ends d) (tail_of web.ends (reverse_of d))

-- a dart leads from v or below it to a node before the parent of v
pub record PassesParent (web : Graph) (parent number : ℕ → ℕ) (v : ℕ) : Type 0 where
  pub dart : ℕ
  pub inside : dart < 2 * length web.ends
  pub below : Above parent v (tail_of web.ends dart)
  pub before : number (tail_of web.ends (reverse_of dart)) < number (parent v)

-- a node has the class of its parent where a dart passes the parent, else its own
pub record AreNodeClasses (web : Graph) (parent number class : ℕ → ℕ) : Type 0 where
  pub joined : (v : ℕ) → v < web.nodes → parent v ≢ v → PassesParent web parent number v → class v ≡ class (parent v)
  pub cases : (v : ℕ) → v < web.nodes → (class v ≡ v) ⊎ ((parent v ≢ v) × PassesParent web parent number v × (class v ≡ class (parent v)))

-- the end with the greater number
abbrev pub later_end : (ℕ → ℕ) → ℕ × ℕ → ℕ
later_end number p = if nat_lt (number p.0) (number p.1) then p.1 else p.0
