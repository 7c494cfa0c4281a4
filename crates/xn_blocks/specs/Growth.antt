-- A forest of a search in depth as it grows, over the lists that hold it.
use Rattle.std.specs.Prelude.{◌≡◌, ◌≢◌, ℕ, zero, suc, ◌+◌, ◌-◌, ◌*◌, ◌<◌, ◌≤◌, ◌⊎◌, Option, Some, None, List, [], ◌∷◌, ◌++◌, length, set}
use Rattle.xn_model.specs.Graph.{EndsIn, Graph}
use Rattle.xn_model.specs.Lists.{at}
use Rattle.xn_model.specs.Map.{reverse_of, tail_of}
use Rattle.xn_graph.specs.Stars.{darts_of}
use Rattle.xn_blocks.specs.Search.{Above, AreComparable, IsLinked}
use Rattle.xn_blocks.specs.declared.forest.Forest.{Forest}

-- of each node its parent, its place among the found nodes, and how many of its darts were tried; and the found nodes
pub record Lists : Type 0 where
  pub parent : List ℕ
  pub number : List ℕ
  pub order : List ℕ
  pub next : List ℕ

-- the node has a place
abbrev pub IsFound : Graph → Lists → ℕ → Type 0
IsFound web s v = (v < web.nodes) × (at s.number v < web.nodes)

-- the node at the far end of dart i of v
abbrev pub far_end_at : Graph → ℕ → ℕ → ℕ
far_end_at web v i = tail_of web.ends (reverse_of (at (darts_of web.ends v) i))

-- the found nodes have their places, with parents that are found, linked and earlier; the far ends of tried darts are found and comparable
pub record AreFound (web : Graph) (s : Lists) : Type 0 where
  pub parents : length s.parent ≡ web.nodes
  pub numbers : length s.number ≡ web.nodes
  pub nexts : length s.next ≡ web.nodes
  pub placed : (i : ℕ) → i < length s.order → (at s.order i < web.nodes) × (at s.number (at s.order i) ≡ i)
  pub listed : (v : ℕ) → IsFound web s v → (at s.number v < length s.order) × (at s.order (at s.number v) ≡ v)
  pub parent_found : (v : ℕ) → IsFound web s v → IsFound web s (at s.parent v)
  pub linked : (v : ℕ) → IsFound web s v → at s.parent v ≢ v → IsLinked web.ends v (at s.parent v)
  pub earlier : (v : ℕ) → IsFound web s v → at s.parent v ≢ v → at s.number (at s.parent v) < at s.number v
  pub tried : (v : ℕ) → v < web.nodes → at s.next v ≤ length (darts_of web.ends v)
  pub untried : (v : ℕ) → v < web.nodes → web.nodes ≤ at s.number v → at s.next v ≡ 0
  pub compared : (v i : ℕ) → IsFound web s v → i < at s.next v →
      IsFound web s (far_end_at web v i) × AreComparable (at s.parent) v (far_end_at web v i)

-- all darts of v were tried
abbrev pub IsDone : Graph → Lists → ℕ → Type 0
IsDone web s v = at s.next v ≡ length (darts_of web.ends v)

-- all found nodes are done
abbrev pub AllDone : Graph → Lists → Type 0
AllDone web s = (u : ℕ) → IsFound web s u → IsDone web s u

-- the search stands at v: a found node that isn't done is v or above it
pub record IsAt (web : Graph) (s : Lists) (v : ℕ) : Type 0 where
  pub found : AreFound web s
  pub here : IsFound web s v
  pub rest : (u : ℕ) → IsFound web s u → IsDone web s u ⊎ Above (at s.parent) u v

-- what was found stays so
abbrev pub KeepsFound : Graph → Lists → Lists → Type 0
KeepsFound web s t = (u : ℕ) → IsFound web s u → IsFound web t u

-- f summed over the numbers below n
abbrev pub sum_below : ℕ → (ℕ → ℕ) → ℕ
sum_below zero f = 0
sum_below (suc n) f = sum_below n f + f n

-- what is left of the search at v: darts to try, and nodes to go back to
abbrev pub work_left : Graph → Lists → ℕ → ℕ
work_left web s v = (web.nodes + 1) * sum_below web.nodes (λ u. length (darts_of web.ends u) - at s.next u) + at s.number v

-- all is done, and what was found stays so
pub record IsOver (web : Graph) (s t : Lists) : Type 0 where
  pub found : AreFound web t
  pub done : AllDone web t
  pub keeps : KeepsFound web s t

-- what is left of a search that may be over
abbrev pub still_left : Graph → Lists → Option ℕ → ℕ
still_left web s None = 0
still_left web s (Some v) = work_left web s v + 1

-- the search goes on at w, with less left
pub record GoesOnAt (web : Graph) (s t : Lists) (v w : ℕ) : Type 0 where
  pub at_w : IsAt web t w
  pub keeps : KeepsFound web s t
  pub less : work_left web t w < work_left web s v

-- the search ended, or goes on at a node
abbrev pub GoesOn : Graph → Lists → Lists → ℕ → Option ℕ → Type 0
GoesOn web s t v None = IsOver web s t
GoesOn web s t v (Some w) = GoesOnAt web s t v w

-- the search from a root ended, which is found then
pub record Explores (web : Graph) (s t : Lists) (root : ℕ) : Type 0 where
  pub over : IsOver web s t
  pub root_found : IsFound web t root

-- what was found stays so, and the root among it
pub record KeepsWith (web : Graph) (s t : Lists) (root : ℕ) : Type 0 where
  pub keeps : KeepsFound web s t
  pub root_found : IsFound web t root

-- the search from a root ended, or stands at a node
abbrev pub Exploring : Graph → Lists → Lists → ℕ → Option ℕ → Type 0
Exploring web s t root None = Explores web s t root
Exploring web s t root (Some v) = IsAt web t v × KeepsWith web s t root

-- no node is found yet
pub record HasNone (web : Graph) (s : Lists) : Type 0 where
  pub parents : length s.parent ≡ web.nodes
  pub numbers : length s.number ≡ web.nodes
  pub nexts : length s.next ≡ web.nodes
  pub order : s.order ≡ []
  pub none : (v : ℕ) → v < web.nodes → at s.number v ≡ web.nodes
  pub untried : (v : ℕ) → v < web.nodes → at s.next v ≡ 0

-- the search has come to its end
pub record IsWhole (web : Graph) (s : Lists) : Type 0 where
  pub ends_in : EndsIn web.nodes web.ends
  pub found : AreFound web s
  pub done : AllDone web s
  pub all : (v : ℕ) → v < web.nodes → IsFound web s v

-- w is found next, with this parent
abbrev pub with_node : Lists → ℕ → ℕ → Lists
with_node s w p = record { parent = set s.parent w p; number = set s.number w (length s.order); order = s.order ++ w ∷ []; next = s.next }

-- one more dart of v was tried
abbrev pub with_dart : Lists → ℕ → Lists
with_dart s v = record { parent = s.parent; number = s.number; order = s.order; next = set s.next v (at s.next v + 1) }

abbrev pub lists_in : Forest → Lists
lists_in forest = record { parent = forest.parent.items; number = forest.number.items; order = forest.order.items; next = forest.next.items }
