-- What the search for drawings looks for, and finds.
use Rattle.std.specs.Prelude.{◌≡◌, ℕ, ◌+◌, ◌≤◌, ◌<◌, ◌==◌, ◌&&◌, Bool, true, false, not, Option, Some, None, List, ◌∷◌, ◌++◌, length}
use Rattle.xn_model.specs.Drawing.{IsAtMost, IsCrossingNumber, IsListedDrawing, IsAtLeast, drawn_web, order_of}
use Rattle.xn_model.specs.Graph.{Graph, edges_of}
use Rattle.xn_model.specs.Lists.{has, total}
use Rattle.xn_model.specs.Map.{tail_of}
use Rattle.xn_model.specs.Orders.{crossing_count}
use Rattle.xn_brute.specs.Drawings.{AreShort}
use Rattle.xn_brute.specs.declared.rotations.Trial.{Trial}
use Rattle.xn_brute.specs.declared.searches.Search.{Search}

-- true where some drawing has at most k crossings, false where each has more
abbrev pub SaysWithin : Graph → ℕ → Bool → Type 0
SaysWithin g k true = IsAtMost g k
SaysWithin g k false = IsAtLeast g (k + 1)

-- the crossing number, or none where it isn't below the bound
abbrev pub FindsBelow : Graph → ℕ → Option ℕ → Type 0
FindsBelow g bound None = IsAtLeast g bound
FindsBelow g bound (Some k) = (k < bound) × IsCrossingNumber g k

-- the lists are the orders of a drawing with at most k crossings
pub record AreDrawn (g : Graph) (k : ℕ) (lists : List (List ℕ)) : Type 0 where
  pub next : List ℕ
  pub drawing : IsListedDrawing g lists next
  pub few : crossing_count g (order_of g lists) ≤ k

-- ---- rotations

-- the edges are those of the graph, and the ends are those of its planarised graph
pub record IsTrial (trial : Trial) : Type 0 where
  pub short : AreShort trial.orders.now
  pub edges : trial.edges.now ≡ edges_of trial.graph.now
  pub few_edges : length trial.edges.now ≤ 1000
  pub ends : trial.ends.now ≡ (drawn_web trial.graph.now trial.orders.now).ends
  pub few_ends : length trial.ends.now ≤ 1001000

-- the next turn may lead to d: it is at the same node, and no turn leads to it yet
abbrev pub may_lead : List (ℕ × ℕ) → List ℕ → ℕ → Bool
may_lead ends turns d = (tail_of ends d == tail_of ends (length turns)) && not (has turns d)

-- some turns after these make a rotation of a drawing with the orders
pub record CanTurn (g : Graph) (lists : List (List ℕ)) (turns : List ℕ) : Type 0 where
  pub rest : List ℕ
  pub drawing : IsListedDrawing g lists (turns ++ rest)

-- these turns make a drawing with the orders that are tried
abbrev pub IsRotation : Trial → List ℕ → Type 0
IsRotation trial turns = IsListedDrawing trial.graph.now trial.orders.now turns

-- some turns after these make such a drawing
abbrev pub BeginsRotation : Trial → List ℕ → Type 0
BeginsRotation trial turns = CanTurn trial.graph.now trial.orders.now turns

-- ---- orders

-- some lists after these, with at most so many entries, make orders of a drawing
pub record CanList (g : Graph) (k left : ℕ) (lists : List (List ℕ)) : Type 0 where
  pub rest : List (List ℕ)
  pub few : total length rest ≤ left
  pub drawn : AreDrawn g k (lists ++ rest)

-- the same, where the list after these begins with some entries
pub record CanCross (g : Graph) (k left : ℕ) (lists : List (List ℕ)) (list : List ℕ) : Type 0 where
  pub more : List ℕ
  pub rest : List (List ℕ)
  pub few : length more + total length rest ≤ left
  pub drawn : AreDrawn g k (lists ++ (list ++ more) ∷ rest)

-- these lists begin the orders of a drawing that is searched for
abbrev pub BeginOrders : Search → ℕ → List (List ℕ) → Type 0
BeginOrders search left lists = CanList search.graph.now search.most left lists

-- the same, where the list after these begins with some entries
abbrev pub BeginsList : Search → ℕ → List (List ℕ) → List ℕ → Type 0
BeginsList search left lists list = CanCross search.graph.now search.most left lists list
