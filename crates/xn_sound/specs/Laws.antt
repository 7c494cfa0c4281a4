-- What rows and proof trees show of every simple drawing, and proofs of every drawing.
use Rattle.std.specs.Prelude.{◌≡◌, ℕ, ◌<◌, ◌≤◌, List, length, slice_index_or, All}
use Rattle.xn_model.specs.Drawing.{IsAtLeast, IsCrossingNumber, IsSimpleDrawing}
use Rattle.xn_model.specs.Examples.{k33, k5}
use Rattle.xn_model.specs.Graph.{Graph, IsGraph, edges_of}
use Rattle.xn_model.specs.Map.{IsFlat}
use Rattle.xn_model.specs.Orders.{IsOrders, crossing_count}
use Rattle.xn_fewer.specs.Laws.{RestrictsOrders}
use Rattle.xn_kinds.specs.Examples.{k5_and_two}
use Rattle.xn_kinds.specs.Row.{EvidenceHolds, RowHolds, orders_of, value_of, values_in}
use Rattle.xn_kinds.specs.State.{State, LiesIn, empty_state}
use Rattle.xn_kinds.specs.Tree.{Accepts, MayOpen, Proves, children}
use Rattle.xn_kinds.specs.declared.rows.Evidence.{Evidence}
use Rattle.xn_kinds.specs.declared.rows.Row.{Row}
use Rattle.xn_kinds.specs.declared.trees.Node.{Node}
use Rattle.xn_kinds.specs.declared.trees.Node.TheVariants.{Pair, Place, Leaf}

-- ---- rows

-- where a row's value in orders of the graph is 0, its own orders are those on its edges
abbrev pub ZeroMeansTheRowsOrders : Type 0
ZeroMeansTheRowsOrders =
    (g : Graph) (row : Row) (ord : ℕ → List ℕ) → IsOrders g.ends row.edges (orders_of row) → IsOrders g.ends (edges_of g) ord →
    value_of g row (values_in ord) ≡ 0 → RestrictsOrders (edges_of g) row.edges ord (orders_of row)

-- a web for which an evidence of any kind holds has no flat map
abbrev pub EvidenceExcludesFlatMaps : Type 0
EvidenceExcludesFlatMaps = (web : Graph) (evidence : Evidence) → EvidenceHolds web evidence → (next : ℕ → ℕ) → ¬ IsFlat web next

-- in every simple drawing the value of the row is at least 1
abbrev pub IsMet : Graph → Row → Type 0
IsMet g row = (ord : ℕ → List ℕ) (next : ℕ → ℕ) → IsSimpleDrawing g ord next → 1 ≤ value_of g row (values_in ord)

-- a row that holds is met by every simple drawing
abbrev pub RowsAreMet : Type 0
RowsAreMet = (g : Graph) (row : Row) → IsGraph g → RowHolds g row → IsMet g row

-- ---- trees

-- the node has children
abbrev pub IsInner : Node → Type 0
IsInner (Pair e f) = Unit {0}
IsInner (Place e f) = Unit {0}
IsInner (Leaf d parts) = ⊥

-- the orders lie in one of the states
abbrev pub LiesInOne : (ℕ → List ℕ) → List State → Type 0
LiesInOne ord states = (i : ℕ) × (i < length states) × LiesIn ord (slice_index_or states i empty_state)

-- a simple drawing that lies in the state of a node lies in that of a child
abbrev pub DrawingsLieInChildren : Type 0
DrawingsLieInChildren =
    (g : Graph) (k : ℕ) (rows : List Row) (s : State) (node : Node) → MayOpen g k rows s node → IsInner node →
    (ord : ℕ → List ℕ) (next : ℕ → ℕ) → IsSimpleDrawing g ord next → LiesIn ord s → LiesInOne ord (children s node)

-- in a leaf's state it has k crossings
abbrev pub LeavesHaveCrossings : Type 0
LeavesHaveCrossings =
    (g : Graph) (k : ℕ) (rows : List Row) (s : State) (d : ℕ) (parts : List (ℕ × ℕ)) → All (IsMet g) rows → MayOpen g k rows s (Leaf d parts) →
    (ord : ℕ → List ℕ) (next : ℕ → ℕ) → IsSimpleDrawing g ord next → LiesIn ord s → k ≤ crossing_count g ord

-- so in the state from which a tree proves k it has k crossings
abbrev pub TreesProve : Type 0
TreesProve =
    (g : Graph) (k : ℕ) (rows : List Row) (s : State) (nodes : List Node) → All (IsMet g) rows → Proves g k rows s nodes →
    (ord : ℕ → List ℕ) (next : ℕ → ℕ) → IsSimpleDrawing g ord next → LiesIn ord s → k ≤ crossing_count g ord

-- ---- proofs

-- a proof that is accepted shows that every drawing, simple or not, has k crossings
abbrev pub AcceptedProofsBound : Type 0
AcceptedProofsBound = (g : Graph) (k : ℕ) (rows : List Row) (nodes : List Node) → IsGraph g → Accepts g k rows nodes → IsAtLeast g k

-- so one row shows that K5 has a crossing, and a tree that branches shows it of K5 with two edges apart from it
pub record ExamplesAreBounded : Type 0 where
  pub k5_crosses : IsAtLeast k5 1
  pub far_edges : IsAtLeast k5_and_two 1

-- by their evidence K5 and K3,3 have no drawing without crossings, and the crossing number of K5 is one
pub record KuratowskiGraphsCross : Type 0 where
  pub k33_crosses : IsAtLeast k33 1
  pub k5_number : IsCrossingNumber k5 1
