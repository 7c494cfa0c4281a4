-- Proof trees in preorder, judged from a state.
use Rattle.std.specs.Prelude.{◌≡◌, ℕ, suc, ◌<◌, ◌≤◌, ◌^◌, true, false, List, [], ◌∷◌, ◌++◌, None, length, map, All}
use Rattle.std.specs.List.{range_with_len}
use Rattle.xn_model.specs.Graph.{Graph, Independent}
use Rattle.xn_model.specs.Lists.{has}
use Rattle.xn_kinds.specs.Bound.{IsStrong, PartsFit}
use Rattle.xn_kinds.specs.Row.{RowHolds}
use Rattle.xn_kinds.specs.State.{State, Crosses, decide, empty_state, place}
use Rattle.xn_kinds.specs.declared.rows.Row.{Row}
use Rattle.xn_kinds.specs.declared.trees.Node.{Node}
use Rattle.xn_kinds.specs.declared.trees.Node.TheVariants.{Pair, Place, Leaf}

-- the nodes are one tree for each pending state, in order
abbrev pub AreTrees : {S N : Type 0} → (S → N → Type 0) → (S → N → List S) → List S → List N → Type 0
AreTrees keeps children [] [] = Unit {0}
AreTrees keeps children [] (node ∷ nodes) = ⊥
AreTrees keeps children (s ∷ pending) [] = ⊥
AreTrees keeps children (s ∷ pending) (node ∷ nodes) = keeps s node × AreTrees keeps children (children s node ++ pending) nodes

-- the nodes begin such trees, and more nodes are owed
abbrev pub BeginTrees : {S N : Type 0} → (S → N → Type 0) → (S → N → List S) → List S → List N → Type 0
BeginTrees keeps children [] nodes = ⊥
BeginTrees keeps children (s ∷ pending) [] = Unit {0}
BeginTrees keeps children (s ∷ pending) (node ∷ nodes) = keeps s node × BeginTrees keeps children (children s node ++ pending) nodes

-- the node fits the state: its pair is an undecided one of independent edges, the smaller first, or the edge that it places is
-- decided to cross the other and isn't placed along it; what a leaf says of its bound is left aside
abbrev pub Fits : Graph → State → Node → Type 0
Fits g s (Pair e f) = (e < f) × (f < length g.ends) × Independent g.ends e f × (s.decided e f ≡ None)
Fits g s (Place e f) = Crosses s e f × (has (s.placed e) f ≡ false)
Fits g s (Leaf d parts) = Unit {0}

-- the node may stand in a proof of k, in its state: it fits, and the bound of a leaf is above d * (k - 1)
abbrev pub MayOpen : Graph → ℕ → List Row → State → Node → Type 0
MayOpen g k rows s (Pair e f) = Fits g s (Pair e f)
MayOpen g k rows s (Place e f) = Fits g s (Place e f)
MayOpen g k rows s (Leaf d parts) = (1 ≤ d) × (d < 2 ^ 63) × PartsFit (length rows) parts × IsStrong g k rows s d parts

-- the states of the children of a node
abbrev pub children : State → Node → List State
children s (Pair e f) = decide s e f false ∷ decide s e f true ∷ []
children s (Place e f) = map (place s e f) (range_with_len 0 (suc (length (s.placed e))))
children s (Leaf d parts) = []

-- the nodes prove k from a state
abbrev pub Proves : Graph → ℕ → List Row → State → List Node → Type 0
Proves g k rows s nodes = AreTrees (MayOpen g k rows) children (s ∷ []) nodes

-- the nodes begin trees that prove k from the pending states
abbrev pub Begins : Graph → ℕ → List Row → List State → List Node → Type 0
Begins g k rows pending nodes = BeginTrees (MayOpen g k rows) children pending nodes

-- the nodes begin a proof of k
abbrev pub BeginsProof : Graph → ℕ → List Row → List Node → Type 0
BeginsProof g k rows nodes = Begins g k rows (empty_state ∷ []) nodes

-- each row holds, and the tree proves k
pub record Accepts (g : Graph) (k : ℕ) (rows : List Row) (nodes : List Node) : Type 0 where
  pub rows_hold : All (RowHolds g) rows
  pub tree : Proves g k rows empty_state nodes
