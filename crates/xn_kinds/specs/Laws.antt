-- What the words on states, boxes, bounds and trees mean, as laws.
use Rattle.std.specs.Prelude.{◌≡◌, ℕ, ◌<◌, ◌≤◌, ◌^◌, ◌↔◌, ℤ, List, [], ◌∷◌, length, All}
use Rattle.xn_model.specs.Graph.{Graph}
use Rattle.xn_kinds.specs.Bound.{IsBound, IsStrong, PartsFit}
use Rattle.xn_kinds.specs.Row.{values_in}
use Rattle.xn_kinds.specs.State.{State, InBox, IsState, LiesIn, empty_state}
use Rattle.xn_kinds.specs.Tree.{MayOpen, Proves, children}
use Rattle.xn_kinds.specs.declared.rows.Row.{Row}
use Rattle.xn_kinds.specs.declared.trees.Node.{Node}
use Rattle.xn_kinds.specs.declared.trees.Node.TheVariants.{Leaf}

-- the values of orders that lie in a state are in its box
abbrev pub ValuesAreInTheBox : Type 0
ValuesAreInTheBox = (ord : ℕ → List ℕ) (s : State) → LiesIn ord s → InBox s (values_in ord)

-- all orders lie in the empty state
abbrev pub AllLieInEmpty : Type 0
AllLieInEmpty = (ord : ℕ → List ℕ) → LiesIn ord empty_state

-- a leaf has one bound
abbrev pub OneBound : Type 0
OneBound = (g : Graph) (rows : List Row) (s : State) (d : ℕ) (parts : List (ℕ × ℕ)) (a b : ℤ) →
    IsBound g rows s d parts a → IsBound g rows s d parts b → a ≡ b

-- a tree of one leaf proves k exactly where its bound is above d * (k - 1), and its numbers are in range
abbrev pub LeafAlone : Type 0
LeafAlone = (g : Graph) (k : ℕ) (rows : List Row) (s : State) (d : ℕ) (parts : List (ℕ × ℕ)) →
    Proves g k rows s (Leaf d parts ∷ []) ↔ ((1 ≤ d) × (d < 2 ^ 63) × PartsFit (length rows) parts × IsStrong g k rows s d parts)

-- the empty state is a state of each graph
abbrev pub EmptyIsState : Type 0
EmptyIsState = (g : Graph) → IsState g empty_state

-- the children of a node that keeps its rule have states of the graph
abbrev pub ChildrenAreStates : Type 0
ChildrenAreStates = (g : Graph) (k : ℕ) (rows : List Row) (s : State) (node : Node) →
    IsState g s → MayOpen g k rows s node → All (IsState g) (children s node)
