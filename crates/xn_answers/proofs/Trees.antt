-- The nodes of a proof are in the ranges of an answer's lines.
use Rattle.std.proofs.Common.{ℕ, ◌<◌, ◌≤◌, inl, inr, true, List, [], ◌∷◌, ◌++◌, length, map, arith}
use Rattle.std.specs.Prelude.{All}
use Rattle.std.proofs.lemmas.List.{length-map}
use Rattle.std.proofs.lemmas.List.Elements.{All-append, All-cons, All-head, All-map, All-nil, All-tail}
use Rattle.std.proofs.lemmas.Map.Keys.{sorted_from_strictly_increasing}
use Rattle.std.proofs.lemmas.Map.Views.{length-le_from_below}
use Rattle.xn_model.specs.Graph.{Graph}
use Rattle.xn_kinds.specs.Bound.{PartsFit}
use Rattle.xn_kinds.specs.Laws.{ChildrenAreStates}
use Rattle.xn_kinds.specs.State.{IsState, State}
use Rattle.xn_kinds.specs.Tree.{AreTrees, MayOpen, children}
use Rattle.xn_kinds.specs.declared.rows.Row.{Row}
use Rattle.xn_kinds.specs.declared.trees.Node.{Node}
use Rattle.xn_kinds.specs.declared.trees.Node.TheVariants.{Pair, Place, Leaf}
use Rattle.xn_proof.specs.WellFormed.{IsNodeText}

-- no more parts than rows
parts_few : (count : ℕ) (parts : List (ℕ × ℕ)) → PartsFit count parts → length parts ≤ count
parts_few count parts fit =
    let numbers : List ℕ = map (λ p. p.0) parts in
    let below : All (λ n. n < count) numbers = All-map (λ n. n < count) (λ (p : ℕ × ℕ). p.0) parts fit.below in
    omega (arith, length-map parts (λ (p : ℕ × ℕ). p.0), length-le_from_below count numbers (sorted_from_strictly_increasing numbers fit.rise) below)

module _ (step : ChildrenAreStates) (g : Graph) (k : ℕ) (rows : List Row) (few : length rows ≤ 1048576) where
  node_text : (s : State) (node : Node) → IsState g s → MayOpen g k rows s node → IsNodeText (length g.ends) (length rows) node
  node_text s (Pair e f) is keeps = (omega (arith, keeps.0, keeps.1), keeps.1)
  node_text s (Place e f) is keeps = elim keeps.0 [
    | inl told ↦ (omega (arith, is.rises e f true told, is.below e f true told), is.below e f true told)
    | inr told ↦ (is.below f e true told, omega (arith, is.rises f e true told, is.below f e true told))
  ]
  node_text s (Leaf d parts) is keeps = (
    (keeps.0, keeps.1),
    omega (arith, few, parts_few (length rows) parts keeps.2),
    λ i p low. (keeps.2.below i p low, keeps.2.multipliers i p low),
  )

  pub tree_text : (nodes : List Node) (pending : List State) → All (IsState g) pending → AreTrees (MayOpen g k rows) children pending nodes →
      All (IsNodeText (length g.ends) (length rows)) nodes
  tree_text [] pending states trees = All-nil (IsNodeText (length g.ends) (length rows))
  tree_text (node ∷ nodes) [] states trees = absurd trees
  tree_text (node ∷ nodes) (s ∷ pending) states trees =
      let is = All-head (IsState g) s pending states in
      let next = All-append (IsState g) (children s node) pending (step g k rows s node is trees.0) (All-tail (IsState g) s pending states) in
      All-cons (IsNodeText (length g.ends) (length rows)) node nodes (node_text s node is trees.0) (tree_text nodes (children s node ++ pending) next trees.1)
