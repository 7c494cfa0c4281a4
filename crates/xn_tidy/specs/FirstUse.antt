-- Rows in the order in which the leaves of a tree name them first.
use Rattle.std.specs.Prelude.{◌≡◌, ◌⊎◌, ℕ, suc, ◌<◌, ◌≤◌, List, [], ◌∷◌, ◌++◌, length, map, All}
use Rattle.xn_model.specs.Graph.{Graph}
use Rattle.xn_kinds.specs.Bound.{row_at}
use Rattle.xn_kinds.specs.State.{empty_state}
use Rattle.xn_kinds.specs.Tree.{Accepts, Proves}
use Rattle.xn_kinds.specs.declared.rows.Row.{Row}
use Rattle.xn_kinds.specs.declared.trees.Node.{Node}
use Rattle.xn_kinds.specs.declared.trees.Node.TheVariants.{Pair, Place, Leaf}
use Rattle.xn_tidy.specs.declared.tidying.Proof.{Proof}

-- the rows that a node names
abbrev pub uses_in : Node → List ℕ
uses_in (Pair e f) = []
uses_in (Place e f) = []
uses_in (Leaf d parts) = map (λ p. p.0) parts

-- the rows that the nodes of a tree name, in order
abbrev pub uses_of : List Node → List ℕ
uses_of [] = []
uses_of (node ∷ nodes) = uses_in node ++ uses_of nodes

-- each number stands below count already or is the next one, which is counted then; in the end there are all
abbrev pub CountUp : ℕ → List ℕ → ℕ → Type 0
CountUp count [] all = count ≡ all
CountUp count (i ∷ uses) all = ((i < count) × CountUp count uses all) ⊎ ((i ≡ count) × CountUp (suc count) uses all)

-- the leaves name each row, and each new one by the next number
abbrev pub ByFirstUse : List Row → List Node → Type 0
ByFirstUse rows nodes = CountUp 0 (uses_of nodes) (length rows)

-- the tree proves something over the rows
abbrev pub IsSomeProof : List Row → List Node → Type 0
IsSomeProof rows nodes = (g : Graph) × (k : ℕ) × Proves g k rows empty_state nodes

-- the same proof, with the rows that it names by first use; they are those of some numbers
pub record IsTidied (rows : List Row) (nodes : List Node) (p : Proof) : Type 0 where
  pub accepted : (g : Graph) (k : ℕ) → Accepts g k rows nodes → Accepts g k p.rows p.tree
  pub first_use : ByFirstUse p.rows p.tree
  pub as_long : length p.tree ≡ length nodes
  pub no_more : length p.rows ≤ length rows
  pub numbers : List ℕ
  pub below : All (λ i. i < length rows) numbers
  pub picked : p.rows ≡ map (row_at rows) numbers
