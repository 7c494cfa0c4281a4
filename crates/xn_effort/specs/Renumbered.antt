-- Trees whose rows have other numbers.
use Rattle.std.specs.Prelude.{◌≡◌, ℕ, ◌<◌, List, [], ◌∷◌, length, map, All, IsPermutation}
use Rattle.std.specs.List.Sorted.{IsStrictlyIncreasing}
use Rattle.xn_model.specs.Graph.{Graph}
use Rattle.xn_kinds.specs.Bound.{row_at}
use Rattle.xn_kinds.specs.State.{State}
use Rattle.xn_kinds.specs.Tree.{Proves}
use Rattle.xn_kinds.specs.declared.rows.Row.{Row}
use Rattle.xn_kinds.specs.declared.trees.Node.{Node}
use Rattle.xn_kinds.specs.declared.trees.Node.TheVariants.{Pair, Place, Leaf}

-- the row of a part has another number among other rows
abbrev pub IsNamed : List Row → List Row → (ℕ → ℕ) → ℕ × ℕ → Type 0
IsNamed rows others name p = (name p.0 < length others) × (row_at others (name p.0) ≡ row_at rows p.0)

-- the node with these numbers, the parts of a leaf sorted by them
abbrev pub HasOtherNumbers : List Row → List Row → (ℕ → ℕ) → Node → Node → Type 0
HasOtherNumbers rows others name (Pair e f) node = node ≡ Pair e f
HasOtherNumbers rows others name (Place e f) node = node ≡ Place e f
HasOtherNumbers rows others name (Leaf d parts) node =
    (sorted : List (ℕ × ℕ)) × (node ≡ Leaf d sorted) × All (IsNamed rows others name) parts
    × IsPermutation (map (λ p. (name p.0, p.1)) parts) sorted × IsStrictlyIncreasing (map (λ p. p.0) sorted)

-- node by node
abbrev pub HaveOtherNumbers : List Row → List Row → (ℕ → ℕ) → List Node → List Node → Type 0
HaveOtherNumbers rows others name [] [] = Unit {0}
HaveOtherNumbers rows others name [] (x ∷ xs) = ⊥
HaveOtherNumbers rows others name (node ∷ nodes) [] = ⊥
HaveOtherNumbers rows others name (node ∷ nodes) (x ∷ xs) = HasOtherNumbers rows others name node x × HaveOtherNumbers rows others name nodes xs

-- a tree with other numbers proves the same
abbrev pub RenumberedTreesProve : Type 0
RenumberedTreesProve =
    (g : Graph) (k : ℕ) (rows others : List Row) (name : ℕ → ℕ) (s : State) (nodes others_nodes : List Node) →
    HaveOtherNumbers rows others name nodes others_nodes → Proves g k rows s nodes → Proves g k others s others_nodes
