-- Nodes that are opened one after another, and the states that are pending after them.
use Rattle.std.specs.Prelude.{◌≡◌, ℕ, List, [], ◌∷◌, ◌++◌}
use Rattle.xn_model.specs.Graph.{Graph}
use Rattle.xn_kinds.specs.State.{State, empty_state}
use Rattle.xn_kinds.specs.Tree.{MayOpen, children}
use Rattle.xn_kinds.specs.declared.rows.Row.{Row}
use Rattle.xn_kinds.specs.declared.trees.Node.{Node}
use Rattle.xn_effort.specs.Potential.{IsSearched}

-- the nodes lead from the pending states to those that are left
abbrev pub LeadOn : {S N : Type 0} → (S → N → Type 0) → (S → N → List S) → List S → List N → List S → Type 0
LeadOn keeps children pending [] left = pending ≡ left
LeadOn keeps children [] (node ∷ nodes) left = ⊥
LeadOn keeps children (s ∷ pending) (node ∷ nodes) left = keeps s node × LeadOn keeps children (children s node ++ pending) nodes left

-- the node keeps its rule in a proof of t, and its state has fewer ones where it isn't a leaf
abbrev pub Searches : Graph → ℕ → List Row → State → Node → Type 0
Searches g t rows s node = MayOpen g t rows s node × IsSearched g t s node

-- the nodes that round t opened, from the empty state on
abbrev pub HasOpened : Graph → ℕ → List Row → List Node → List State → Type 0
HasOpened g t rows nodes left = LeadOn (Searches g t rows) children (empty_state ∷ []) nodes left
