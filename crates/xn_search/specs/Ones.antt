-- How many pairs are decided 1 in each of some states.
use Rattle.std.specs.Prelude.{◌≡◌, ℕ, zero, suc, ◌∷◌, ◌++◌, List, [], length}
use Rattle.xn_model.specs.Graph.{Graph}
use Rattle.xn_kinds.specs.State.{State}
use Rattle.xn_kinds.specs.declared.trees.Node.{Node}
use Rattle.xn_kinds.specs.declared.trees.Node.TheVariants.{Pair, Place, Leaf}
use Rattle.xn_effort.specs.Potential.{ones_in}

-- these numbers, that of the first state last
abbrev pub ones_of : Graph → List State → List ℕ
ones_of g [] = []
ones_of g (s ∷ pending) = ones_of g pending ++ ones_in g s ∷ []

-- the last number
abbrev pub EndsWith : List ℕ → ℕ → Type 0
EndsWith numbers n = (rest : List ℕ) × (numbers ≡ rest ++ n ∷ [])

-- the number so many times behind others
abbrev pub with_copies : List ℕ → ℕ → ℕ → List ℕ
with_copies numbers zero n = numbers
with_copies numbers (suc count) n = with_copies numbers count n ++ n ∷ []

-- behind others those of the children of a state with n ones
abbrev pub with_children : List ℕ → ℕ → State → Node → List ℕ
with_children numbers n s (Pair e f) = (numbers ++ suc n ∷ []) ++ n ∷ []
with_children numbers n s (Place e f) = with_copies numbers (suc (length (s.placed e))) n
with_children numbers n s (Leaf d parts) = numbers
