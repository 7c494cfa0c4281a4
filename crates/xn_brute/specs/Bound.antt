-- The bound of a leaf in a state that is given.
use Rattle.std.specs.Prelude.{ℤ}
use Rattle.xn_kinds.specs.Bound.{IsBound}
use Rattle.xn_brute.specs.Known.{state_of}
use Rattle.xn_brute.specs.declared.known.Given.{Given}
use Rattle.xn_brute.specs.declared.leaves.Leaf.{Leaf}

-- b is the bound of the leaf in the state that is given
abbrev pub IsBoundIn : Given → Leaf → ℤ → Type 0
IsBoundIn given leaf b = IsBound leaf.graph.now leaf.rows.now (state_of given) leaf.d leaf.parts.now b
