-- The crossings of a state along each of some edges.
use Rattle.std.specs.Prelude.{ℕ, ◌==◌, ◌&&◌, Bool, not, List, ◌++◌, filter, map}
use Rattle.xn_model.specs.Lists.{has}
use Rattle.xn_kinds.specs.State.{State}
use Rattle.xn_effort.specs.Potential.{is_one}
use Rattle.xn_tree.specs.Steps.{value_in}

-- the pair of two edges, in either order, is decided 1
abbrev pub is_planted : State → ℕ → ℕ → Bool
is_planted s e f = not (e == f) && is_one (value_in s e f)

-- besides, the second isn't placed along the first
abbrev pub is_loose_on : State → ℕ → ℕ → Bool
is_loose_on s e f = is_planted s e f && not (has (s.placed e) f)

-- those of the edges that cross e: the placed ones in their order, then the others as they stand
abbrev pub planted_list : State → List ℕ → ℕ → List ℕ
planted_list s edges e = filter (has edges) (s.placed e) ++ filter (is_loose_on s e) edges

-- that for each of the edges
abbrev pub planted_lists : State → List ℕ → List (List ℕ)
planted_lists s edges = map (planted_list s edges) edges
