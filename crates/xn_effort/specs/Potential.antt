-- The potential of a state: how many nodes a search may open at most from there on.
use Rattle.std.specs.Prelude.{ℕ, ◌+◌, ◌-◌, ◌*◌, ◌^◌, ◌<◌, Bool, false, not, Option, Some, None, is_none, if◌then◌else◌}
use Rattle.xn_model.specs.Graph.{Graph, edges_of, pairs_of}
use Rattle.xn_model.specs.Lists.{has, one_if, total}
use Rattle.xn_kinds.specs.State.{State}
use Rattle.xn_kinds.specs.declared.trees.Node.{Node}
use Rattle.xn_kinds.specs.declared.trees.Node.TheVariants.{Pair, Place, Leaf}

-- the pair is decided 1
abbrev pub is_one : Option Bool → Bool
is_one None = false
is_one (Some x) = x

-- the number of pairs that are undecided
abbrev pub undecided_in : Graph → State → ℕ
undecided_in g s = total (λ p. one_if (is_none (s.decided p.0 p.1))) (pairs_of g.ends (edges_of g))

-- the number of pairs that are decided 1
abbrev pub ones_in : Graph → State → ℕ
ones_in g s = total (λ p. one_if (is_one (s.decided p.0 p.1))) (pairs_of g.ends (edges_of g))

-- on how many of its two edges a pair that is decided 1 isn't placed
abbrev pub unplaced_at : State → ℕ × ℕ → ℕ
unplaced_at s p =
    if is_one (s.decided p.0 p.1) then one_if (not (has (s.placed p.0) p.1)) + one_if (not (has (s.placed p.1) p.0)) else 0

-- all of these
abbrev pub unplaced_in : Graph → State → ℕ
unplaced_in g s = total (unplaced_at s) (pairs_of g.ends (edges_of g))

-- paths with u pairs and q places, a leaf at each end: there are so many choices of r crossings and of their positions among t
abbrev pub potential_of : ℕ → ℕ → ℕ → ℕ → ℕ
potential_of t u r q = (u + q + 1) * (u + 1) ^ r * t ^ q

-- in round t
abbrev pub potential : Graph → ℕ → State → ℕ
potential g t s = potential_of t (undecided_in g s) (t - ones_in g s) (unplaced_in g s + 2 * (t - ones_in g s))

-- a state with t ones is opened by a leaf alone
abbrev pub IsSearched : Graph → ℕ → State → Node → Type 0
IsSearched g t s (Pair e f) = ones_in g s < t
IsSearched g t s (Place e f) = ones_in g s < t
IsSearched g t s (Leaf d parts) = Unit {0}
