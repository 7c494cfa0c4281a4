-- What is asked of a state, and the steps back from a decided pair and from a placed edge.
use Rattle.std.specs.Prelude.{ℕ, ◌+◌, ◌==◌, ◌&&◌, Bool, Option, None, if◌then◌else◌, max, min, swap}
use Rattle.std.specs.List.{remove}
use Rattle.xn_kinds.specs.State.{State}

-- what is decided of the pair, given in either order
abbrev pub value_in : State → ℕ → ℕ → Option Bool
value_in s e f = s.decided (min e f) (max e f)

-- the state with another entry for the pair
abbrev pub with_entry : State → ℕ → ℕ → Option Bool → State
with_entry s e f entry = record s { decided = λ a b. if (a == e) && (b == f) then entry else s.decided a b }

-- the state with the pair undecided
abbrev pub undecide : State → ℕ → ℕ → State
undecide s e f = with_entry s e f None

-- the state without the edge at position i along e
abbrev pub unplace : State → ℕ → ℕ → State
unplace s e i = record s { placed = λ a. if a == e then remove (s.placed e) i else s.placed a }

-- the state in which the edges at positions i and i + 1 along e have changed places
abbrev pub shift : State → ℕ → ℕ → State
shift s e i = record s { placed = λ a. if a == e then swap (s.placed e) i (i + 1) else s.placed a }
