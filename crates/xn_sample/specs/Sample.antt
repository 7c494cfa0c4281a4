-- The sample graph of a number of nodes: a cycle through all of them, and chords between nodes that are drawn.
use Rattle.std.specs.Prelude.{ℕ, zero, suc, ◌+◌, ◌*◌, ◌/◌, ◌%◌, ◌==◌, List, ◌++◌, map, if◌then◌else◌}
use Rattle.std.specs.List.{range_with_len}
use Rattle.xn_model.specs.Graph.{Graph}
use Rattle.xn_graph.specs.Limits.{graph_of}

-- the state that follows a state
abbrev pub next_state : ℕ → ℕ
next_state s = (75 * s + 74) % 65537

-- the state after so many draws, where the state before all of them is n
abbrev pub state_after : ℕ → ℕ → ℕ
state_after n zero = n
state_after n (suc k) = next_state (state_after n k)

-- the node that is drawn as number k, counted from 1
abbrev pub drawn : ℕ → ℕ → ℕ
drawn n k = state_after n k % n

-- the ends of a chord between two nodes that are drawn: where they are one node, the second end is the node after it
abbrev pub chord_between : ℕ → ℕ → ℕ → ℕ × ℕ
chord_between n first second = (first, if second == first then (first + 1) % n else second)

-- chord k, counted from 0: two nodes are drawn for each
abbrev pub chord : ℕ → ℕ → ℕ × ℕ
chord n k = chord_between n (drawn n (2 * k + 1)) (drawn n (2 * k + 2))

-- edge i of the rim leads from node i to the next one, and from the last to the first
abbrev pub rim_edge : ℕ → ℕ → ℕ × ℕ
rim_edge n i = (i, (i + 1) % n)

-- the rim, and then half as many chords as nodes, rounded down
abbrev pub sample_ends : ℕ → List (ℕ × ℕ)
sample_ends n = map (rim_edge n) (range_with_len 0 n) ++ map (chord n) (range_with_len 0 (n / 2))

-- the sample graph of n nodes
abbrev pub sample_of : ℕ → Graph
sample_of n = graph_of n (sample_ends n)

-- ---- on the way there

-- the chord that is drawn after a state
abbrev pub chord_after : ℕ → ℕ → ℕ × ℕ
chord_after n s = chord_between n (next_state s % n) (next_state (next_state s) % n)
