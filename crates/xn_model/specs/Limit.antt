-- The node limit: how many nodes the search opens at most.
use Rattle.std.specs.Prelude.{ℕ, zero, suc, ◌+◌, ◌*◌, ◌^◌, ◌<◌, ◌≤◌}
use Rattle.xn_model.specs.Drawing.{HasDrawingWith}
use Rattle.xn_model.specs.Graph.{Graph, pair_count_of}

-- the paths of round t have at most p pair nodes, 2t place nodes and a leaf, for each choice of t crossing pairs and their positions
abbrev pub limit_of_round : ℕ → ℕ → ℕ
limit_of_round p t = (p + 2 * t + 1) * (p + 1) ^ t * t ^ (2 * t)

-- the rounds 1 to t
abbrev pub limit_up_to : ℕ → ℕ → ℕ
limit_up_to p zero = 0
limit_up_to p (suc t) = limit_up_to p t + limit_of_round p (suc t)

-- with p independent pairs and the crossing number c: the rounds 1 to c + 1
abbrev pub node_limit : ℕ → ℕ → ℕ
node_limit p c = limit_up_to p (suc c)

-- n is below the node limit, whichever drawing gives the number of crossings
abbrev pub IsBelowLimit : Graph → ℕ → Type 0
IsBelowLimit g n = (c : ℕ) → HasDrawingWith g c → n < node_limit (pair_count_of g) c

-- n is at most the node limit, whichever drawing gives the number of crossings
abbrev pub IsWithinLimit : Graph → ℕ → Type 0
IsWithinLimit g n = (c : ℕ) → HasDrawingWith g c → n ≤ node_limit (pair_count_of g) c
