-- How many nodes a search opens.
use Rattle.std.specs.Prelude.{◌≡◌, ℕ, suc, ◌+◌, ◌<◌, ◌≤◌, List, [], ◌∷◌, ◌++◌, length}
use Rattle.xn_model.specs.Drawing.{IsAtLeast}
use Rattle.xn_model.specs.Graph.{Graph, pair_count_of}
use Rattle.xn_model.specs.Limit.{IsBelowLimit, IsWithinLimit, limit_of_round, limit_up_to}
use Rattle.xn_model.specs.Lists.{total}
use Rattle.xn_kinds.specs.State.{State, IsState, empty_state}
use Rattle.xn_kinds.specs.Tree.{BeginsProof, Proves, children}
use Rattle.xn_kinds.specs.declared.rows.Row.{Row}
use Rattle.xn_kinds.specs.declared.trees.Node.{Node}
use Rattle.xn_effort.specs.Leads.{HasOpened, Searches}
use Rattle.xn_effort.specs.Potential.{potential}

-- ---- one node

-- the potential of the empty state is the limit of the round
abbrev pub RootIsLimit : Type 0
RootIsLimit = (g : Graph) (t : ℕ) → potential g t empty_state ≡ limit_of_round (pair_count_of g) t

-- a node that opens a state takes at least one from its potential
abbrev pub OpeningLowers : Type 0
OpeningLowers =
    (g : Graph) (t : ℕ) (rows : List Row) (s : State) (node : Node) → 1 ≤ t → IsState g s → Searches g t rows s node →
    suc (total (potential g t) (children s node)) ≤ potential g t s

-- ---- one round

-- one node more
abbrev pub OneMoreIsOpened : Type 0
OneMoreIsOpened =
    (g : Graph) (t : ℕ) (rows : List Row) (nodes : List Node) (s : State) (left : List State) (node : Node) →
    HasOpened g t rows nodes (s ∷ left) → Searches g t rows s node → HasOpened g t rows (nodes ++ node ∷ []) (children s node ++ left)

-- a round with nothing left is a proof, and one with something left begins one
abbrev pub FinishedRoundsProve : Type 0
FinishedRoundsProve = (g : Graph) (t : ℕ) (rows : List Row) (nodes : List Node) → HasOpened g t rows nodes [] → Proves g t rows empty_state nodes

abbrev pub OpenRoundsBegin : Type 0
OpenRoundsBegin =
    (g : Graph) (t : ℕ) (rows : List Row) (nodes : List Node) (s : State) (left : List State) →
    HasOpened g t rows nodes (s ∷ left) → BeginsProof g t rows nodes

-- what is pending are states of the graph
abbrev pub PendingAreStates : Type 0
PendingAreStates =
    (g : Graph) (t : ℕ) (rows : List Row) (nodes : List Node) (s : State) (left : List State) → HasOpened g t rows nodes (s ∷ left) → IsState g s

-- the nodes that were opened and the potential of what is pending are at most the limit of the round
abbrev pub RoundsAreLimited : Type 0
RoundsAreLimited =
    (g : Graph) (t : ℕ) (rows : List Row) (nodes : List Node) (left : List State) → 1 ≤ t → HasOpened g t rows nodes left →
    length nodes + total (potential g t) left ≤ limit_of_round (pair_count_of g) t

-- so a round opens at most so many, and one less where something is pending
abbrev pub RoundsEnd : Type 0
RoundsEnd =
    (g : Graph) (t : ℕ) (rows : List Row) (nodes : List Node) (left : List State) → 1 ≤ t → HasOpened g t rows nodes left →
    length nodes + length left ≤ limit_of_round (pair_count_of g) t

-- ---- all rounds

-- where k crossings are shown, the rounds up to k + 1 are within the node limit
abbrev pub ShownRoundsAreWithin : Type 0
ShownRoundsAreWithin = (g : Graph) (k n : ℕ) → IsAtLeast g k → n ≤ limit_up_to (pair_count_of g) (suc k) → IsWithinLimit g n

abbrev pub ShownRoundsAreBelow : Type 0
ShownRoundsAreBelow = (g : Graph) (k n : ℕ) → IsAtLeast g k → n < limit_up_to (pair_count_of g) (suc k) → IsBelowLimit g n

-- ---- rows grow while trees stand
abbrev pub MoreRowsKeepRounds : Type 0
MoreRowsKeepRounds =
    (g : Graph) (t : ℕ) (rows more : List Row) (nodes : List Node) (left : List State) →
    HasOpened g t rows nodes left → HasOpened g t (rows ++ more) nodes left

abbrev pub MoreRowsKeepProofs : Type 0
MoreRowsKeepProofs =
    (g : Graph) (k : ℕ) (rows more : List Row) (nodes : List Node) (s : State) → Proves g k rows s nodes → Proves g k (rows ++ more) s nodes

abbrev pub MoreRowsKeepBeginnings : Type 0
MoreRowsKeepBeginnings =
    (g : Graph) (k : ℕ) (rows more : List Row) (nodes : List Node) → BeginsProof g k rows nodes → BeginsProof g k (rows ++ more) nodes
