-- What the definitions of drawings give at once.
use Rattle.std.specs.Prelude.{ℕ, ◌≤◌}
use Rattle.xn_model.specs.Drawing.{IsAtLeast, IsAtMost, IsCrossingNumber}
use Rattle.xn_model.specs.Graph.{Graph}
use Rattle.xn_model.specs.Limit.{IsBelowLimit, IsWithinLimit}

-- a lower bound gives each smaller one
abbrev pub LeastFalls : Type 0
LeastFalls = (g : Graph) (k j : ℕ) → IsAtLeast g k → j ≤ k → IsAtLeast g j

-- an upper bound gives each greater one
abbrev pub AtMostRises : Type 0
AtMostRises = (g : Graph) (k j : ℕ) → IsAtMost g k → k ≤ j → IsAtMost g j

-- no lower bound passes an upper one
abbrev pub BoundsMeet : Type 0
BoundsMeet = (g : Graph) (low high : ℕ) → IsAtLeast g low → IsAtMost g high → low ≤ high

-- a graph has one crossing number
abbrev pub OneCrossingNumber : Type 0
OneCrossingNumber = (g : Graph) (j k : ℕ) → IsCrossingNumber g j → IsCrossingNumber g k → j ≤ k

-- what is below the node limit stays so where it falls
abbrev pub LimitFalls : Type 0
LimitFalls = (g : Graph) (m n : ℕ) → IsBelowLimit g n → m ≤ n → IsBelowLimit g m

-- what is below the node limit is within it
abbrev pub BelowIsWithin : Type 0
BelowIsWithin = (g : Graph) (n : ℕ) → IsBelowLimit g n → IsWithinLimit g n
