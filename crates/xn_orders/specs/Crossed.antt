-- Edges that cross, of which nothing is known but their lists.
use Rattle.std.specs.Prelude.{◌≡◌, ℕ, Bool, true, List, if◌then◌else◌, nat_eq, nat_lt}
use Rattle.std.specs.List.{IsDistinct}
use Rattle.std.specs.List.Sorted.{IsStrictlyIncreasing}
use Rattle.xn_model.specs.Lists.{has}
use Rattle.xn_orders.specs.Pairs.{has_pair}

-- the edges rise, and each list has no repeats and has edges that have the edge in their lists
pub record AreMutual (edges : List ℕ) (ord : ℕ → List ℕ) : Type 0 where
  pub rise : IsStrictlyIncreasing edges
  pub within : (e f : ℕ) → has (ord e) f ≡ true → has edges e ≡ true
  pub no_repeats : (e : ℕ) → IsDistinct nat_eq (ord e)
  pub both_ways : (e f : ℕ) → has (ord e) f ≡ true → has (ord f) e ≡ true

-- the crossing of e and f is among the pairs
abbrev pub crosses_in : List (ℕ × ℕ) → ℕ → ℕ → Bool
crosses_in pairs e f = if nat_lt e f then has_pair pairs e f else has_pair pairs f e
