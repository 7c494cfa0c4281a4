-- Calls that are numbered from 0, and of which some fail.
use Rattle.std.specs.Prelude.{◌≡◌, ℕ, ◌+◌, ◌-◌, ◌^◌, min, List, Contains}
use Rattle.xn_io.specs.declared.calls.Calls.{Calls}

-- the number of the next call
abbrev pub number_of : Calls → ℕ
number_of calls = calls.number

-- the numbers of the calls that fail
abbrev pub failing_of : Calls → List ℕ
failing_of calls = calls.fail.items

-- the next call is one of those that fail
abbrev pub IsFailing : Calls → Type 0
IsFailing calls = Contains (failing_of calls) (number_of calls)

-- one number is passed, until the last value is reached, and the same calls fail
pub record Passes (old new : Calls) : Type 0 where
  pub number : number_of new ≡ min (number_of old + 1) (2 ^ 64 - 1)
  pub failing : failing_of new ≡ failing_of old
