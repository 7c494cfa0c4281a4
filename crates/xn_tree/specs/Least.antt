-- The least of a number that values give, over the box of a state, variable by variable.
use Rattle.std.specs.Prelude.{◌≡◌, ◌⊎◌, ℕ, ◌≤◌, ◌==◌, ◌&&◌, ℤ, pos, ◌+ℤ◌, ◌-ℤ◌, ◌≤ℤ◌, List, Bool, true, false, Option, Some, None, MatchOption, if◌then◌else◌}
use Rattle.xn_model.specs.Lists.{has, one_if, stands_before}
use Rattle.xn_kinds.specs.Bound.{IsLeastOver}
use Rattle.xn_kinds.specs.Row.{Values}
use Rattle.xn_kinds.specs.State.{State, InBox}

-- r leads from the least of f to the least of g
abbrev pub Moves : State → (Values → ℤ) → (Values → ℤ) → ℤ → Type 0
Moves s f g r = (b : ℤ) → IsLeastOver (InBox s) f b → IsLeastOver (InBox s) g (b +ℤ r)

-- what a variable may be: the given value, or else 0 and 1
abbrev pub Allows : Option Bool → ℕ → Type 0
Allows given n = MatchOption given (n ≤ 1) (λ x. n ≡ one_if x)

-- b is the least of two numbers, the one for 0 and the one for 1, of those that are allowed
abbrev pub IsLesser : Option Bool → ℤ → ℤ → ℤ → Type 0
IsLesser (Some true) zero one b = b ≡ one
IsLesser (Some false) zero one b = b ≡ zero
IsLesser None zero one b = (b ≤ℤ zero) × (b ≤ℤ one) × ((b ≡ zero) ⊎ (b ≡ one))

-- r leads from the least of two numbers to that of two lesser ones
pub record IsChange (given : Option Bool) (zero one : ℤ) (for_zero for_one : ℕ) (r : ℤ) : Type 0 where
  pub before : ℤ
  pub after : ℤ
  pub is_before : IsLesser given zero one before
  pub is_after : IsLesser given (zero -ℤ pos for_zero) (one -ℤ pos for_one) after
  pub gap : (r +ℤ before) ≡ after

-- the values with another one for a pair, and for an order on e
abbrev pub with_cross : Values → ℕ → ℕ → ℕ → Values
with_cross v e f n = record v { crosses = λ a b. if (a == e) && (b == f) then n else v.crosses a b }

abbrev pub with_before : Values → ℕ → ℕ → ℕ → ℕ → Values
with_before v e f g n = record v { before = λ a b c. if (a == e) && ((b == f) && (c == g)) then n else v.before a b c }

-- which of two edges stands before the other in a list, if both are in it
abbrev pub order_given : List ℕ → ℕ → ℕ → Option Bool
order_given xs f g = if has xs f && has xs g then Some (stands_before xs f g) else None

-- the variable weighs w in f: where it alone changes, f changes as w does
pub record Weighs (s : State) (given : Option Bool) (val : Values → ℕ) (put : Values → ℕ → Values) (f : Values → ℤ) (w : ℕ → ℤ) : Type 0 where
  pub moved : (v : Values) (n : ℕ) → InBox s v → Allows given n → (f (put v n) +ℤ w (val v)) ≡ (f v +ℤ w n)
