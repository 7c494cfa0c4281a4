-- What is known of the values in a box, variable by variable.
use Rattle.std.specs.Prelude.{◌≡◌, ℕ, ◌^◌, ◌<◌, ◌≤◌, ◌==◌, ◌&&◌, Bool, false, List, [], ◌∷◌, Option, Some, None, Result, Ok, Err, MatchOption, nat_lt, if◌then◌else◌, slice_index_or}
use Rattle.xn_model.specs.Lists.{has, one_if, position_in}
use Rattle.xn_kinds.specs.Row.{Values}
use Rattle.xn_kinds.specs.State.{State}
use Rattle.xn_kinds.specs.declared.trees.Var.{Var}
use Rattle.xn_kinds.specs.declared.trees.Var.TheVariants.{Cross, Before}
use Rattle.xn_brute.specs.declared.known.Given.{Given}
use Rattle.xn_brute.specs.declared.known.Known.{Known}

-- whether the pair is decided to cross, if it is decided
abbrev pub decided_in : List (ℕ × ℕ × Bool) → ℕ → ℕ → Option Bool
decided_in [] e f = None
decided_in (p ∷ decided) e f = if (p.0 == e) && (p.1 == f) then Some p.2 else decided_in decided e f

-- the state that is given
abbrev pub state_of : Given → State
state_of given = record { decided = decided_in given.decided; placed = λ e. slice_index_or given.placed e [] }

-- whether f stands before g, if both stand in the list
abbrev pub order_in : List ℕ → ℕ → ℕ → Option Bool
order_in xs f g = if has xs f && has xs g then Some (nat_lt (position_in xs f) (position_in xs g)) else None

-- what a state gives of a variable
abbrev pub given_by : State → Var → Option Bool
given_by s (Cross e f) = s.decided e f
given_by s (Before e f g) = order_in (s.placed e) f g

-- the variables are the same
abbrev pub is_same : Var → Var → Bool
is_same (Cross a b) (Cross c d) = (a == c) && (b == d)
is_same (Cross a b) (Before d e f) = false
is_same (Before a b c) (Cross d e) = false
is_same (Before a b c) (Before d e f) = (a == d) && (b == e) && (c == f)

-- what is tried of a variable
abbrev pub tried_in : List (Var × Bool) → Var → Option Bool
tried_in [] x = None
tried_in (p ∷ tried) x = if is_same p.0 x then Some p.1 else tried_in tried x

-- the first, or else the second
abbrev pub or_else : Option Bool → Option Bool → Option Bool
or_else None y = y
or_else (Some x) y = Some x

-- what is known of a variable
abbrev pub known_in : State → List (Var × Bool) → Var → Option Bool
known_in s tried x = or_else (tried_in tried x) (given_by s x)

abbrev pub known_of : Known → Var → Option Bool
known_of known = known_in (state_of known.given.now) known.tried.now

-- the value of a variable
abbrev pub value_at : Values → Var → ℕ
value_at v (Cross e f) = v.crosses e f
value_at v (Before e f g) = v.before e f g

-- each value is 0 or 1, and as known
pub record FitsKnown (known : Var → Option Bool) (v : Values) : Type 0 where
  pub fits : (x : Var) → MatchOption (known x) (value_at v x ≤ 1) (λ is. value_at v x ≡ one_if is)

-- the numbers of a variable of the program
abbrev pub IsSmallVar : Var → Type 0
IsSmallVar (Cross e f) = (e < 2 ^ 32) × (f < 2 ^ 32)
IsSmallVar (Before e f g) = (e < 2 ^ 32) × (f < 2 ^ 32) × (g < 2 ^ 32)

-- the variable isn't known
pub record IsUnknown (known : Var → Option Bool) (x : Var) : Type 0 where
  pub unknown : known x ≡ None
  pub small : IsSmallVar x

-- the result is what f is of all values that are as known, or a variable that isn't known
abbrev pub Evaluates : {A : Type 0} → (Var → Option Bool) → (Values → A) → Result A Var → Type 0
Evaluates known f (Ok n) = (v : Values) → FitsKnown known v → f v ≡ n
Evaluates known f (Err x) = IsUnknown known x
