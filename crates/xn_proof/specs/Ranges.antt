-- The numbers of a line, each in its range.
use Rattle.std.specs.Prelude.{ℕ, ◌-◌, ◌*◌, ◌^◌, ◌==◌, Bool, false, List, [], ◌∷◌, length, Option, Some, None, Result, Ok, Err, nat_lt, if◌then◌else◌}
use Rattle.xn_kinds.specs.declared.flaws.Flaw.{Flaw}
use Rattle.xn_proof.specs.Reading.{◌>>=◌, each_at, loop_flaw, out_of_range, syntax}

-- a number from 0 to most
abbrev pub at_most : ℕ → ℕ → Option ℕ → Result ℕ Flaw
at_most i most (Some n) = if nat_lt most n then Err (out_of_range i) else Ok n
at_most i most None = Err (out_of_range i)

-- a number below the bound
abbrev pub below : ℕ → ℕ → Option ℕ → Result ℕ Flaw
below i bound (Some n) = if nat_lt n bound then Ok n else Err (out_of_range i)
below i bound None = Err (out_of_range i)

-- a number from 1 to 2^63 - 1
abbrev pub factor : ℕ → Option ℕ → Result ℕ Flaw
factor i (Some n) = if nat_lt n 1 then Err (out_of_range i) else if nat_lt n (2 ^ 63) then Ok n else Err (out_of_range i)
factor i None = Err (out_of_range i)

-- the value is this number
abbrev pub is_value : Option ℕ → ℕ → Bool
is_value (Some n) m = n == m
is_value None m = false

-- the first value, and the others
abbrev pub first_of : ℕ → List (Option ℕ) → Result (Option ℕ × List (Option ℕ)) Flaw
first_of i (v ∷ vs) = Ok (v, vs)
first_of i [] = Err (syntax i)

-- just one value
abbrev pub one_of : ℕ → List (Option ℕ) → Result (Option ℕ) Flaw
one_of i (v ∷ []) = Ok v
one_of i vs = Err (syntax i)

-- just two values
abbrev pub two_of : ℕ → List (Option ℕ) → Result (Option ℕ × Option ℕ) Flaw
two_of i (v ∷ w ∷ []) = Ok (v, w)
two_of i vs = Err (syntax i)

-- ---- forms: what the numbers of a line say

-- no number
unfoldable pub no_form : ℕ → List (Option ℕ) → Result (Unit {0}) Flaw
no_form i [] = Ok tt
no_form i (v ∷ vs) = Err (syntax i)

-- just this number
unfoldable pub just_form : ℕ → ℕ → List (Option ℕ) → Result (Unit {0}) Flaw
just_form n i vs = do
  v ← one_of i vs
  if is_value v n then Ok tt else Err (syntax i)

-- one number
unfoldable pub one_form : ℕ → ℕ → List (Option ℕ) → Result ℕ Flaw
one_form most i vs = do
  v ← one_of i vs
  at_most i most v

-- two numbers
unfoldable pub two_form : ℕ → ℕ → ℕ → List (Option ℕ) → Result (ℕ × ℕ) Flaw
two_form most_first most_second i vs = do
  v ← two_of i vs
  m ← at_most i most_first v.0
  n ← at_most i most_second v.1
  Ok (m, n)

-- the two ends of an edge, which are different nodes
unfoldable pub edge_form : ℕ → ℕ → ℕ → List (Option ℕ) → Result (ℕ × ℕ) Flaw
edge_form nodes e i vs = do
  v ← two_of i vs
  first ← below i nodes v.0
  second ← below i nodes v.1
  if first == second then Err (loop_flaw i e) else Ok (first, second)

-- how much was spent, of a budget of at most 200,000
unfoldable pub effort_form : ℕ → List (Option ℕ) → Result (ℕ × ℕ) Flaw
effort_form i vs = do
  v ← two_of i vs
  budget ← at_most i 200000 v.1
  spent ← at_most i budget v.0
  Ok (spent, budget)

-- the numbers after their count
unfoldable pub counted : ℕ → ℕ → List (Option ℕ) → Result (List (Option ℕ)) Flaw
counted most i vs = do
  v ← first_of i vs
  if is_value v.0 (length v.1) then (if nat_lt most (length v.1) then Err (out_of_range i) else Ok v.1) else Err (syntax i)

-- a list of numbers of 32 bits, after their count
unfoldable pub list_form : ℕ → ℕ → List (Option ℕ) → Result (List ℕ) Flaw
list_form most i vs = do
  rest ← counted most i vs
  each_at (at_most i (2 ^ 32 - 1)) rest

-- so many numbers of 32 bits
unfoldable pub nodes_form : ℕ → ℕ → List (Option ℕ) → Result (List ℕ) Flaw
nodes_form count i vs = if length vs == count then each_at (at_most i (2 ^ 32 - 1)) vs else Err (syntax i)

-- an edge and a list of numbers of 32 bits
unfoldable pub over_form : ℕ → List (Option ℕ) → Result (ℕ × List ℕ) Flaw
over_form i vs = do
  v ← first_of i vs
  list ← list_form 999 i v.1
  edge ← at_most i (2 ^ 32 - 1) v.0
  Ok (edge, list)

-- two edges of so many
unfoldable pub edges_form : ℕ → ℕ → List (Option ℕ) → Result (ℕ × ℕ) Flaw
edges_form edges i vs = do
  v ← two_of i vs
  e ← below i edges v.0
  f ← below i edges v.1
  Ok (e, f)

-- row numbers, each with its multiplier
unfoldable pub parts_at : ℕ → ℕ → List (Option ℕ) → Result (List (ℕ × ℕ)) Flaw
parts_at rows i [] = Ok []
parts_at rows i (v ∷ []) = Err (syntax i)
parts_at rows i (v ∷ w ∷ vs) = do
  row ← below i rows v
  multiplier ← factor i w
  rest ← parts_at rows i vs
  Ok ((row, multiplier) ∷ rest)

-- the number of pairs is said in front of them
abbrev pub is_half : Option ℕ → ℕ → Bool
is_half (Some n) m = 2 * n == m
is_half None m = false

-- the divisor, and how many parts follow, each a row number and a multiplier
unfoldable pub leaf_form : ℕ → ℕ → List (Option ℕ) → Result (ℕ × List (ℕ × ℕ)) Flaw
leaf_form rows i vs = do
  v ← first_of i vs
  w ← first_of i v.1
  if is_half w.0 (length w.1)
      then (at_most i (2 ^ 32 - 1) w.0 >>= λ count. factor i v.0 >>= λ divisor. parts_at rows i w.1 >>= λ parts. Ok (divisor, parts))
      else Err (syntax i)

-- ---- what is kept of values, where each is in its range

-- a number of 32 bits, a number of 64 bits
abbrev pub small_of : Option ℕ → ℕ
small_of (Some n) = if nat_lt n (2 ^ 32) then n else 0
small_of None = 0

abbrev pub large_of : Option ℕ → ℕ
large_of (Some n) = n
large_of None = 0

-- row numbers, each with its multiplier
abbrev pub parts_of : List (Option ℕ) → List (ℕ × ℕ)
parts_of [] = []
parts_of (v ∷ []) = []
parts_of (v ∷ w ∷ vs) = (small_of v, large_of w) ∷ parts_of vs
