-- What a row asks for in a state: a pair, a place, or nothing.
use Rattle.std.specs.Prelude.{◌≡◌, ℕ, ◌<◌, ◌≤◌, true, false, None, All, IsSome, List, length}
use Rattle.xn_model.specs.Graph.{Graph, Independent, pairs_of}
use Rattle.xn_model.specs.Lists.{has}
use Rattle.xn_kinds.specs.Row.{orders_of}
use Rattle.xn_kinds.specs.State.{State, Crosses}
use Rattle.xn_kinds.specs.declared.rows.Row.{Row}

-- the pair is independent and undecided, the smaller edge first
abbrev pub IsOpenPair : Graph → State → ℕ × ℕ → Type 0
IsOpenPair g s p = (p.0 < p.1) × (p.1 < length g.ends) × Independent g.ends p.0 p.1 × (s.decided p.0 p.1 ≡ None)

-- no pair of the edges is
abbrev pub HasNoOpenPair : Graph → State → List ℕ → Type 0
HasNoOpenPair g s edges = All (λ p. IsSome (s.decided p.0 p.1)) (pairs_of g.ends edges)

-- the second edge crosses the first and isn't placed along it
abbrev pub IsOpenPlace : State → ℕ × ℕ → Type 0
IsOpenPlace s p = Crosses s p.0 p.1 × (has (s.placed p.0) p.1 ≡ false)

-- where an edge has two crossings in the row or more, all are placed
abbrev pub HasNoOpenPlace : Row → State → Type 0
HasNoOpenPlace row s = (e f : ℕ) → has row.edges e ≡ true → 2 ≤ length (orders_of row e) → has (orders_of row e) f ≡ true → has (s.placed e) f ≡ true
