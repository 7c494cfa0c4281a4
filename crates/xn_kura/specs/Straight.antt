-- Paths that go straight on through nodes with two darts.
use Rattle.std.specs.Prelude.{◌≡◌, ◌≢◌, ℕ, ◌+◌, ◌*◌, ◌<◌, ◌==◌, ◌∷◌, [], true, List, Option, Vec, None, Some, length, nat_eq, if◌then◌else◌}
use Rattle.std.specs.Global.{Global}
use Rattle.std.specs.List.{IsDistinct}
use Rattle.xn_model.specs.Evidence.{LeadsTo, inner_nodes}
use Rattle.xn_model.specs.Graph.{ends_at}
use Rattle.xn_model.specs.Lists.{has}
use Rattle.xn_model.specs.Loose.{dart_count}
use Rattle.xn_model.specs.Map.{tail_of}
use Rattle.xn_kura.specs.declared.traces.Trace.{Trace}

-- the dart with which a path leaves u
abbrev pub dart_from : List (ℕ × ℕ) → ℕ → List ℕ → ℕ
dart_from ends u [] = 0
dart_from ends u (s ∷ path) = if (ends_at ends s).0 == u then 2 * s else 2 * s + 1

-- the path leads from u to v, through nodes with two darts to a node with another number of them
pub record IsStraight (ends : List (ℕ × ℕ)) (u : ℕ) (path : List ℕ) (v : ℕ) : Type 0 where
  pub some : 0 < length path
  pub leads : LeadsTo ends u path v
  pub once : IsDistinct nat_eq path
  pub through : (w : ℕ) → has (inner_nodes ends u path) w ≡ true → dart_count ends w ≡ 2
  pub stops : dart_count ends v ≢ 2

-- the trace from a dart is the straight path that it begins, if it begins one
abbrev pub IsTraceOf : List (ℕ × ℕ) → ℕ → Option (ℕ × List ℕ) → Type 0
IsTraceOf ends d found =
    (u : ℕ) (path : List ℕ) (v : ℕ) → IsStraight ends u path v → dart_from ends u path ≡ d → found ≡ Some (v, path)

-- the path is the straight one from u to v that the dart begins; with none, the dart begins no such path
abbrev pub IsStraightBy : List (ℕ × ℕ) → ℕ → ℕ → ℕ → Option (List ℕ) → Type 0
IsStraightBy ends u v d None = (path : List ℕ) → IsStraight ends u path v → dart_from ends u path ≢ d
IsStraightBy ends u v d (Some path) =
    (tail_of ends d ≡ u) × ((other : List ℕ) (w : ℕ) → IsStraight ends u other w → dart_from ends u other ≡ d → (w ≡ v) × (path ≡ other))

-- the path is the straight one from u to v that some dart begins; with none, there is no such path
abbrev pub IsStraightBetween : List (ℕ × ℕ) → ℕ → ℕ → Option (List ℕ) → Type 0
IsStraightBetween ends u v None = (path : List ℕ) → ¬ IsStraight ends u path v
IsStraightBetween ends u v (Some path) = (d : ℕ) × (d < 2 * length ends) × IsStraightBy ends u v d (Some path)

-- the end and the path of a trace
abbrev pub trace_in : Option Trace → Option (ℕ × List ℕ)
trace_in None = None
trace_in (Some t) = Some (t.end, t.path.items)

-- the path that a vector holds
abbrev pub path_in : Option (Vec ℕ Global) → Option (List ℕ)
path_in None = None
path_in (Some path) = Some path.items
