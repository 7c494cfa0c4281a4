-- Webs in which each node knows one of its darts.
use Rattle.std.specs.Prelude.{◌≡◌, ◌≢◌, ℕ, ◌+◌, ◌*◌, ◌/◌, ◌%◌, ◌<◌, ◌⊎◌, ◌==◌, List, length, if◌then◌else◌}
use Rattle.xn_model.specs.Graph.{Graph}
use Rattle.xn_model.specs.Lists.{at}
use Rattle.xn_model.specs.Map.{tail_of}

-- d is a dart of v
abbrev pub IsDartOf : List (ℕ × ℕ) → ℕ → ℕ → Type 0
IsDartOf ends v d = (d < 2 * length ends) × (tail_of ends d ≡ v)

-- v has no dart
abbrev pub HasNoDart : List (ℕ × ℕ) → ℕ → Type 0
HasNoDart ends v = (d : ℕ) → d < 2 * length ends → tail_of ends d ≢ v

-- each node has an entry, which is one of its darts where it has any
pub record AreAnchors (web : Graph) (darts : List ℕ) : Type 0 where
  pub each : length darts ≡ web.nodes
  pub there : (d : ℕ) → d < 2 * length web.ends → IsDartOf web.ends (tail_of web.ends d) (at darts (tail_of web.ends d))

-- the ends of a segment once its dart d is at v
abbrev pub ends_moved : ℕ → ℕ → ℕ × ℕ → ℕ × ℕ
ends_moved d v p = if d % 2 == 0 then (v, p.1) else (p.0, v)

-- where d goes to v, another dart stays at its node, unless it has no other, or is v
abbrev pub StaysBehind : List (ℕ × ℕ) → ℕ → ℕ → ℕ → Type 0
StaysBehind ends d v other =
    (tail_of ends d ≡ v) ⊎ ((IsDartOf ends (tail_of ends d) other × (other ≢ d)) ⊎ ((x : ℕ) → IsDartOf ends (tail_of ends d) x → x ≡ d))

-- where the segment s goes, another dart stays at the node of its dart d, unless that has no dart of another segment
abbrev pub OutlastsAt : List (ℕ × ℕ) → ℕ → ℕ → ℕ → Type 0
OutlastsAt ends s d other =
    (IsDartOf ends (tail_of ends d) other × (other / 2 ≢ s)) ⊎ ((x : ℕ) → IsDartOf ends (tail_of ends d) x → x / 2 ≡ s)

-- the number of a dart once the last segment has the number s
abbrev pub dart_renamed : ℕ → ℕ → ℕ → ℕ
dart_renamed s last d = if d / 2 == last then 2 * s + d % 2 else d
