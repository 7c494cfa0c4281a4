-- How far a search is, and when that is said.
use Rattle.std.specs.Prelude.{◌≤◌, ◌+◌, ◌++◌, ℕ, List, Option, Some, None, codes, decimal}
use Rattle.std.specs.declared.time.Instant.{Instant}
use Rattle.std.specs.Time.{instant_nanos}
use Rattle.xn_cutter.specs.declared.cutter.Progress.{Progress}

-- the line that says how far a search is
abbrev pub progress_line : Progress → List ℕ
progress_line p =
    (((((codes "xnum: round " ++ decimal p.round) ++ codes ", ") ++ decimal p.opened)
    ++ codes " nodes opened, best drawing ") ++ decimal p.best) ++ codes "\n"

-- both times are known, and from the first to the second is at least a second
abbrev pub IsSecondLater : Option Instant → Option Instant → Type 0
IsSecondLater (Some before) (Some now) = instant_nanos before + 1000000000 ≤ instant_nanos now
IsSecondLater before now = ⊥
