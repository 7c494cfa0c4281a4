-- What an attempt comes to.
use Rattle.std.specs.Prelude.{◌≡◌, ℕ, ◌<◌, List, length}
use Rattle.xn_model.specs.Graph.{Graph}
use Rattle.xn_model.specs.Lists.{has}
use Rattle.xn_components.specs.Listing.{IsFlatMapOf}
use Rattle.xn_dmp.specs.Growing.{Grown}
use Rattle.xn_dmp.specs.Jams.{IsJam}
use Rattle.xn_dmp.specs.declared.embedding.Attempt.{Attempt}
use Rattle.xn_dmp.specs.declared.embedding.Attempt.TheVariants as attempt
use Rattle.xn_dmp.specs.declared.embedding.Outcome.{Outcome}
use Rattle.xn_dmp.specs.declared.embedding.Outcome.TheVariants as outcome

-- a flat map of the web, or a jam
abbrev pub IsAttempt : Graph → Attempt → Type 0
IsAttempt web (attempt.Flat map) = IsFlatMapOf web map
IsAttempt web (attempt.Stuck jam) = IsJam web jam

-- of the same web, the listed segments are placed and no other
pub record PlacesAll (web : Graph) (list : List ℕ) (g : Grown) : Type 0 where
  pub web_is : g.web ≡ web
  pub all : (t : ℕ) → t < length web.ends → has g.placed t ≡ has list t

-- a map of the listed segments, or a jam
abbrev pub IsOutcome : Graph → List ℕ → Outcome → Type 0
IsOutcome web list (outcome.Whole g) = PlacesAll web list g
IsOutcome web list (outcome.Jammed jam) = IsJam web jam
