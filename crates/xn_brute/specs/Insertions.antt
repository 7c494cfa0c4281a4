-- Maps and segments as lists.
use Rattle.std.specs.Prelude.{◌≡◌, ℕ, ◌*◌, ◌<◌, List, length, All}
use Rattle.xn_model.specs.Graph.{Graph}
use Rattle.xn_model.specs.Insertion.{StandsAfter}
use Rattle.xn_model.specs.Lists.{at}

-- these are segments of the web
abbrev pub AreSegments : Graph → List ℕ → Type 0
AreSegments web done = All (λ s. s < length web.ends) done

-- the list has a dart for each dart
pub record IsListing (web : Graph) (next : List ℕ) : Type 0 where
  pub long : length next ≡ 2 * length web.ends
  pub darts : All (λ d. d < 2 * length web.ends) next

-- d has come to stand right after c
abbrev pub HasDart : Graph → ℕ → ℕ → List ℕ → List ℕ → Type 0
HasDart web d c next after = StandsAfter (2 * length web.ends) d c (at next) (at after)
