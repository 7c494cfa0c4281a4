-- A step of an edge that comes in, and what becomes of the walks.
use Rattle.std.specs.Prelude.{◌≡◌, ℕ, ◌+◌, ◌*◌, ◌/◌, ◌%◌, ◌==◌, List, [], ◌∷◌, length, if◌then◌else◌}
use Rattle.std.specs.List.{flat_map}
use Rattle.xn_model.specs.Lists.{at}
use Rattle.xn_surgery.specs.Subdivision.{dart_now}
use Rattle.xn_loose.specs.Routes.{dart_back}
use Rattle.xn_map.specs.Changes.{Inserts}
use Rattle.xn_map.specs.Dividing.{Subdivides}
use Rattle.xn_map.specs.Listed.{ListedMap}
use Rattle.xn_insert.specs.ListedLoose.{walk_of}
use Rattle.xn_map.specs.declared.corners.Corner.TheVariants.{After}

-- the segment of d is divided, and a segment leads to the new node from the corner after c
pub record StepsOver (old : ListedMap) (c d : ℕ) (new : ListedMap) : Type 0 where
  pub mid : ListedMap
  pub divides : Subdivides old (d / 2) mid
  pub inserts : Inserts mid (After (dart_now (d / 2) (length old.web.ends) c)) (After (dart_back (length old.web.ends) d)) new

-- what becomes of a dart whose segment has the second part that is listed for it, or none where that is 0
abbrev pub cut_one : List ℕ → ℕ → List ℕ
cut_one cuts d =
    let k = at cuts (d / 2) in
    if k == 0 then d ∷ [] else (if d % 2 == 0 then d ∷ 2 * k ∷ [] else (2 * k + 1) ∷ d ∷ [])

-- and of a walk
abbrev pub cut_darts : List ℕ → List ℕ → List ℕ
cut_darts cuts darts = flat_map (cut_one cuts) darts

-- the walks with these cuts, but that of e is own
pub record AreCut (cuts : List ℕ) (e : ℕ) (own : List ℕ) (old new : List (List ℕ)) : Type 0 where
  pub size : length new ≡ length old
  pub each : (x : ℕ) → walk_of new x ≡ (if x == e then own else cut_darts cuts (walk_of old x))
