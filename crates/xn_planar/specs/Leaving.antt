-- What is left of a web where segments are left out, from the last to the first, as long as there is no flat map.
use Rattle.std.specs.Prelude.{◌≡◌, ◌↔◌, ℕ, suc, ◌<◌, ◌≤◌, true, List, ◌++◌, filter, length, nat_lt}
use Rattle.std.specs.List.{range_with_len}
use Rattle.xn_model.specs.Graph.{Graph}
use Rattle.xn_model.specs.Lists.{at, has}
use Rattle.xn_genus.specs.Part.{ends_listed}
use Rattle.xn_extend.specs.Extended.{listed_web}
use Rattle.xn_fewer.specs.Flat.{HasFlat}
use Rattle.xn_kuratowski.specs.Core.{IsCore}
use Rattle.xn_planar.specs.Named.{RiseBelow}
use Rattle.xn_planar.specs.Planar.{HasNoFlatMap}
use Rattle.xn_planar.specs.declared.shrinking.MinimalWeb.{MinimalWeb}
use Rattle.xn_planar.specs.declared.shrinking.MinimalWeb.TheVariants as minimal

-- the first s segments, and then those of the list
abbrev pub from_front : ℕ → List ℕ → List ℕ
from_front s list = range_with_len 0 s ++ list

-- the segments before t, and then those of the list that come after it
abbrev pub without : ℕ → List ℕ → List ℕ
without t list = from_front t (filter (nat_lt t) list)

-- from the last segment to the one at s: each is left out where the rest without it has no flat map, and else stays
abbrev pub StaysWhereNeeded : Graph → ℕ → List ℕ → Type 0
StaysWhereNeeded web s list =
    (t : ℕ) → s ≤ t → t < length web.ends → (has list t ≡ true) ↔ HasFlat web.nodes (ends_listed web.ends (without t list))

-- of the segments from s on these stay: with the first s they have no flat map
pub record AreLeft (web : Graph) (s : ℕ) (kept : List ℕ) : Type 0 where
  pub within : s ≤ length web.ends
  pub rises : RiseBelow kept (length web.ends)
  pub above : (i : ℕ) → i < length kept → s ≤ at kept i
  pub none : HasNoFlatMap (listed_web web (from_front s kept))
  pub needed : StaysWhereNeeded web s kept

-- the least number of first segments, of at most this many, that have no flat map with those of the list
pub record IsLeastFront (web : Graph) (kept : List ℕ) (most front : ℕ) : Type 0 where
  pub within : front ≤ most
  pub none : HasNoFlatMap (listed_web web (from_front front kept))
  pub less : (m : ℕ) → suc m ≡ front → HasFlat web.nodes (ends_listed web.ends (from_front m kept))

-- the list rises and has the segments that stay, which are a core
pub record IsLeftOver (web : Graph) (list : List ℕ) : Type 0 where
  pub rises : RiseBelow list (length web.ends)
  pub needed : StaysWhereNeeded web 0 list
  pub core : IsCore (listed_web web list)

-- a web with a flat map, or what is left of one without
abbrev pub IsMinimal : Graph → MinimalWeb → Type 0
IsMinimal web minimal.Flat = HasFlat web.nodes web.ends
IsMinimal web (minimal.Core list) = IsLeftOver web list
