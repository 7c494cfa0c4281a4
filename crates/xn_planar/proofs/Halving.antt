-- A search for the least number of first segments that have no flat map with others.
use Rattle.std.proofs.Common.{◌≡◌, ℕ, suc, ◌≤◌, List}
use Rattle.xn_model.specs.Graph.{Graph}
use Rattle.xn_genus.specs.Part.{ends_listed}
use Rattle.xn_extend.specs.Extended.{listed_web}
use Rattle.xn_fewer.specs.Flat.{HasFlat}
use Rattle.xn_planar.specs.Leaving.{from_front}
use Rattle.xn_planar.specs.Planar.{HasNoFlatMap}

-- the number is at least low and at most high: one less than low have a flat map, high have none
pub record IsBetween (web : Graph) (kept : List ℕ) (most low high : ℕ) : Type 0 where
  pub order : low ≤ high
  pub within : high ≤ most
  pub none : HasNoFlatMap (listed_web web (from_front high kept))
  pub less : (m : ℕ) → suc m ≡ low → HasFlat web.nodes (ends_listed web.ends (from_front m kept))
