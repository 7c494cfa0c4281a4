-- A crossing is resolved: a split and two smoothings.
use Rattle.std.proofs.Common.{ℕ, suc, List}
use Rattle.xn_model.specs.Map.{MeetsEuler, IsMap}
use Rattle.xn_surgery.specs.Resolution.{IsResolution}
use Rattle.xn_surgery.proofs.Smooth.{map_smoothed, smoothing_flat}
use Rattle.xn_surgery.proofs.Split.{flat_split, map_split}

module _ (rest a b : ℕ) (ends left : List (ℕ × ℕ)) (next after : ℕ → ℕ) (map : IsMap (suc rest) ends next) (is : IsResolution rest ends next a b left after) where
  split : IsMap (suc (suc rest)) is.split is.split_next
  split = map_split (suc rest) a b ends is.split next is.split_next map is.is_split

  once : IsMap (suc rest) is.once is.once_next
  once = map_smoothed (suc rest) is.new_first is.new_second is.split is.once is.split_next is.once_next split is.new_goes

  pub map_resolved : IsMap rest left after
  map_resolved = map_smoothed rest is.old_first is.old_second is.once left is.once_next after once is.old_goes

  pub resolution_flat : MeetsEuler (suc rest) ends next → MeetsEuler rest left after
  resolution_flat flat =
      (smoothing_flat rest is.old_first is.old_second is.once left is.once_next after once is.old_goes).0
      ((smoothing_flat (suc rest) is.new_first is.new_second is.split is.once is.split_next is.once_next split is.new_goes).0
      (flat_split (suc rest) a b ends is.split next is.split_next map is.is_split flat))
