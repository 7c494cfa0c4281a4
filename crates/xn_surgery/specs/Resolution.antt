-- A crossing is resolved: its node is split into two, and both are smoothed.
use Rattle.std.specs.Prelude.{◌≡◌, ℕ, suc, List}
use Rattle.xn_model.specs.Map.{MeetsEuler, IsMap, tail_of}
use Rattle.xn_surgery.specs.Smoothing.{IsSmoothing}
use Rattle.xn_surgery.specs.Splitting.{IsSplit}

-- the node of a, of suc rest nodes, is split before a and before b; then the new node goes, and then the old one
pub record IsResolution (rest : ℕ) (ends : List (ℕ × ℕ)) (next : ℕ → ℕ) (a b : ℕ) (left : List (ℕ × ℕ)) (after : ℕ → ℕ) : Type 0 where
  pub split : List (ℕ × ℕ)
  pub split_next : ℕ → ℕ
  pub is_split : IsSplit (suc rest) ends next a b split split_next
  pub once : List (ℕ × ℕ)
  pub once_next : ℕ → ℕ
  pub new_first : ℕ
  pub new_second : ℕ
  pub at_new : tail_of split new_first ≡ suc rest
  pub new_goes : IsSmoothing (suc rest) split split_next new_first new_second once once_next
  pub old_first : ℕ
  pub old_second : ℕ
  pub at_old : tail_of once old_first ≡ tail_of ends a
  pub old_goes : IsSmoothing rest once once_next old_first old_second left after

abbrev pub ResolutionLeavesAMap : Type 0
ResolutionLeavesAMap =
    (rest a b : ℕ) (ends left : List (ℕ × ℕ)) (next after : ℕ → ℕ) → IsMap (suc rest) ends next → IsResolution rest ends next a b left after →
    IsMap rest left after

abbrev pub ResolutionKeepsFlat : Type 0
ResolutionKeepsFlat =
    (rest a b : ℕ) (ends left : List (ℕ × ℕ)) (next after : ℕ → ℕ) → IsMap (suc rest) ends next → IsResolution rest ends next a b left after →
    MeetsEuler (suc rest) ends next → MeetsEuler rest left after
