-- What the search for flat insertions looks for.
use Rattle.std.specs.Prelude.{ℕ, ◌+◌, ◌*◌, ◌^◌, ◌≤◌, List, ◌∷◌, length}
use Rattle.xn_model.specs.Graph.{Graph}
use Rattle.xn_model.specs.Insertion.{CutsFace, Extends, Follow, HangsAt, IsOldCorner, ReachesEnd, StandsAfter}
use Rattle.xn_model.specs.Lists.{at}
use Rattle.xn_model.specs.Map.{face_step}
use Rattle.xn_model.specs.Permutation.{Reaches}
use Rattle.xn_brute.specs.Insertions.{AreSegments, IsListing}
use Rattle.xn_brute.specs.declared.extensions.Growth.{Growth}

-- segments are in, others are to follow, and the list has the map of those that are in
pub record IsGrowing (web : Graph) (done rest next : List ℕ) : Type 0 where
  pub follow : Follow web.ends done rest
  pub segments : AreSegments web done
  pub listing : IsListing web next
  pub few : length web.ends ≤ 2 ^ 30

-- flat insertions of the rest lead from next to a last map
abbrev pub CanExtend : Graph → List ℕ → List ℕ → (ℕ → ℕ) → Type 0
CanExtend web done rest next = (last : ℕ → ℕ) × Extends web.ends done rest next last

-- what follows the segment can go in after it
abbrev pub CanGoOn : Growth → (ℕ → ℕ) → Type 0
CanGoOn growth after = CanExtend growth.web.now (growth.segment ∷ growth.done.now) growth.later.now after

-- the segment and those that follow it can still go in
abbrev pub IsNext : Growth → Type 0
IsNext growth = IsGrowing growth.web.now growth.done.now (growth.segment ∷ growth.later.now) growth.next.now

-- the segment is in, and the list has its map
abbrev pub IsDone : Growth → List ℕ → Type 0
IsDone growth after = IsGrowing growth.web.now (growth.segment ∷ growth.done.now) growth.later.now after

-- the segment can go in, and then what follows
abbrev pub CanInsert : Growth → Type 0
CanInsert growth = CanExtend growth.web.now growth.done.now (growth.segment ∷ growth.later.now) (at growth.next.now)

-- the first dart can go to the corner after c
abbrev pub IsFirstCorner : Growth → ℕ → Type 0
IsFirstCorner growth c = IsOldCorner growth.web.now.ends growth.done.now (2 * growth.segment) c

-- insertions of the list lead to its end
abbrev pub CanReachEnd : Graph → List ℕ → Type 0
CanReachEnd web list = (last : ℕ → ℕ) × ReachesEnd web.ends list last

-- the dart d can go to a corner, where the end with e is new, and then what follows
abbrev pub CanHang : Growth → ℕ → ℕ → Type 0
CanHang growth d e = (after : ℕ → ℕ) × HangsAt growth.web.now.ends growth.done.now d e (at growth.next.now) after × CanGoOn growth after

-- the darts can go to corners of one face, and then what follows
abbrev pub CanCut : Growth → Type 0
CanCut growth = (after : ℕ → ℕ) × CutsFace growth.web.now.ends growth.done.now growth.segment (at growth.next.now) after × CanGoOn growth after

-- the first dart goes after c, the second to a corner of the same face, and then what follows
pub record CanCutFrom (growth : Growth) (c : ℕ) : Type 0 where
  pub second : ℕ
  pub is_second : IsOldCorner growth.web.now.ends growth.done.now (2 * growth.segment + 1) second
  pub one_face : Reaches (face_step (at growth.next.now)) (at growth.next.now c) (at growth.next.now second)
  pub between : ℕ → ℕ
  pub after : ℕ → ℕ
  pub first_stands : StandsAfter (2 * length growth.web.now.ends) (2 * growth.segment) c (at growth.next.now) between
  pub second_stands : StandsAfter (2 * length growth.web.now.ends) (2 * growth.segment + 1) second between after
  pub goes_on : CanGoOn growth after
