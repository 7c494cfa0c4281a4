-- What the calls that change a map leave.
use Rattle.std.specs.Prelude.{◌≡◌, ℕ, ◌+◌, ◌*◌, ◌<◌, ◌≤◌, ◌==◌, List, length, if◌then◌else◌}
use Rattle.xn_model.specs.Lists.{at}
use Rattle.xn_model.specs.Map.{MeetsEuler}
use Rattle.xn_model.specs.Permutation.{Permutes, without}
use Rattle.xn_genus.specs.Deletion.{IsDeletion, dart_before}
use Rattle.xn_surgery.specs.Corners as laws
use Rattle.xn_surgery.specs.Insertion.{IsInsertion}
use Rattle.xn_map.specs.Listed.{ListedMap}
use Rattle.xn_map.specs.declared.corners.Corner.{Corner}
use Rattle.xn_map.specs.declared.corners.Corner.TheVariants.{After, Lone}

-- the corner in the words of the laws
abbrev pub corner_of : Corner → laws.Corner
corner_of (After d) = laws.after d
corner_of (Lone v) = laws.lone v

-- the node of a corner
abbrev pub node_of : ListedMap → Corner → ℕ
node_of m c = laws.node_of m.web.ends (corner_of c)

-- where the map was flat it is flat
abbrev pub StaysFlat : ListedMap → ListedMap → Type 0
StaysFlat old new = MeetsEuler old.web.nodes old.web.ends (at old.next) → MeetsEuler new.web.nodes new.web.ends (at new.next)

-- one segment more, the last, from corner to corner
abbrev pub Inserts : ListedMap → Corner → Corner → ListedMap → Type 0
Inserts old a b new =
    (new.web.nodes ≡ old.web.nodes)
    × IsInsertion old.web.nodes old.web.ends (at old.next) (corner_of a) (corner_of b) new.web.ends (at new.next)

-- the dart before the corner, where there is one, is below the bound and isn't z
abbrev pub IsFreeCorner : ℕ → ℕ → Corner → Type 0
IsFreeCorner n z (After d) = (d < n) × (¬ (d ≡ z))
IsFreeCorner n z (Lone v) = Unit {0}

-- z, which was alone, stands in the corner
abbrev pub Stands : Corner → ℕ → List ℕ → List ℕ → Type 0
Stands c z old new = (length new ≡ length old) × ((x : ℕ) → x < length old → at new x ≡ laws.stand_at (corner_of c) z (at old) x)

-- a segment is gone, and the last one has its number
abbrev pub Deletes : ListedMap → ℕ → ListedMap → Type 0
Deletes old s new =
    (new.web.nodes ≡ old.web.nodes) × IsDeletion old.web.ends (at old.next) s new.web.ends (at new.next)

-- d is alone, and what led to it leads past it
abbrev pub TakesDartOut : ℕ → List ℕ → List ℕ → Type 0
TakesDartOut d old new = (length new ≡ length old) × ((x : ℕ) → x < length old → at new x ≡ without d (at old) x)

-- the number of a dart once x is called d
abbrev pub new_name : ℕ → ℕ → ℕ → ℕ
new_name x d y = if y == x then d else y

-- d, which was alone, stands where x stood, and x is alone
abbrev pub TakesPlace : ℕ → ℕ → List ℕ → List ℕ → Type 0
TakesPlace x d old new =
    (length new ≡ length old)
    × ((y : ℕ) → y < length old → at new y ≡ (if y == x then x else new_name x d (at old (if y == d then x else y))))

-- the last segment stands where s, which was out, would stand, and is out
pub record IsFilled (s last : ℕ) (old new : List ℕ) : Type 0 where
  pub same_length : length new ≡ length old
  pub turns : (d : ℕ) → d < 2 * last → dart_before s last (at new d) ≡ at old (dart_before s last d)
  pub below : (d : ℕ) → d < 2 * last → at new d < 2 * last
  pub first_alone : at new (2 * last) ≡ 2 * last
  pub second_alone : at new (2 * last + 1) ≡ 2 * last + 1

-- the two darts of a segment are alone, in a permutation of the darts up to those of the last segment
pub record IsOut (s last : ℕ) (next : List ℕ) : Type 0 where
  pub is_there : s ≤ last
  pub size : length next ≡ 2 * last + 2
  pub permutes : Permutes (length next) (at next)
  pub first_alone : at next (2 * s) ≡ 2 * s
  pub second_alone : at next (2 * s + 1) ≡ 2 * s + 1
