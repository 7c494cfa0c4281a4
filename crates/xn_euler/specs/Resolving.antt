-- A node with four darts that is resolved: two of its neighbouring darts become one segment, and so do the other two.
use Rattle.std.specs.Prelude.{◌≡◌, ◌≢◌, ℕ, suc, ◌*◌, ◌/◌, ◌<◌, ◌⊎◌, length}
use Rattle.xn_model.specs.Lists.{at}
use Rattle.xn_model.specs.Map.{tail_of}
use Rattle.xn_surgery.specs.Resolution.{IsResolution}
use Rattle.xn_map.specs.Listed.{ListedMap}
use Rattle.xn_euler.specs.declared.resolution.Way.{Way}
use Rattle.xn_euler.specs.declared.resolution.Way.TheVariants.{First, Second}

-- a, b, c and d are the darts of v as they follow each other round it, a the least
pub record AreFourDarts (m : ListedMap) (v a b c d : ℕ) : Type 0 where
  pub first_in : a < 2 * length m.web.ends
  pub at_node : tail_of m.web.ends a ≡ v
  pub to_second : at m.next a ≡ b
  pub to_third : at m.next b ≡ c
  pub to_fourth : at m.next c ≡ d
  pub to_first : at m.next d ≡ a
  pub least : (a < b) × (a < c) × (a < d)

-- z is a dart of the segment of x or of y
abbrev pub IsOfEither : ℕ → ℕ → ℕ → Type 0
IsOfEither x y z = (z / 2 ≡ x / 2) ⊎ (z / 2 ≡ y / 2)

-- x and y are of two segments, and z and w as well, also once the segments of x and y are one
pub record CanPart (x y z w : ℕ) : Type 0 where
  pub first_two : x / 2 ≢ y / 2
  pub last_two : z / 2 ≢ w / 2
  pub still_two : IsOfEither x y z → IsOfEither x y w → ⊥

-- the darts before and after the first cut, and before and after the second
abbrev pub CanPartBy : Way → ℕ → ℕ → ℕ → ℕ → Type 0
CanPartBy First a b c d = CanPart a b c d
CanPartBy Second a b c d = CanPart b c d a

-- v has four darts, and each two that come together are of two segments
abbrev pub CanResolve : ListedMap → ℕ → Way → Type 0
CanResolve m v how = (a b c d : ℕ) × AreFourDarts m v a b c d × CanPartBy how a b c d

-- the dart at which a cut is made, of two that follow each other
abbrev pub cut_at : Way → ℕ → ℕ → ℕ
cut_at First a b = a
cut_at Second a b = b

-- v is split before its first and its third dart, or before its second and its fourth; then the new node and v go
pub record Resolves (old : ListedMap) (v : ℕ) (how : Way) (new : ListedMap) : Type 0 where
  pub first : ℕ
  pub second : ℕ
  pub third : ℕ
  pub fourth : ℕ
  pub four : AreFourDarts old v first second third fourth
  pub fewer : old.web.nodes ≡ suc new.web.nodes
  pub resolved : IsResolution new.web.nodes old.web.ends (at old.next) (cut_at how first second) (cut_at how third fourth) new.web.ends (at new.next)

-- v can be split before x and before z
pub record IsCutBetween (m : ListedMap) (v : ℕ) (how : Way) (x z : ℕ) : Type 0 where
  pub first : ℕ
  pub second : ℕ
  pub third : ℕ
  pub fourth : ℕ
  pub four : AreFourDarts m v first second third fourth
  pub parts : CanPartBy how first second third fourth
  pub from_is : x ≡ cut_at how first second
  pub to_is : z ≡ cut_at how third fourth
