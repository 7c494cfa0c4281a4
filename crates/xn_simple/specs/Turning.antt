-- Some darts of a map under numbers of their own, and the rotation among them.
use Rattle.std.specs.Prelude.{◌≡◌, ℕ, ◌<◌, List, length}
use Rattle.xn_model.specs.Lists.{at}

-- the listed darts are different darts below the bound
pub record AreDartsOnce (count : ℕ) (starts : List ℕ) : Type 0 where
  pub below : (x : ℕ) → x < length starts → at starts x < count
  pub apart : (x y : ℕ) → x < length starts → y < length starts → at starts x ≡ at starts y → x ≡ y

-- and after each comes one of them
pub record AreStarts (count : ℕ) (next : ℕ → ℕ) (starts : List ℕ) : Type 0 where
  pub below : (x : ℕ) → x < length starts → at starts x < count
  pub apart : (x y : ℕ) → x < length starts → y < length starts → at starts x ≡ at starts y → x ≡ y
  pub closed : (x : ℕ) → x < length starts → (y : ℕ) × (y < length starts) × (at starts y ≡ next (at starts x))

-- each listed dart is at its place
abbrev pub HoldPlaces : List ℕ → List ℕ → Type 0
HoldPlaces starts places = (x : ℕ) → x < length starts → at places (at starts x) ≡ x

-- the numbers of the listed darts turn as the darts do
pub record TurnsAlong (next : ℕ → ℕ) (starts turns : List ℕ) : Type 0 where
  pub size : length turns ≡ length starts
  pub below : (x : ℕ) → x < length starts → at turns x < length starts
  pub leads : (x : ℕ) → x < length starts → at starts (at turns x) ≡ next (at starts x)
