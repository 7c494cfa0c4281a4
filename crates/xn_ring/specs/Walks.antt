-- Laws on the walks of a permutation.
use Rattle.std.specs.Prelude.{◌≡◌, ℕ, suc, ◌<◌, ◌≤◌, ◌⊎◌, ◌↔◌, true}
use Rattle.xn_model.specs.Permutation.{Permutes, Reaches, cycle_count, is_least, iterate}

-- a walk comes back within n steps
abbrev pub WalksComeBack : Type 0
WalksComeBack =
    (n : ℕ) (f : ℕ → ℕ) → Permutes n f →
    (d : ℕ) → d < n → (k : ℕ) × (k < n) × (iterate f (suc k) d ≡ d)

-- what a walk comes to is below the bound, and leads back
abbrev pub WalksLeadBack : Type 0
WalksLeadBack =
    (n : ℕ) (f : ℕ → ℕ) → Permutes n f →
    (d e : ℕ) → d < n → Reaches f d e → (e < n) × Reaches f e d

-- a walk goes on from where another ends
abbrev pub WalksGoOn : Type 0
WalksGoOn = (f : ℕ → ℕ) (c d e : ℕ) → Reaches f c d → Reaches f d e → Reaches f c e

-- the walk from d comes to e, or never does
abbrev pub WalksAreDecided : Type 0
WalksAreDecided =
    (n : ℕ) (f : ℕ → ℕ) → Permutes n f →
    (d e : ℕ) → d < n → Reaches f d e ⊎ (¬ Reaches f d e)

-- something leads to each number
abbrev pub EachIsLedTo : Type 0
EachIsLedTo =
    (n : ℕ) (f : ℕ → ℕ) → Permutes n f →
    (d : ℕ) → d < n → (c : ℕ) × (c < n) × (f c ≡ d)

-- the test says that no number of the walk is smaller
abbrev pub LeastIsLeast : Type 0
LeastIsLeast =
    (n : ℕ) (f : ℕ → ℕ) → Permutes n f →
    (d : ℕ) → d < n → (is_least n f d ≡ true) ↔ ((e : ℕ) → Reaches f d e → d ≤ e)

-- m is the one number on the walk from d that is least
pub record IsLeastOf (n : ℕ) (f : ℕ → ℕ) (d m : ℕ) : Type 0 where
  pub below : m < n
  pub there : Reaches f d m
  pub least : is_least n f m ≡ true
  pub only : (e : ℕ) → Reaches f d e → is_least n f e ≡ true → e ≡ m

-- each walk has just one such number: so the number of cycles is their number
abbrev pub EachWalkHasOneLeast : Type 0
EachWalkHasOneLeast =
    (n : ℕ) (f : ℕ → ℕ) → Permutes n f →
    (d : ℕ) → d < n → (m : ℕ) × IsLeastOf n f d m

-- g goes the ways of f below n
pub record GoesTheSameWays (n : ℕ) (f g : ℕ → ℕ) : Type 0 where
  pub permutes : Permutes n g
  pub count : cycle_count n g ≡ cycle_count n f
  pub walks : (d k : ℕ) → d < n → iterate g k d ≡ iterate f k d

-- to agree below n is enough for that
abbrev pub AgreeingIsEnough : Type 0
AgreeingIsEnough =
    (n : ℕ) (f g : ℕ → ℕ) → Permutes n f →
    ((d : ℕ) → d < n → g d ≡ f d) → GoesTheSameWays n f g
