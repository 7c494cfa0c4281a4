-- The first number of which something is true.
use Rattle.std.specs.Prelude.{ℕ, ◌<◌}

-- n is the first number of which P is true
pub record IsFirst (P : ℕ → Type 0) (n : ℕ) : Type 0 where
  pub here : P n
  pub before : (m : ℕ) → m < n → ¬ (P m)
