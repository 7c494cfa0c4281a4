use Rattle.std.specs.Prelude.{◌≡◌, ℕ, ◌%◌, ◌^◌, ◌<◌, unsigned_abs}
use Rattle.xn_frac.specs.Ratio.{Ratio, IsFrac}

-- a fraction with both numbers below 2^31
pub record IsShort (p : Ratio) : Type 0 where
  pub frac : IsFrac p
  pub num : unsigned_abs p.num < 2 ^ 31
  pub den : p.den < 2 ^ 31

-- neither number is a multiple of 2
abbrev pub AreOdd : ℕ → ℕ → Type 0
AreOdd m n = (m % 2 ≡ 1) × (n % 2 ≡ 1)
