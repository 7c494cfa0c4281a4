use Rattle.std.specs.Prelude.{◌≡◌, ◌≢◌, ◌⊎◌, ℕ, ◌*◌, ◌/◌, ◌^◌, ◌<◌, ℤ, pos, ◌+ℤ◌, ◌*ℤ◌, neg_ℤ, ◌<ℤ◌, ◌≤ℤ◌, unsigned_abs, Bool, if◌then◌else◌}
use Rattle.std.specs.Int.{IsGcd, is_negative}

-- a whole number over another one, which is above 0
pub record Ratio : Type 0 where
  pub num : ℤ
  pub den : ℕ

-- a whole number as a ratio
abbrev pub whole : ℤ → Ratio
whole n = record { num = n; den = 1 }

-- n over d
abbrev pub ratio_of : ℤ → ℤ → Ratio
ratio_of n d = record { num = n; den = unsigned_abs d }

-- the sum
abbrev pub plus : Ratio → Ratio → Ratio
plus p q = record { num = p.num *ℤ pos q.den +ℤ q.num *ℤ pos p.den; den = p.den * q.den }

-- the number with the other sign
abbrev pub minus_of : Ratio → Ratio
minus_of p = record { num = neg_ℤ p.num; den = p.den }

-- the difference
abbrev pub minus : Ratio → Ratio → Ratio
minus p q = plus p (minus_of q)

-- the product
abbrev pub times : Ratio → Ratio → Ratio
times p q = record { num = p.num *ℤ q.num; den = p.den * q.den }

-- -m or m
abbrev pub signed : Bool → ℕ → ℤ
signed negative m = if negative then neg_ℤ (pos m) else pos m

-- one over the number, which is not 0
abbrev pub inverse_of : Ratio → Ratio
inverse_of p = record { num = signed (is_negative p.num) p.den; den = unsigned_abs p.num }

-- the quotient
abbrev pub over : Ratio → Ratio → Ratio
over p q = times p (inverse_of q)

-- both are one number
abbrev pub Same : Ratio → Ratio → Type 0
Same p q = p.num *ℤ pos q.den ≡ q.num *ℤ pos p.den

-- the first is the smaller number
abbrev pub IsLess : Ratio → Ratio → Type 0
IsLess p q = (p.num *ℤ pos q.den) <ℤ (q.num *ℤ pos p.den)

-- the first is not the greater number
abbrev pub IsNoMore : Ratio → Ratio → Type 0
IsNoMore p q = (p.num *ℤ pos q.den) ≤ℤ (q.num *ℤ pos p.den)

-- z lies between -2^127 and 2^127, both left out
abbrev pub IsInRange : ℤ → Type 0
IsInRange z = unsigned_abs z < 2 ^ 127

-- in lowest terms, with both numbers in range
pub record IsFrac (p : Ratio) : Type 0 where
  pub positive : 0 < p.den
  pub lowest : IsGcd (unsigned_abs p.num) p.den 1
  pub num_in_range : IsInRange p.num
  pub den_in_range : IsInRange (pos p.den)

-- p is the number q, in lowest terms and in range
pub record IsFracOf (q p : Ratio) : Type 0 where
  pub frac : IsFrac p
  pub same : Same p q

-- the numerator of a sum over the common part g of the two denominators
abbrev pub sum_num : Ratio → Ratio → ℕ → ℤ
sum_num p q g = p.num *ℤ pos (q.den / g) +ℤ q.num *ℤ pos (p.den / g)

-- its denominator
abbrev pub sum_den : Ratio → Ratio → ℕ → ℕ
sum_den p q g = p.den / g * q.den

-- the numbers met on the way to that sum are in range
pub record SumFits (p q : Ratio) (g : ℕ) : Type 0 where
  pub left : IsInRange (p.num *ℤ pos (q.den / g))
  pub right : IsInRange (q.num *ℤ pos (p.den / g))
  pub num : IsInRange (sum_num p q g)
  pub den : IsInRange (pos (sum_den p q g))

-- the sum over the greatest common part is made of numbers in range
abbrev pub CanAdd : Ratio → Ratio → Type 0
CanAdd p q = (g : ℕ) × IsGcd p.den q.den g × SumFits p q g

-- so is the difference
abbrev pub CanSub : Ratio → Ratio → Type 0
CanSub p q = CanAdd p (minus_of q)

-- the product in lowest terms is in range
abbrev pub CanMul : Ratio → Ratio → Type 0
CanMul p q = (r : Ratio) × IsFracOf (times p q) r

-- the quotient in lowest terms is in range
abbrev pub CanDiv : Ratio → Ratio → Type 0
CanDiv p q = (r : Ratio) × IsFracOf (over p q) r

-- one of the four operations on these two does not fit
abbrev pub IsRefused : Ratio → Ratio → Type 0
IsRefused p q = ∥ (¬ CanAdd p q) ⊎ ((¬ CanSub p q) ⊎ ((¬ CanMul p q) ⊎ ((q.num ≢ pos 0) × (¬ CanDiv p q)))) ∥₁
