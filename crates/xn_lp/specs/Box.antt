use Rattle.std.specs.Prelude.{ℕ, zero, suc, ◌<◌, pos, List, slice_index_or, if◌then◌else◌}
use Rattle.std.specs.Int.{is_negative}
use Rattle.xn_frac.specs.Ratio.{Ratio, whole, plus, Same, IsNoMore}

-- f 0 + .. + f (n - 1)
abbrev pub sum_to : ℕ → (ℕ → Ratio) → Ratio
sum_to zero f = whole (pos 0)
sum_to (suc n) f = plus (sum_to n f) (f n)

-- the entry at i, and 0 past the end
abbrev pub entry : List Ratio → ℕ → Ratio
entry xs i = slice_index_or xs i (whole (pos 0))

-- a number from 0 to 1
pub record IsInUnit (p : Ratio) : Type 0 where
  pub positive : 0 < p.den
  pub low : IsNoMore (whole (pos 0)) p
  pub high : IsNoMore p (whole (pos 1))

-- the first n numbers are from 0 to 1
abbrev pub IsInBox : ℕ → (ℕ → Ratio) → Type 0
IsInBox n x = (j : ℕ) → j < n → IsInUnit (x j)

-- v is the least value of f over the box
pub record IsLeast (n : ℕ) (f : (ℕ → Ratio) → Ratio) (v : Ratio) : Type 0 where
  pub positive : 0 < v.den
  pub bound : (x : ℕ → Ratio) → IsInBox n x → IsNoMore v (f x)
  pub reached : (x : ℕ → Ratio) × IsInBox n x × Same (f x) v

-- v is the greatest value of f over the box
pub record IsGreatest (n : ℕ) (f : (ℕ → Ratio) → Ratio) (v : Ratio) : Type 0 where
  pub positive : 0 < v.den
  pub bound : (x : ℕ → Ratio) → IsInBox n x → IsNoMore (f x) v
  pub reached : (x : ℕ → Ratio) × IsInBox n x × Same (f x) v

-- the number where it is below 0, else 0
abbrev pub low_of : Ratio → Ratio
low_of p = if is_negative p.num then p else whole (pos 0)
