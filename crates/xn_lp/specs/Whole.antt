use Rattle.std.specs.Prelude.{◌≡◌, ℕ, zero, suc, ◌<◌, ℤ, pos, ◌+ℤ◌, ◌-ℤ◌, ◌*ℤ◌, ◌≤ℤ◌, ◌<ℤ◌, List, length, slice_index_or, if◌then◌else◌}
use Rattle.std.specs.Int.{is_negative}
use Rattle.xn_frac.specs.Ratio.{Ratio}
use Rattle.xn_lp.specs.Box.{entry}
use Rattle.xn_lp.specs.Program.{term_at, row_at}
use Rattle.xn_lp.specs.declared.program.LpRow.{LpRow}
use Rattle.xn_lp.specs.declared.program.Lp.{Lp}

-- f 0 + .. + f (n - 1)
abbrev pub total_to : ℕ → (ℕ → ℤ) → ℤ
total_to zero f = pos 0
total_to (suc n) f = total_to n f +ℤ f n

-- the number at i, and 0 past the end
abbrev pub number_at : List ℤ → ℕ → ℤ
number_at xs i = slice_index_or xs i (pos 0)

-- p is u over d
pub record IsOver (p : Ratio) (u d : ℤ) : Type 0 where
  pub positive : 0 < p.den
  pub value : p.num *ℤ d ≡ u *ℤ pos p.den

-- n is a multiple of d
abbrev pub Divides : ℕ → ℤ → Type 0
Divides d n = (k : ℤ) × (n ≡ k *ℤ pos d)

-- the numbers are the fractions over d
pub record AreOver (xs : List Ratio) (us : List ℤ) (d : ℤ) : Type 0 where
  pub positive : pos 0 <ℤ d
  pub len : length us ≡ length xs
  pub each : (i : ℕ) → i < length xs → IsOver (entry xs i) (number_at us i) d

-- the first n numbers are from 0 to d
abbrev pub AreWithin : ℕ → (ℕ → ℤ) → ℤ → Type 0
AreWithin n u d = (j : ℕ) → j < n → (pos 0 ≤ℤ u j) × (u j ≤ℤ d)

-- the sum of terms at u
abbrev pub terms_total : List (ℕ × ℤ) → (ℕ → ℤ) → ℤ
terms_total terms u = total_to (length terms) (λ k. (term_at terms k).1 *ℤ u (term_at terms k).0)

-- the sum of a row at u
abbrev pub row_total : LpRow → (ℕ → ℤ) → ℤ
row_total row u = terms_total row.terms u

-- the sum of numbers, each times its own of u
abbrev pub weighted_total : List ℤ → (ℕ → ℤ) → ℤ
weighted_total xs u = total_to (length xs) (λ j. number_at xs j *ℤ u j)

-- z where it is below 0, else 0
abbrev pub low_part : ℤ → ℤ
low_part z = if is_negative z then z else pos 0

-- every term names one of the first n columns
abbrev pub NameBelow : List (ℕ × ℤ) → ℕ → Type 0
NameBelow terms n = (k : ℕ) → k < length terms → (term_at terms k).0 < n

-- the cost of u
abbrev pub cost_total : Lp → (ℕ → ℤ) → ℤ
cost_total lp u = weighted_total lp.cost u

-- the sum of the rows, each times its multiplier
abbrev pub combined_total : Lp → (ℕ → ℤ) → (ℕ → ℤ) → ℤ
combined_total lp q u = total_to (length lp.rows) (λ i. q i *ℤ row_total (row_at lp i) u)

-- what the rows have to reach, each times its multiplier
abbrev pub combined_reach : Lp → (ℕ → ℤ) → ℤ
combined_reach lp q = total_to (length lp.rows) (λ i. q i *ℤ (row_at lp i).least)

-- w times the cost, less the combined rows beyond what they have to reach, at u over d
abbrev pub priced_total : Lp → ℤ → (ℕ → ℤ) → (ℕ → ℤ) → ℤ → ℤ
priced_total lp w q u d = w *ℤ cost_total lp u -ℤ combined_total lp q u +ℤ combined_reach lp q *ℤ d

-- v is the least of that over the box
pub record IsLeastTotal (lp : Lp) (w : ℤ) (q : ℕ → ℤ) (v : ℤ) : Type 0 where
  pub bound : (u : ℕ → ℤ) (d : ℤ) → pos 0 ≤ℤ d → AreWithin (length lp.cost) u d → (v *ℤ d) ≤ℤ priced_total lp w q u d
  pub reached : (u : ℕ → ℤ) × AreWithin (length lp.cost) u (pos 1) × (priced_total lp w q u (pos 1) ≡ v)

-- no number is below 0
abbrev pub AreNatural : List ℤ → Type 0
AreNatural xs = (i : ℕ) → i < length xs → pos 0 ≤ℤ number_at xs i

-- u over d meets every row
abbrev pub MeetsRows : Lp → (ℕ → ℤ) → ℤ → Type 0
MeetsRows lp u d = (i : ℕ) → i < length lp.rows → ((row_at lp i).least *ℤ d) ≤ℤ row_total (row_at lp i) u

-- u over d lies in the box and meets every row
pub record IsPointTotal (lp : Lp) (u : List ℤ) (d : ℤ) : Type 0 where
  pub within : AreWithin (length u) (number_at u) d
  pub meets : MeetsRows lp (number_at u) d

-- a point u over d and multipliers q over z whose least value is the point's cost
pub record IsBestTotal (lp : Lp) (u : List ℤ) (d : ℤ) (q : List ℤ) (z : ℤ) : Type 0 where
  pub point : IsPointTotal lp u d
  pub natural : AreNatural q
  pub equal : (v : ℤ) × IsLeastTotal lp z (number_at q) v × (cost_total lp (number_at u) *ℤ z ≡ v *ℤ d)
