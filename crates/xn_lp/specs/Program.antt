use Rattle.std.specs.Prelude.{◌≡◌, ℕ, ◌+◌, ◌*◌, ◌<◌, ◌⊎◌, ℤ, pos, List, [], length, slice_index_or, ⊤}
use Rattle.xn_frac.specs.Ratio.{Ratio, whole, minus, times, IsNoMore, IsLess, IsRefused}
use Rattle.xn_lp.specs.Box.{sum_to, entry, IsInBox, IsLeast, IsGreatest}
use Rattle.xn_lp.specs.declared.program.LpRow.{LpRow}
use Rattle.xn_lp.specs.declared.program.Lp.{Lp}
use Rattle.xn_lp.specs.declared.program.LpAnswer.{LpAnswer}
use Rattle.xn_lp.specs.declared.program.LpAnswer.TheVariants.{Best, Nothing}
use Rattle.xn_lp.specs.declared.program.LpErr.{LpErr}
use Rattle.xn_lp.specs.declared.program.LpErr.TheVariants.{Wide, PivotCap, TooLarge, Memory}

-- the term at k: a column and its coefficient
abbrev pub term_at : List (ℕ × ℤ) → ℕ → ℕ × ℤ
term_at terms k = slice_index_or terms k (0, pos 0)

-- the row at i
abbrev pub row_at : Lp → ℕ → LpRow
row_at lp i = slice_index_or lp.rows i (record { terms = []; least = pos 0 })

-- the cost of column j
abbrev pub cost_at : Lp → ℕ → ℤ
cost_at lp j = slice_index_or lp.cost j (pos 0)

-- every term names a column
abbrev pub NamesColumns : Lp → Type 0
NamesColumns lp = (i k : ℕ) → i < length lp.rows → k < length (row_at lp i).terms → (term_at (row_at lp i).terms k).0 < length lp.cost

-- the sum of a row at x
abbrev pub row_sum : LpRow → (ℕ → Ratio) → Ratio
row_sum row x = sum_to (length row.terms) (λ k. times (whole (term_at row.terms k).1) (x (term_at row.terms k).0))

-- the cost of x
abbrev pub cost_of : Lp → (ℕ → Ratio) → Ratio
cost_of lp x = sum_to (length lp.cost) (λ j. times (whole (cost_at lp j)) (x j))

-- x lies in the box and meets every row
pub record IsPoint (lp : Lp) (x : ℕ → Ratio) : Type 0 where
  pub box : IsInBox (length lp.cost) x
  pub rows : (i : ℕ) → i < length lp.rows → IsNoMore (whole (row_at lp i).least) (row_sum (row_at lp i) x)

-- a number that is at least 0
pub record IsNatural (p : Ratio) : Type 0 where
  pub positive : 0 < p.den
  pub low : IsNoMore (whole (pos 0)) p

-- a multiplier of at least 0 for each row
abbrev pub AreMultipliers : Lp → (ℕ → Ratio) → Type 0
AreMultipliers lp y = (i : ℕ) → i < length lp.rows → IsNatural (y i)

-- how far the rows pass what they have to reach at x, each times its multiplier
abbrev pub surplus_of : Lp → (ℕ → Ratio) → (ℕ → Ratio) → Ratio
surplus_of lp y x = sum_to (length lp.rows) (λ i. times (y i) (minus (row_sum (row_at lp i) x) (whole (row_at lp i).least)))

-- the cost less that
abbrev pub priced_cost : Lp → (ℕ → Ratio) → (ℕ → Ratio) → Ratio
priced_cost lp y x = minus (cost_of lp x) (surplus_of lp y x)

-- the combined row's sum
abbrev pub combined_sum : Lp → (ℕ → Ratio) → (ℕ → Ratio) → Ratio
combined_sum lp y x = sum_to (length lp.rows) (λ i. times (y i) (row_sum (row_at lp i) x))

-- what the combined row has to reach
abbrev pub combined_least : Lp → (ℕ → Ratio) → Ratio
combined_least lp y = sum_to (length lp.rows) (λ i. times (y i) (whole (row_at lp i).least))

-- x is a point, y are multipliers, and their least value over the box is the cost of x
pub record IsBest (lp : Lp) (x y : ℕ → Ratio) : Type 0 where
  pub point : IsPoint lp x
  pub duals : AreMultipliers lp y
  pub equal : IsLeast (length lp.cost) (priced_cost lp y) (cost_of lp x)

-- y are multipliers, and what their row has to reach passes its greatest sum over the box
pub record IsRay (lp : Lp) (y : ℕ → Ratio) : Type 0 where
  pub ray : AreMultipliers lp y
  pub passes : (g : Ratio) × IsGreatest (length lp.cost) (combined_sum lp y) g × IsLess g (combined_least lp y)

-- what each answer says
abbrev pub AnswerHolds : Lp → LpAnswer → Type 0
AnswerHolds lp (Best point duals) = (length point ≡ length lp.cost) × (length duals ≡ length lp.rows) × IsBest lp (entry point) (entry duals)
AnswerHolds lp (Nothing ray) = (length ray ≡ length lp.rows) × IsRay lp (entry ray)

-- it has no point
abbrev pub HasNoPoint : Lp → Type 0
HasNoPoint lp = (x : ℕ → Ratio) → ¬ IsPoint lp x

-- the answer Nothing
abbrev pub IsNothing : LpAnswer → Type 0
IsNothing (Best point duals) = ⊥
IsNothing (Nothing ray) = ⊤

-- over 200 rows or over 2,000 columns
abbrev pub IsTooLarge : Lp → Type 0
IsTooLarge lp = (200 < length lp.rows) ⊎ (2000 < length lp.cost)

-- the cause of each refusal
abbrev pub HasCause : Lp → LpErr → Type 0
HasCause lp (Wide a b) = IsRefused a b
HasCause lp (PivotCap n) = n ≡ 64 * (length lp.rows + length lp.cost)
HasCause lp (TooLarge rows columns) = IsTooLarge lp × (rows ≡ length lp.rows) × (columns ≡ length lp.cost)
HasCause lp Memory = ⊤
