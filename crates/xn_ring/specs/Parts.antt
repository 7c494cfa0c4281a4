-- Laws on the cycles of a part of the numbers.
use Rattle.std.specs.Prelude.{◌≡◌, ℕ, ◌+◌, ◌*◌, ◌<◌, ◌≤◌, ◌↔◌, ◌&&◌, Bool, true, not, All, List, length, nat_eq}
use Rattle.std.specs.List.{IsDistinct, list_any}
use Rattle.xn_model.specs.Permutation.{Permutes, Reaches, count_below, cycle_count, is_least, walk}
use Rattle.xn_ring.specs.Removals.{IsNextKept}

-- the number of cycles that hold a number which passes
abbrev pub cycle_count_with : ℕ → (ℕ → ℕ) → (ℕ → Bool) → ℕ
cycle_count_with n f p = count_below n (λ d. is_least n f d && list_any p (walk f n d))

-- where all pass these are all cycles
abbrev pub AllCyclesHold : Type 0
AllCyclesHold =
    (n : ℕ) (f : ℕ → ℕ) (p : ℕ → Bool) → ((d : ℕ) → d < n → p d ≡ true) →
    cycle_count_with n f p ≡ cycle_count n f

-- where each number leads to one that passes like itself, walks stay among those
abbrev pub WalksStay : Type 0
WalksStay =
    (n : ℕ) (f : ℕ → ℕ) (p : ℕ → Bool) → Permutes n f → ((d : ℕ) → d < n → p (f d) ≡ p d) →
    (d e : ℕ) → d < n → Reaches f d e → p e ≡ p d

-- and the two parts make up all cycles
abbrev pub PartsAddUp : Type 0
PartsAddUp =
    (n : ℕ) (f : ℕ → ℕ) (p : ℕ → Bool) → Permutes n f → ((d : ℕ) → d < n → p (f d) ≡ p d) →
    cycle_count n f ≡ cycle_count_with n f p + cycle_count_with n f (λ d. not (p d))

-- of the marks below b, each at a place, the walk from d comes to the places of m different ones
pub record HoldsMarks (b m : ℕ) (marked : ℕ → Bool) (place : ℕ → ℕ) (f : ℕ → ℕ) (d : ℕ) : Type 0 where
  pub marks : List ℕ
  pub enough : length marks ≡ m
  pub different : IsDistinct nat_eq marks
  pub there : All (λ t. (t < b) × (marked t ≡ true) × Reaches f d (place t)) marks

-- where each cycle with a number that passes holds m marks, m times their number is at most the number of marks
abbrev pub MarksAreMany : Type 0
MarksAreMany =
    (n b m : ℕ) (f place : ℕ → ℕ) (p marked : ℕ → Bool) → Permutes n f →
    ((d : ℕ) → d < n → p d ≡ true → HoldsMarks b m marked place f d) →
    m * cycle_count_with n f p ≤ count_below b marked

-- the numbers below k stand for the kept numbers below n, and g leads to the next kept number along f
pub record IsRestriction (n k : ℕ) (keep : ℕ → Bool) (code : ℕ → ℕ) (f g : ℕ → ℕ) : Type 0 where
  pub code_in : (j : ℕ) → j < k → (code j < n) × (keep (code j) ≡ true)
  pub apart : (i j : ℕ) → i < k → j < k → code i ≡ code j → i ≡ j
  pub onto : (d : ℕ) → d < n → keep d ≡ true → (j : ℕ) × (j < k) × (code j ≡ d)
  pub steps : (j : ℕ) → j < k → (g j < k) × IsNextKept f keep (code j) (code (g j))

-- g on the numbers below k has the cycles of f that hold a kept number
pub record HasCyclesOf (n k : ℕ) (keep : ℕ → Bool) (code : ℕ → ℕ) (f g : ℕ → ℕ) : Type 0 where
  pub permutes : Permutes k g
  pub count : cycle_count k g ≡ cycle_count_with n f keep
  pub walks : (i j : ℕ) → i < k → j < k → Reaches g i j ↔ Reaches f (code i) (code j)

-- a restriction does
abbrev pub RestrictionsKeepCycles : Type 0
RestrictionsKeepCycles =
    (n k : ℕ) (keep : ℕ → Bool) (code f g : ℕ → ℕ) → Permutes n f →
    IsRestriction n k keep code f g → HasCyclesOf n k keep code f g

-- f is g below n, and h on the k numbers from n on
pub record IsBeside (n k : ℕ) (g h f : ℕ → ℕ) : Type 0 where
  pub low : (d : ℕ) → d < n → f d ≡ g d
  pub high : (d : ℕ) → d < k → f (n + d) ≡ n + h d

-- and has their cycles
pub record HasCyclesOfBoth (n k : ℕ) (g h f : ℕ → ℕ) : Type 0 where
  pub permutes : Permutes (n + k) f
  pub count : cycle_count (n + k) f ≡ cycle_count n g + cycle_count k h
  pub low : (d e : ℕ) → d < n → e < n → Reaches f d e ↔ Reaches g d e
  pub high : (d e : ℕ) → d < k → e < k → Reaches f (n + d) (n + e) ↔ Reaches h d e
  pub across : (d e : ℕ) → d < n → e < k → (¬ Reaches f d (n + e)) × (¬ Reaches f (n + e) d)

-- two halves beside each other are a permutation
abbrev pub HalvesAddUp : Type 0
HalvesAddUp =
    (n k : ℕ) (g h f : ℕ → ℕ) → Permutes n g → Permutes k h → IsBeside n k g h f → HasCyclesOfBoth n k g h f

-- and a permutation that keeps the numbers below n is two halves
abbrev pub HalvesComeApart : Type 0
HalvesComeApart =
    (n k : ℕ) (f : ℕ → ℕ) → Permutes (n + k) f → ((d : ℕ) → d < n → f d < n) →
    (h : ℕ → ℕ) × Permutes n f × Permutes k h × IsBeside n k f h f

-- k numbers on top that are each alone are k more cycles
abbrev pub TopIsAlone : Type 0
TopIsAlone =
    (n k : ℕ) (f : ℕ → ℕ) → ((d : ℕ) → n ≤ d → d < n + k → f d ≡ d) →
    (Permutes (n + k) f ↔ Permutes n f) × (Permutes n f → cycle_count (n + k) f ≡ cycle_count n f + k)

-- two numbers on top that lead to each other are one more cycle
abbrev pub TopIsAPair : Type 0
TopIsAPair =
    (n : ℕ) (f : ℕ → ℕ) → f n ≡ n + 1 → f (n + 1) ≡ n →
    (Permutes (n + 2) f ↔ Permutes n f) × (Permutes n f → cycle_count (n + 2) f ≡ cycle_count n f + 1)
