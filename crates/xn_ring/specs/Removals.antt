-- Laws on numbers taken out of a permutation.
use Rattle.std.specs.Prelude.{◌≡◌, ◌≢◌, ℕ, suc, ◌+◌, ◌<◌, ◌↔◌, Bool, true, false, not, List, [], ◌∷◌}
use Rattle.xn_model.specs.Lists.{has}
use Rattle.xn_model.specs.Permutation.{Permutes, Reaches, cycle_count, iterate, without}

-- g is f but that x is alone, and the walks of the others pass it by
pub record IsTakenOut (n x : ℕ) (f g : ℕ → ℕ) : Type 0 where
  pub permutes : Permutes n g
  pub alone : g x ≡ x
  pub unmoved : f x ≡ x → (d : ℕ) → d < n → g d ≡ f d
  pub moved : f x ≢ x → cycle_count n g ≡ cycle_count n f + 1
  pub walks : (d e : ℕ) → d < n → e < n → d ≢ x → e ≢ x → Reaches g d e ↔ Reaches f d e

-- one number is taken out
abbrev pub TakesOut : Type 0
TakesOut = (n x : ℕ) (f : ℕ → ℕ) → Permutes n f → x < n → IsTakenOut n x f (without x f)

-- f with each listed number taken out, the last of the list first
abbrev pub without_all : List ℕ → (ℕ → ℕ) → ℕ → ℕ
without_all [] f = f
without_all (x ∷ xs) f = without x (without_all xs f)

-- z is the first of f d, f (f d) and so on that passes
pub record IsNextKept (f : ℕ → ℕ) (keep : ℕ → Bool) (d z : ℕ) : Type 0 where
  pub steps : ℕ
  pub there : iterate f (suc steps) d ≡ z
  pub kept : keep z ≡ true
  pub passed : (i : ℕ) → i < steps → keep (iterate f (suc i) d) ≡ false

-- g is f with the listed numbers alone, and each other leads to the next that is not listed
pub record IsAllTakenOut (n : ℕ) (xs : List ℕ) (f g : ℕ → ℕ) : Type 0 where
  pub permutes : Permutes n g
  pub alone : (x : ℕ) → has xs x ≡ true → g x ≡ x
  pub others : (d : ℕ) → d < n → has xs d ≡ false → IsNextKept f (λ y. not (has xs y)) d (g d)

-- several numbers are taken out: their order makes no difference
abbrev pub TakesAllOut : Type 0
TakesAllOut =
    (n : ℕ) (xs : List ℕ) (f : ℕ → ℕ) → Permutes n f → IsAllTakenOut n xs f (without_all xs f)
