-- Permutations of the numbers below n, as functions, and the number of their cycles.
use Rattle.std.specs.Prelude.{◌≡◌, ◌≢◌, ℕ, zero, suc, ◌+◌, ◌<◌, Bool, List, [], ◌∷◌, nat_le, ◌==◌, if◌then◌else◌}
use Rattle.std.specs.List.{list_all}
use Rattle.xn_model.specs.Lists.{one_if}

-- f permutes the numbers below n
pub record Permutes (n : ℕ) (f : ℕ → ℕ) : Type 0 where
  pub below : (d : ℕ) → d < n → f d < n
  pub apart : (d e : ℕ) → d < n → e < n → f d ≡ f e → d ≡ e

-- f applied k times to d
abbrev pub iterate : (ℕ → ℕ) → ℕ → ℕ → ℕ
iterate f zero d = d
iterate f (suc k) d = f (iterate f k d)

-- the first k numbers of the walk d, f d, f (f d) and so on
abbrev pub walk : (ℕ → ℕ) → ℕ → ℕ → List ℕ
walk f zero d = []
walk f (suc k) d = d ∷ walk f k (f d)

-- how many numbers below n pass
abbrev pub count_below : ℕ → (ℕ → Bool) → ℕ
count_below zero p = 0
count_below (suc n) p = count_below n p + one_if (p n)

-- d is the least of its cycle
abbrev pub is_least : ℕ → (ℕ → ℕ) → ℕ → Bool
is_least n f d = list_all (λ e. nat_le d e) (walk f n d)

-- the number of cycles
abbrev pub cycle_count : ℕ → (ℕ → ℕ) → ℕ
cycle_count n f = count_below n (is_least n f)

-- the walk from d comes to e
abbrev pub Reaches : (ℕ → ℕ) → ℕ → ℕ → Type 0
Reaches f d e = (k : ℕ) × (iterate f k d ≡ e)

-- g is f but that the successors of a and b are swapped
pub record IsSplice (n a b : ℕ) (f g : ℕ → ℕ) : Type 0 where
  pub first : g a ≡ f b
  pub second : g b ≡ f a
  pub others : (d : ℕ) → d < n → d ≢ a → d ≢ b → g d ≡ f d

-- f with d alone, and what led to d leading past it
abbrev pub without : ℕ → (ℕ → ℕ) → ℕ → ℕ
without d f x = if x == d then d else (if f x == d then f d else f x)
