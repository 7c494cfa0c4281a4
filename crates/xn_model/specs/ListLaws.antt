-- That the words on lists and counts mean what they say.
use Rattle.std.specs.Prelude.{◌≡◌, ◌↔◌, ◌⊎◌, ℕ, ◌+◌, ◌<◌, Bool, true, not, List, ◌++◌, length}
use Rattle.xn_model.specs.Lists.{at, has}
use Rattle.xn_model.specs.Permutation.{count_below}

-- what stands in a list has a place there
abbrev pub HasByPlace : Type 0
HasByPlace = (xs : List ℕ) (x : ℕ) → (has xs x ≡ true) ↔ ((k : ℕ) × (k < length xs) × (at xs k ≡ x))

-- what stands in two lists that are joined stands in one of them
abbrev pub HasInJoined : Type 0
HasInJoined = (xs ys : List ℕ) (x : ℕ) → (has (xs ++ ys) x ≡ true) ↔ ((has xs x ≡ true) ⊎ (has ys x ≡ true))

-- each number below a bound passes a test or doesn't
abbrev pub CountsBoth : Type 0
CountsBoth = (n : ℕ) (p : ℕ → Bool) → count_below n p + count_below n (λ x. not (p x)) ≡ n
