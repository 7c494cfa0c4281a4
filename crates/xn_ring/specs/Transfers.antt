-- Laws on two permutations that have the same cycles by different numbers.
use Rattle.std.specs.Prelude.{◌≡◌, ℕ, ◌<◌, ◌↔◌}
use Rattle.xn_model.specs.Permutation.{Permutes, Reaches, cycle_count}

-- a step of one is a walk of the other, there and back, and to go there and back is a walk
pub record IsTransfer (n k : ℕ) (f g there back : ℕ → ℕ) : Type 0 where
  pub there_in : (d : ℕ) → d < n → there d < k
  pub back_in : (d : ℕ) → d < k → back d < n
  pub there_walks : (d : ℕ) → d < n → Reaches g (there d) (there (f d))
  pub back_walks : (d : ℕ) → d < k → Reaches f (back d) (back (g d))
  pub round_there : (d : ℕ) → d < n → Reaches f d (back (there d))
  pub round_back : (d : ℕ) → d < k → Reaches g d (there (back d))

-- permutations of which each goes over into the other have as many cycles
abbrev pub TransfersKeepCycles : Type 0
TransfersKeepCycles =
    (n k : ℕ) (f g there back : ℕ → ℕ) → Permutes n f → Permutes k g → IsTransfer n k f g there back →
    (cycle_count n f ≡ cycle_count k g)
    × ((d e : ℕ) → d < n → e < n → Reaches f d e ↔ Reaches g (there d) (there e))

-- g has the cycles of f with each number d called r d
pub record IsRenumbered (n : ℕ) (r f g : ℕ → ℕ) : Type 0 where
  pub permutes : Permutes n g
  pub count : cycle_count n g ≡ cycle_count n f
  pub walks : (d e : ℕ) → d < n → e < n → Reaches g (r d) (r e) ↔ Reaches f d e

-- a renumbering of the numbers keeps the cycles
abbrev pub RenumberingKeepsCycles : Type 0
RenumberingKeepsCycles =
    (n : ℕ) (r f g : ℕ → ℕ) → Permutes n r → Permutes n f →
    ((d : ℕ) → d < n → g (r d) ≡ r (f d)) → IsRenumbered n r f g

-- g leads back where f led, in the same cycles
pub record IsInverse (n : ℕ) (f g : ℕ → ℕ) : Type 0 where
  pub permutes : Permutes n g
  pub undone : (d : ℕ) → d < n → f (g d) ≡ d
  pub count : cycle_count n g ≡ cycle_count n f
  pub walks : (d e : ℕ) → d < n → e < n → Reaches g d e ↔ Reaches f d e

-- what undoes a permutation from one side is its inverse
abbrev pub UndoingIsInverse : Type 0
UndoingIsInverse =
    (n : ℕ) (f g : ℕ → ℕ) → Permutes n f → ((d : ℕ) → d < n → g (f d) ≡ d) → IsInverse n f g

-- each permutation has one
abbrev pub InversesAreThere : Type 0
InversesAreThere =
    (n : ℕ) (f : ℕ → ℕ) → Permutes n f → (g : ℕ → ℕ) × ((d : ℕ) → d < n → g (f d) ≡ d)
