-- Laws on a swap of two successors: it joins two cycles, or splits one.
use Rattle.std.specs.Prelude.{◌≡◌, ◌≢◌, ℕ, ◌+◌, ◌<◌, ◌⊎◌, ◌↔◌, List, length, swap}
use Rattle.xn_model.specs.Lists.{at}
use Rattle.xn_model.specs.Permutation.{IsSplice, Permutes, Reaches, cycle_count, iterate}

-- what a swap leaves is a permutation
abbrev pub SwapsPermute : Type 0
SwapsPermute =
    (n a b : ℕ) (f g : ℕ → ℕ) → Permutes n f → IsSplice n a b f g → a < n → b < n → Permutes n g

-- a swap undone is a swap
abbrev pub SwapsAreUndone : Type 0
SwapsAreUndone = (n a b : ℕ) (f g : ℕ → ℕ) → IsSplice n a b f g → IsSplice n a b g f

-- a swap of a successor with itself changes nothing
abbrev pub SwapsOfOne : Type 0
SwapsOfOne = (n a : ℕ) (f g : ℕ → ℕ) → IsSplice n a a f g → (d : ℕ) → d < n → g d ≡ f d

-- g has the cycles of f, but those of a and b are two in f and one in g
pub record JoinsCycles (n a b : ℕ) (f g : ℕ → ℕ) : Type 0 where
  pub two : ¬ Reaches f a b
  pub one : Reaches g a b
  pub count : cycle_count n f ≡ cycle_count n g + 1
  pub walks : (d e : ℕ) → d < n → e < n →
      Reaches g d e ↔ (Reaches f d e ⊎ ((Reaches f d a × Reaches f b e) ⊎ (Reaches f d b × Reaches f a e)))

-- a swap of two successors in two cycles joins them
abbrev pub SwapsJoin : Type 0
SwapsJoin =
    (n a b : ℕ) (f g : ℕ → ℕ) → Permutes n f → IsSplice n a b f g → a < n → b < n →
    ¬ Reaches f a b → JoinsCycles n a b f g

-- a swap of two successors in one cycle splits it: the way back is a joining
abbrev pub SwapsSplit : Type 0
SwapsSplit =
    (n a b : ℕ) (f g : ℕ → ℕ) → Permutes n f → IsSplice n a b f g → a < n → b < n →
    a ≢ b → Reaches f a b → JoinsCycles n a b g f

-- a walk that meets neither of the two stays as it is
abbrev pub SwapsLeaveOthers : Type 0
SwapsLeaveOthers =
    (n a b : ℕ) (f g : ℕ → ℕ) → Permutes n f → IsSplice n a b f g →
    (d : ℕ) → d < n → ¬ Reaches f d a → ¬ Reaches f d b → (k : ℕ) → iterate g k d ≡ iterate f k d

-- the ring of a and b in f is cut before a and before b: from a on to b, and from b on to a
pub record CutsRing (n a b : ℕ) (f g : ℕ → ℕ) : Type 0 where
  pub apart : ¬ Reaches g a b
  pub rest : (d : ℕ) → d < n → Reaches f a d → ¬ Reaches g a d → Reaches g b d
  pub arc : (j : ℕ) → iterate f j a ≡ b → ((i : ℕ) → i < j → iterate f i a ≢ b) →
      (d : ℕ) → Reaches g a d ↔ ((i : ℕ) × (i < j) × (iterate f i a ≡ d))

-- a swap of what leads to a and to b cuts their ring
abbrev pub SwapsCutRings : Type 0
SwapsCutRings =
    (n a b c e : ℕ) (f g : ℕ → ℕ) → Permutes n f → IsSplice n c e f g → a < n → b < n → c < n → e < n →
    f c ≡ a → f e ≡ b → a ≢ b → Reaches f a b → CutsRing n a b f g

-- two elements of a list swapped are two successors swapped
abbrev pub ListsSwap : Type 0
ListsSwap =
    (next : List ℕ) (a b : ℕ) → a < length next → b < length next →
    IsSplice (length next) a b (at next) (at (swap next a b))
