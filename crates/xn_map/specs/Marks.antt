-- Numbers that are marked.
use Rattle.std.specs.Prelude.{◌≡◌, ℕ, ◌<◌, ◌⊎◌, ◌↔◌, Bool, true, false, List, slice_index_or}
use Rattle.xn_model.specs.Permutation.{Reaches}

abbrev pub is_marked : List Bool → ℕ → Bool
is_marked marks d = slice_index_or marks d false

-- what follows a marked number is marked
abbrev pub IsClosed : ℕ → (ℕ → ℕ) → List Bool → Type 0
IsClosed n f marks = (d : ℕ) → d < n → is_marked marks d ≡ true → is_marked marks (f d) ≡ true

-- the cycle of d is marked besides, and nothing else
abbrev pub MarksCycle : ℕ → (ℕ → ℕ) → ℕ → List Bool → List Bool → Type 0
MarksCycle n f d old new =
    (x : ℕ) → x < n → (is_marked new x ≡ true) ↔ ((is_marked old x ≡ true) ⊎ Reaches f d x)

-- exactly the cycles of the numbers below d are marked
abbrev pub MarksCyclesBelow : ℕ → (ℕ → ℕ) → ℕ → List Bool → Type 0
MarksCyclesBelow n f d marks =
    (x : ℕ) → x < n → (is_marked marks x ≡ true) ↔ ((c : ℕ) × (c < d) × Reaches f c x)
