-- Minors: classes of nodes that are joined within and to each other. What is done to a web is plain to see on them, as it isn't on paths.
use Rattle.std.specs.Prelude.{◌≡◌, ℕ, ◌<◌, ◌==◌, ◌&&◌, ◌⊎◌, Bool, List, length, filter, All}
use Rattle.xn_model.specs.Evidence.{five_pairs, three_pairs}
use Rattle.xn_model.specs.Graph.{ends_at}
use Rattle.xn_model.specs.Map.{Joined}

-- both ends are in class i
abbrev pub is_inside : (ℕ → ℕ) → ℕ → ℕ × ℕ → Bool
is_inside class i p = (class p.0 == i) && (class p.1 == i)

-- the segments within class i
abbrev pub inside : (ℕ → ℕ) → ℕ → List (ℕ × ℕ) → List (ℕ × ℕ)
inside class i ends = filter (is_inside class i) ends

-- a segment joins the classes i and j
abbrev pub Adjoin : List (ℕ × ℕ) → (ℕ → ℕ) → ℕ → ℕ → Type 0
Adjoin ends class i j = (s : ℕ) × (s < length ends)
    × (((class (ends_at ends s).0 ≡ i) × (class (ends_at ends s).1 ≡ j)) ⊎ ((class (ends_at ends s).0 ≡ j) × (class (ends_at ends s).1 ≡ i)))

-- each class below count is joined within, and a segment joins the two classes of each pair
pub record IsMinor (ends : List (ℕ × ℕ)) (count : ℕ) (pairs : List (ℕ × ℕ)) (class : ℕ → ℕ) : Type 0 where
  pub joined : (i u v : ℕ) → i < count → class u ≡ i → class v ≡ i → Joined (inside class i ends) u v
  pub adjoin : All (λ p. Adjoin ends class p.0 p.1) pairs

-- K5 or K3,3 is a minor
abbrev pub HasMinor : List (ℕ × ℕ) → Type 0
HasMinor ends = ((class : ℕ → ℕ) × IsMinor ends 5 five_pairs class) ⊎ ((class : ℕ → ℕ) × IsMinor ends 6 three_pairs class)
