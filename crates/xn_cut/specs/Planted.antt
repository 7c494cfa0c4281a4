-- The pairs that are planted at a point.
use Rattle.std.specs.Prelude.{◌≡◌, ℕ, ◌<◌, ◌==◌, ◌&&◌, ◌||◌, Bool, false, List, [], ◌∷◌, length, pos, ◌+ℤ◌, int_le, if◌then◌else◌, slice_index_or, IsPermutation}
use Rattle.std.specs.List.{flat_map, list_any}
use Rattle.std.specs.Ordering.{int_eq}
use Rattle.xn_model.specs.Drawing.{order_of}
use Rattle.xn_model.specs.Graph.{Graph, edges_of}
use Rattle.xn_model.specs.Lists.{has}
use Rattle.xn_model.specs.Orders.{IsOrders}
use Rattle.xn_kinds.specs.declared.trees.Var.{Var}
use Rattle.xn_kinds.specs.declared.trees.Var.TheVariants.{Cross, Before}
use Rattle.xn_frac.specs.Ratio.{Ratio}
use Rattle.xn_cut.specs.declared.planting.Rule.{Rule}
use Rattle.xn_cut.specs.declared.planting.Rule.TheVariants.{One, Half}

-- the number is 1
abbrev pub is_one : Ratio → Bool
is_one p = int_eq p.num (pos p.den)

-- the number is at least 1/2
abbrev pub is_half : Ratio → Bool
is_half p = int_le (pos p.den) (p.num +ℤ p.num)

-- the variable is the pair of e and f, in either order
abbrev pub is_pair : Var → ℕ → ℕ → Bool
is_pair (Cross a b) e f = ((a == e) && (b == f)) || ((a == f) && (b == e))
is_pair (Before a b c) e f = false

-- the point gives the pair of e and f, in either order, a number that the test takes
abbrev pub is_planted : (Ratio → Bool) → List (Var × Ratio) → ℕ → ℕ → Bool
is_planted test point e f = list_any (λ p. is_pair p.0 e f && test p.1) point

-- ---- how the program finds them

-- the rule takes the number
abbrev pub takes : Rule → Ratio → Bool
takes One p = is_one p
takes Half p = is_half p

-- the pair of the variable, if it is one
abbrev pub crossing_of : Var → List (ℕ × ℕ)
crossing_of (Cross e f) = (e, f) ∷ []
crossing_of (Before e f g) = []

abbrev pub pair_of : (Ratio → Bool) → Var × Ratio → List (ℕ × ℕ)
pair_of test p = if test p.1 then crossing_of p.0 else []

-- the planted pairs, as the point names them
abbrev pub pairs_in : (Ratio → Bool) → List (Var × Ratio) → List (ℕ × ℕ)
pairs_in test point = flat_map (pair_of test) point

-- the other edge of a pair of e
abbrev pub partner : ℕ → ℕ × ℕ → List ℕ
partner e p = if p.0 == e then p.1 ∷ [] else if p.1 == e then p.0 ∷ [] else []

-- the edges that cross e
abbrev pub crossers : List (ℕ × ℕ) → ℕ → List ℕ
crossers pairs e = flat_map (partner e) pairs

-- the lists of the first edges, each in some order
abbrev pub AreShuffled : List (ℕ × ℕ) → List (List ℕ) → Type 0
AreShuffled pairs lists = (e : ℕ) → e < length lists → IsPermutation (crossers pairs e) (slice_index_or lists e [])

-- orders over all edges that cross exactly where planted
pub record CrossWhere (g : Graph) (planted : ℕ → ℕ → Bool) (orders : List (List ℕ)) : Type 0 where
  pub lists_fit : length orders ≡ length g.ends
  pub are_orders : IsOrders g.ends (edges_of g) (order_of g orders)
  pub crosses : (e f : ℕ) → has (order_of g orders e) f ≡ planted e f
