-- The bound of a leaf: the least of its weighted sum over a box.
use Rattle.std.specs.Prelude.{◌≡◌, ℕ, ◌<◌, ◌≤◌, ◌^◌, ℤ, pos, ◌+ℤ◌, ◌-ℤ◌, ◌*ℤ◌, ◌≤ℤ◌, ◌<ℤ◌, List, [], ◌∷◌, map, slice_index_or, All}
use Rattle.std.specs.List.Sorted.{IsStrictlyIncreasing}
use Rattle.xn_model.specs.Graph.{Graph, edges_of, pairs_of}
use Rattle.xn_model.specs.Lists.{total}
use Rattle.xn_kinds.specs.Row.{Values, value_of}
use Rattle.xn_kinds.specs.State.{State, InBox}
use Rattle.xn_kinds.specs.declared.rows.Evidence.TheVariants.{Extension}
use Rattle.xn_kinds.specs.declared.rows.Row.{Row}

-- the row of a number, where there is one
abbrev pub row_at : List Row → ℕ → Row
row_at rows i = slice_index_or rows i (record { edges = []; orders = []; evidence = Extension [] })

-- the sum of what f says of each element, as a whole number
abbrev pub total_ℤ : {A : Type 0} → (A → ℤ) → List A → ℤ
total_ℤ f [] = pos 0
total_ℤ f (x ∷ xs) = f x +ℤ total_ℤ f xs

-- the sum of all x
abbrev pub crossings_in : Graph → Values → ℕ
crossings_in g v = total (λ p. v.crosses p.0 p.1) (pairs_of g.ends (edges_of g))

-- m * (value - 1) of a row and its multiplier m
abbrev pub part_value : Graph → List Row → Values → ℕ × ℕ → ℤ
part_value g rows v p = pos p.1 *ℤ (pos (value_of g (row_at rows p.0) v) -ℤ pos 1)

-- d * (sum of all x) - (sum over the parts of m * (value - 1))
abbrev pub leaf_value : Graph → List Row → ℕ → List (ℕ × ℕ) → Values → ℤ
leaf_value g rows d parts v = (pos d *ℤ pos (crossings_in g v)) -ℤ total_ℤ (part_value g rows v) parts

-- b is the least that f gives over a set of values
pub record IsLeastOver (Box : Values → Type 0) (f : Values → ℤ) (b : ℤ) : Type 0 where
  pub below_all : (v : Values) → Box v → b ≤ℤ f v
  pub met : (v : Values) × Box v × (f v ≡ b)

-- b is the least value of the leaf over the box of the state
abbrev pub IsBound : Graph → List Row → State → ℕ → List (ℕ × ℕ) → ℤ → Type 0
IsBound g rows s d parts b = IsLeastOver (InBox s) (leaf_value g rows d parts) b

-- the bound is above d * (k - 1)
abbrev pub IsStrong : Graph → ℕ → List Row → State → ℕ → List (ℕ × ℕ) → Type 0
IsStrong g k rows s d parts = (b : ℤ) × IsBound g rows s d parts b × ((pos d *ℤ (pos k -ℤ pos 1)) <ℤ b)

-- the row numbers rise below the number of rows, and each multiplier is from 1 to 2^63 - 1
pub record PartsFit (rows : ℕ) (parts : List (ℕ × ℕ)) : Type 0 where
  pub rise : IsStrictlyIncreasing (map (λ p. p.0) parts)
  pub below : All (λ p. p.0 < rows) parts
  pub multipliers : All (λ p. (1 ≤ p.1) × (p.1 < 2 ^ 63)) parts
