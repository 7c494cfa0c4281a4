-- Leaves: their parts, and what their bound shows.
use Rattle.std.proofs.Common.{◌≡◌, ℕ, ◌+◌, ◌<◌, ◌≤◌, ◌^◌, List, All, length, map, slice_index, slice_index_or, arith}
use Rattle.std.specs.List.Sorted.{IsStrictlyIncreasing}
use Rattle.std.proofs.lemmas.List.{get_or-map, length-map}
use Rattle.xn_model.specs.Graph.{Graph}
use Rattle.xn_kinds.specs.Bound.{PartsFit, row_at}
use Rattle.xn_kinds.specs.Row.{RowHolds}
use Rattle.xn_kinds.specs.declared.rows.Row.{Row}
use Rattle.xn_tree.specs.Leaf.{IsRowOf}

abbrev pub Rise : List (ℕ × ℕ) → Type 0
Rise parts = IsStrictlyIncreasing (map (λ p. p.0) parts)

-- the row numbers before place i rise
pub record RiseTo (parts : List (ℕ × ℕ)) (i : ℕ) : Type 0 where
  pub within : 1 ≤ i
  pub rise : (k : ℕ) → k + 1 < i → (slice_index_or parts k (0, 0)).0 < (slice_index_or parts (k + 1) (0, 0)).0

number_at : (parts : List (ℕ × ℕ)) (k : ℕ) → k < length parts → slice_index (map (λ p. p.0) parts) k ≡ (slice_index_or parts k (0, 0)).0
number_at parts k small = get_or-map (λ (p : ℕ × ℕ). p.0) parts k (0, 0) _ small

length_of : (parts : List (ℕ × ℕ)) → length (map (λ p. p.0) parts) ≡ length parts
length_of parts = length-map parts (λ (p : ℕ × ℕ). p.0)

-- up to the end, all rise
pub rise_all : (parts : List (ℕ × ℕ)) (i : ℕ) → RiseTo parts i → length parts ≤ i → Rise parts
rise_all parts i to end = λ k small.
    let within : k + 1 < length parts = omega (arith, small, length_of parts) in
    let rises = to.rise k (omega (arith, within, end)) in
    omega (arith, rises, number_at parts k (omega (arith, within)), number_at parts (k + 1) within)

-- parts have rows of the graph
pub rows_of_parts : (g : Graph) (rows : List Row) (parts : List (ℕ × ℕ)) → All (RowHolds g) rows → All (λ p. p.0 < length rows) parts →
    All (λ p. IsRowOf g (row_at rows p.0)) parts
rows_of_parts g rows parts hold below = λ k d small.
    let holds = hold (slice_index_or parts k d).0 _ (below k d small) in
    record { lists_fit = holds.lists_fit; orders = holds.orders }

-- what is tested of each part
pub parts_fit : (rows : ℕ) (parts : List (ℕ × ℕ)) → Rise parts → All (λ p. (p.0 < rows) × (1 ≤ p.1) × (p.1 < 2 ^ 63)) parts → PartsFit rows parts
parts_fit rows parts rise range = record {
  rise = rise;
  below = λ k d small. (range k d small).0;
  multipliers = λ k d small. ((range k d small).1, (range k d small).2);
}
