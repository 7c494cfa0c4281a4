-- Leaves of a tree: their parts, and what is judged of them.
use Rattle.std.proofs.Common.{◌≡◌, ◌≢◌, ◌↔◌, IsTrue, Bool, true, false, ℕ, ◌+◌, ◌-◌, ◌<◌, ◌≤◌, inl, inr, ℤ, ◌<ℤ◌, List, [], ◌∷◌, All, length, map, slice_index, slice_index_or, refl, sym, subst, arith}
use Rattle.std.specs.List.Sorted.{IsStrictlyIncreasing}
use Rattle.std.proofs.lemmas.List.{get_or-map, length-map}
use Rattle.std.proofs.lemmas.List.Elements.{All-map}
use Rattle.std.proofs.lemmas.Map.Keys.{sorted_from_strictly_increasing}
use Rattle.std.proofs.lemmas.Map.Views.{length-le_from_below}
use Rattle.xn_model.specs.Graph.{Graph}
use Rattle.xn_kinds.specs.Bound.{IsBound, row_at}
use Rattle.xn_kinds.specs.Row.{RowHolds}
use Rattle.xn_kinds.specs.State.{State}
use Rattle.xn_kinds.specs.declared.flaws.FlawKind.TheVariants as kinds
use Rattle.xn_kinds.specs.declared.rows.Row.{Row}
use Rattle.xn_kinds.specs.declared.trees.Node.TheVariants.{Leaf}
use Rattle.xn_proof.specs.declared.flaw.AnswerErr.TheVariants as errors
use Rattle.xn_tree.specs.Leaf.{IsRowOf}
use Rattle.xn_check.specs.Judging.{RefusesLine}
use Rattle.xn_check.specs.Meaning.{MayOpenFirst, StepFails, need_of}
use Rattle.xn_check.specs.Parts.{IsInRange}

-- what a test tells
pub not_where : (b : Bool) (P : Type 0) → IsTrue b ↔ P → b ≡ false → ¬ P
not_where true P is e = absurd cc
not_where false P is e = λ p. absurd (let is_true = is.1 p in cc)

-- ---- parts

abbrev pub Rise : List (ℕ × ℕ) → Type 0
Rise parts = IsStrictlyIncreasing (map (λ p. p.0) parts)

-- the row numbers before place i rise
pub record RiseTo (parts : List (ℕ × ℕ)) (i : ℕ) : Type 0 where
  pub within : 1 ≤ i
  pub rise : (k : ℕ) → k + 1 < i → (slice_index_or parts k (0, 0)).0 < (slice_index_or parts (k + 1) (0, 0)).0

number_at : (parts : List (ℕ × ℕ)) (k : ℕ) → k < length parts → slice_index (map (λ p. p.0) parts) k ≡ (slice_index_or parts k (0, 0)).0
number_at parts k small = get_or-map (λ (p : ℕ × ℕ). p.0) parts k (0, 0) _ small

length_of : (parts : List (ℕ × ℕ)) → length (map (λ p. p.0) parts) ≡ length parts
length_of parts = length-map parts (λ (p : ℕ × ℕ). p.0)

-- up to the end, all rise
pub rise_all : (parts : List (ℕ × ℕ)) (i : ℕ) → RiseTo parts i → length parts ≤ i → Rise parts
rise_all parts i to end = λ k small.
    let within : k + 1 < length parts = omega (arith, small, length_of parts) in
    let rises = to.rise k (omega (arith, within, end)) in
    omega (arith, rises, number_at parts k (omega (arith, within)), number_at parts (k + 1) within)

-- they don't where one isn't above the one before it
pub falls_at : (parts : List (ℕ × ℕ)) (i : ℕ) → 1 ≤ i → i < length parts → (slice_index_or parts i (0, 0)).0 ≤ (slice_index_or parts (i - 1) (0, 0)).0 → ¬ (Rise parts)
falls_at parts i from within falls = λ rise.
    let same : (i - 1) + 1 ≡ i = omega (arith, from) in
    let rises = rise (i - 1) (omega (arith, from, within, length_of parts)) in
    let next : slice_index (map (λ p. p.0) parts) ((i - 1) + 1) ≡ (slice_index_or parts i (0, 0)).0 = subst (λ n. slice_index (map (λ p. p.0) parts) n ≡ (slice_index_or parts i (0, 0)).0) (sym same) (number_at parts i within) in
    absurd (omega (arith, rises, next, falls, number_at parts (i - 1) (omega (arith, from, within))))

-- parts whose row numbers rise are no more than the rows
pub few_parts : (rows : ℕ) (parts : List (ℕ × ℕ)) → Rise parts → All (λ p. p.0 < rows) parts → length parts ≤ rows
few_parts rows parts rise below =
    let numbers = map (λ (p : ℕ × ℕ). p.0) parts in
    let few : length numbers ≤ rows =
    length-le_from_below rows numbers (sorted_from_strictly_increasing numbers rise) (All-map (λ (x : ℕ). x < rows) (λ (p : ℕ × ℕ). p.0) parts below) in
    subst (λ n. n ≤ rows) (length_of parts) few

-- and have rows of the graph
pub rows_of_parts : (g : Graph) (rows : List Row) (parts : List (ℕ × ℕ)) → All (RowHolds g) rows → All (λ p. p.0 < length rows) parts →
    All (λ p. IsRowOf g (row_at rows p.0)) parts
rows_of_parts g rows parts hold below = λ k d small.
    let holds = hold (slice_index_or parts k d).0 _ (below k d small) in
    record { lists_fit = holds.lists_fit; orders = holds.orders }

-- ---- what is judged

module _ (g : Graph) (k number n : ℕ) (rows : List Row) (d : ℕ) (parts : List (ℕ × ℕ)) where
  pub leaf_keeps : (pending : List State) (b : ℤ) → pending ≢ [] → IsInRange (length rows) (Leaf d parts) → Rise parts →
      ((t : State) (rest : List State) → pending ≡ t ∷ rest → IsBound g rows t d parts b) → need_of k d <ℤ b → MayOpenFirst g k rows pending (Leaf d parts)
  leaf_keeps [] b some range rise is strong = absurd (some refl)
  leaf_keeps (t ∷ pending) b some range rise is strong =
      (range.0, range.1, record { rise = rise; below = range.2; multipliers = range.3 }, (b, is t pending refl, strong))

  pub leaf_weak : (pending : List State) (b : ℤ) → pending ≢ [] → Rise parts →
      ((t : State) (rest : List State) → pending ≡ t ∷ rest → IsBound g rows t d parts b) → (¬ (need_of k d <ℤ b)) →
      RefusesLine number (StepFails g k rows pending n (Leaf d parts)) (errors.Refused (record { line = number; kind = kinds.Weak b (need_of k d) }))
  leaf_weak [] b some rise is weak = absurd (some refl)
  leaf_weak (t ∷ pending) b some rise is weak = (inr (rise, (b, is t pending refl, weak, refl)), refl)

  pub leaf_misshapen : (pending : List State) → (¬ (Rise parts)) →
      RefusesLine number (StepFails g k rows pending n (Leaf d parts)) (errors.Refused (record { line = number; kind = kinds.TreeShape n }))
  leaf_misshapen [] falls = (refl, refl)
  leaf_misshapen (t ∷ pending) falls = (inl (falls, refl), refl)
