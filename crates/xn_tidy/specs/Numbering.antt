-- Numbers for rows, in the order in which they are asked for.
use Rattle.std.specs.Prelude.{◌≡◌, ℕ, ◌<◌, true, List, [], ◌∷◌, ◌++◌, Option, Some, None, length, map, All, IsPermutation, if◌then◌else◌, slice_index_or}
use Rattle.std.specs.List.Sorted.{IsStrictlyIncreasing}
use Rattle.xn_model.specs.Lists.{at, has, position_in}
use Rattle.xn_kinds.specs.Bound.{PartsFit, row_at}
use Rattle.xn_kinds.specs.declared.rows.Row.{Row}
use Rattle.xn_kinds.specs.declared.trees.Node.{Node}
use Rattle.xn_kinds.specs.declared.trees.Node.TheVariants.{Pair, Place, Leaf}
use Rattle.xn_effort.specs.Renumbered.{HasOtherNumbers, HaveOtherNumbers}
use Rattle.xn_tidy.specs.FirstUse.{CountUp, uses_in}

-- among so many rows, those that have a number, in its order
pub record Named : Type 0 where
  pub count : ℕ
  pub order : List ℕ

abbrev pub named_of : List (Option ℕ) → List ℕ → Named
named_of numbers order = record { count = length numbers; order = order }

-- the table has the numbers of the rows, and the list the rows of the numbers
pub record AreNumbered (numbers : List (Option ℕ)) (order : List ℕ) : Type 0 where
  pub below : All (λ i. i < length numbers) order
  pub numbered : (i n : ℕ) → slice_index_or numbers i None ≡ Some n → (n < length order) × (at order n ≡ i)
  pub ordered : (n : ℕ) → n < length order → slice_index_or numbers (at order n) None ≡ Some n

-- with this row too
abbrev pub with_row : List ℕ → ℕ → List ℕ
with_row order i = if has order i then order else order ++ i ∷ []

-- the row has the number, and is the last one where it had none
pub record HasNumber (old new : List ℕ) (i n : ℕ) : Type 0 where
  pub order : new ≡ with_row old i
  pub number : n ≡ position_in new i

-- the order with more behind it
abbrev pub GoesOnFrom : List ℕ → List ℕ → Type 0
GoesOnFrom order longer = (more : List ℕ) × (longer ≡ order ++ more)

-- the rows in this order
abbrev pub rows_in : List Row → List ℕ → List Row
rows_in rows order = map (row_at rows) order

-- the node with the numbers of the order
abbrev pub IsRenumbered : List Row → List ℕ → Node → Node → Type 0
IsRenumbered rows order node new = HasOtherNumbers rows (rows_in rows order) (position_in order) node new

abbrev pub AreRenumbered : List Row → List ℕ → List Node → List Node → Type 0
AreRenumbered rows order nodes new = HaveOtherNumbers rows (rows_in rows order) (position_in order) nodes new

-- the parts with their numbers in the order
abbrev pub with_numbers : List ℕ → List (ℕ × ℕ) → List (ℕ × ℕ)
with_numbers order parts = map (λ p. (position_in order p.0, p.1)) parts

-- a node as a proof over so many rows has it
abbrev pub PartsOfFit : ℕ → Node → Type 0
PartsOfFit count (Pair e f) = Unit {0}
PartsOfFit count (Place e f) = Unit {0}
PartsOfFit count (Leaf d parts) = PartsFit count parts

-- these parts sorted, with their numbers, which count on from those before
pub record AreSorted (old new : List ℕ) (parts sorted : List (ℕ × ℕ)) : Type 0 where
  pub longer : GoesOnFrom old new
  pub named : All (λ p. has new p.0 ≡ true) parts
  pub moved : IsPermutation (with_numbers new parts) sorted
  pub rise : IsStrictlyIncreasing (map (λ p. p.0) sorted)
  pub counted : CountUp (length old) (map (λ p. p.0) sorted) (length new)

-- the node with its numbers, which count on from those before
pub record CountsOn (old new : List ℕ) (node done : Node) : Type 0 where
  pub longer : GoesOnFrom old new
  pub same : (rows : List Row) → IsRenumbered rows new node done
  pub counted : CountUp (length old) (uses_in done) (length new)
