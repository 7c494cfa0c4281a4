-- Answers whose numbers are in their ranges, and whose lists have the lengths that fit.
use Rattle.std.specs.Prelude.{◌≡◌, ℕ, ◌+◌, ◌*◌, ◌^◌, ◌<◌, ◌≤◌, List, length, All}
use Rattle.xn_graph.specs.Limits.{IsLimitedGraph}
use Rattle.xn_model.specs.Lists.{total}
use Rattle.xn_kinds.specs.declared.answers.Answer.{Answer}
use Rattle.xn_kinds.specs.declared.drawings.Drawing.{Drawing}
use Rattle.xn_kinds.specs.declared.rows.Evidence.{Evidence}
use Rattle.xn_kinds.specs.declared.rows.Evidence.TheVariants.{Five, ThreeThree, Extension}
use Rattle.xn_kinds.specs.declared.rows.Row.{Row}
use Rattle.xn_kinds.specs.declared.trees.Node.{Node}
use Rattle.xn_kinds.specs.declared.trees.Node.TheVariants.{Pair, Place, Leaf}
use Rattle.xn_proof.specs.declared.front.Front.{Front}

-- at most so many numbers of 32 bits
abbrev pub IsList : ℕ → List ℕ → Type 0
IsList most list = (length list ≤ most) × All (λ n. n < 2 ^ 32) list

-- just so many numbers of 32 bits
abbrev pub AreNodes : ℕ → List ℕ → Type 0
AreNodes count branch = (length branch ≡ count) × All (λ n. n < 2 ^ 32) branch

-- one list for each of m edges, and two turns for each segment
pub record IsDrawingText (m : ℕ) (d : Drawing) : Type 0 where
  pub lists_fit : length d.orders ≡ m
  pub lists : All (IsList 999) d.orders
  pub next_fits : length d.next ≡ 2 * (m + total length d.orders)
  pub next_small : All (λ n. n < 2 ^ 32) d.next

-- bounds and effort in their ranges
pub record AreBounds (lower upper spent budget : ℕ) : Type 0 where
  pub lower_small : lower ≤ 499500
  pub upper_small : upper ≤ 499500
  pub spent_small : spent ≤ budget
  pub budget_small : budget ≤ 200000

-- the lines up to `drawn` can say it
pub record IsFront (f : Front) : Type 0 where
  pub graph : IsLimitedGraph f.graph
  pub loops : f.loops < 2 ^ 64
  pub bounds : AreBounds f.lower f.upper f.spent f.budget
  pub drawing : IsDrawingText (length f.graph.ends) f.drawing

-- ten paths for five branch nodes, nine for three against three
abbrev pub IsEvidenceText : Evidence → Type 0
IsEvidenceText (Five branch paths) = AreNodes 5 branch × (length paths ≡ 10) × All (IsList 1000000) paths
IsEvidenceText (ThreeThree branch paths) = AreNodes 6 branch × (length paths ≡ 9) × All (IsList 1000000) paths
IsEvidenceText (Extension list) = IsList 1000000 list

-- the row has a list for each of its edges
abbrev pub HasLists : Row → Type 0
HasLists row = length row.orders ≡ length row.edges

-- a row over at most m edges, with a list for each
pub record IsRowText (m : ℕ) (row : Row) : Type 0 where
  pub few : length row.edges ≤ m
  pub edges : All (λ e. e < 2 ^ 32) row.edges
  pub lists_fit : length row.orders ≡ length row.edges
  pub lists : All (IsList 999) row.orders
  pub evidence : IsEvidenceText row.evidence

-- a number from 1 to 2^63 - 1
abbrev pub IsFactor : ℕ → Type 0
IsFactor n = (1 ≤ n) × (n < 2 ^ 63)

-- a node over m edges and so many rows
abbrev pub IsNodeText : ℕ → ℕ → Node → Type 0
IsNodeText m rows (Pair e f) = (e < m) × (f < m)
IsNodeText m rows (Place e f) = (e < m) × (f < m)
IsNodeText m rows (Leaf d parts) = IsFactor d × (length parts < 2 ^ 32) × All (λ p. (p.0 < rows) × IsFactor p.1) parts

-- the answer has a spelling
pub record WellFormed (a : Answer) : Type 0 where
  pub graph : IsLimitedGraph a.graph
  pub loops : a.loops < 2 ^ 64
  pub bounds : AreBounds a.lower a.upper a.spent a.budget
  pub drawing : IsDrawingText (length a.graph.ends) a.drawing
  pub few_rows : length a.rows ≤ 1048576
  pub rows : All (IsRowText (length a.graph.ends)) a.rows
  pub tree : All (IsNodeText (length a.graph.ends) (length a.rows)) a.tree
