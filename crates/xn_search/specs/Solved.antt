-- What is answered of a graph: a drawing, a proof, and the work behind them.
use Rattle.std.specs.Prelude.{◌≡◌, ◌⊎◌, ℕ, suc, ◌+◌, ◌-◌, ◌<◌, ◌≤◌, List, [], ◌∷◌, length, slice_index_or, All}
use Rattle.xn_model.specs.Drawing.{IsListedDrawing, order_of}
use Rattle.xn_model.specs.Graph.{Graph}
use Rattle.xn_model.specs.Limit.{IsBelowLimit, IsWithinLimit}
use Rattle.xn_model.specs.Lists.{total}
use Rattle.xn_model.specs.Orders.{crossing_count}
use Rattle.xn_kinds.specs.Row.{RowHolds}
use Rattle.xn_kinds.specs.Tree.{Accepts, BeginsProof}
use Rattle.xn_kinds.specs.declared.rows.Row.{Row}
use Rattle.xn_kinds.specs.declared.trees.Node.{Node}
use Rattle.xn_kinds.specs.declared.trees.Node.TheVariants.{Leaf}
use Rattle.xn_tidy.specs.FirstUse.{ByFirstUse, IsTidied}
use Rattle.xn_tidy.specs.declared.tidying.Proof.{Proof}
use Rattle.xn_search.specs.Choice.{HaveKinds}
use Rattle.xn_search.specs.Search.{ProveInTurn}
use Rattle.xn_search.specs.declared.solved.Solved.{Solved}

-- the last tree with its rows by first use, or a leaf alone where there is none
pub record IsLastProof (rows : List Row) (rounds : List (List Node)) (p : Proof) : Type 0 where
  pub none : length rounds ≡ 0 → (p.rows ≡ []) × (p.tree ≡ Leaf 1 [] ∷ [])
  pub last : 0 < length rounds → IsTidied rows (slice_index_or rounds (length rounds - 1) []) p

-- the number of nodes in the work
abbrev pub nodes_of : Solved → ℕ
nodes_of r = total length r.work.rounds + length r.work.unfinished

-- the number of crossings of the drawing
abbrev pub crossings_of : Graph → Solved → ℕ
crossings_of g r = crossing_count g (order_of g r.drawing.orders)

-- the trees of the work prove 1, 2 and so on over its rows, and its last nodes begin a proof of one more
pub record IsWork (g : Graph) (r : Solved) : Type 0 where
  pub rows_hold : All (RowHolds g) r.work.rows
  pub kinds : HaveKinds r.work.rows
  pub count : length r.work.rounds ≡ r.lower
  pub rounds : ProveInTurn g r.work.rows r.work.rounds
  pub unfinished : BeginsProof g (suc r.lower) r.work.rows r.work.unfinished
  pub spent : (r.spent ≡ nodes_of r) ⊎ ((r.spent ≡ suc (nodes_of r)) × (r.lower ≡ crossings_of g r))

-- a drawing and an accepted proof; they differ only where the budget is spent, and was less than the node limit
pub record IsSolved (g : Graph) (budget : ℕ) (r : Solved) : Type 0 where
  pub drawing : IsListedDrawing g r.drawing.orders r.drawing.next
  pub accepted : Accepts g r.lower r.rows r.tree
  pub first_use : ByFirstUse r.rows r.tree
  pub kinds : HaveKinds r.rows
  pub few_rows : length r.rows ≤ 800000 + r.spent
  pub at_most : r.lower ≤ crossings_of g r
  pub undecided : r.lower < crossings_of g r → (r.spent ≡ budget) × IsBelowLimit g budget
  pub in_budget : r.spent ≤ budget
  pub within : IsWithinLimit g r.spent
  pub none : r.lower ≡ 0 → (r.rows ≡ []) × (r.tree ≡ Leaf 1 [] ∷ [])
  pub few_nodes : 1 ≤ r.lower → length r.tree ≤ r.spent
  pub work : IsWork g r

-- nothing crosses, nothing is shown and nothing is spent
pub record IsFree (g : Graph) (r : Solved) : Type 0 where
  pub lower : r.lower ≡ 0
  pub crossings : crossings_of g r ≡ 0
  pub spent : r.spent ≡ 0
