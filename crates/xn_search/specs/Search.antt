-- What a search leaves.
use Rattle.std.specs.Prelude.{◌≡◌, ◌⊎◌, ℕ, suc, ◌+◌, ◌<◌, ◌≤◌, List, [], length, slice_index_or, All}
use Rattle.xn_model.specs.Drawing.{IsAtLeast}
use Rattle.xn_model.specs.Graph.{Graph}
use Rattle.xn_model.specs.Limit.{IsBelowLimit, IsWithinLimit}
use Rattle.xn_model.specs.Lists.{total}
use Rattle.xn_kinds.specs.Row.{RowHolds}
use Rattle.xn_kinds.specs.State.{empty_state}
use Rattle.xn_kinds.specs.Tree.{BeginsProof, Proves}
use Rattle.xn_kinds.specs.declared.rows.Row.{Row}
use Rattle.xn_kinds.specs.declared.trees.Node.{Node}
use Rattle.xn_search.specs.Choice.{IsCountedDrawing}
use Rattle.xn_search.specs.declared.searches.Searched.{Searched}

-- the first tree proves 1, the next 2 and so on
abbrev pub ProveInTurn : Graph → List Row → List (List Node) → Type 0
ProveInTurn g rows rounds = (i : ℕ) → i < length rounds → Proves g (suc i) rows empty_state (slice_index_or rounds i [])

-- the number of nodes of all rounds
abbrev pub nodes_in : Searched → ℕ
nodes_in r = total length r.rounds + length r.unfinished

-- the drawing has the fewest crossings, or the budget is spent
pub record IsSearch (g : Graph) (budget : ℕ) (r : Searched) : Type 0 where
  pub drawn : IsCountedDrawing g r.drawn
  -- what is proved
  pub at_most : r.lower ≤ r.drawn.crossings
  pub least : IsAtLeast g r.lower
  pub rows_hold : All (RowHolds g) r.rows
  pub few_rows : length r.rows ≤ 800000 + r.spent
  pub count : length r.rounds ≡ r.lower
  pub rounds : ProveInTurn g r.rows r.rounds
  pub unfinished : BeginsProof g (suc r.lower) r.rows r.unfinished
  -- what it cost: one more than the nodes only where the last state had a drawing
  pub spent : (r.spent ≡ nodes_in r) ⊎ ((r.spent ≡ suc (nodes_in r)) × (r.lower ≡ r.drawn.crossings))
  pub in_budget : r.spent ≤ budget
  pub within : IsWithinLimit g r.spent
  pub undecided : r.lower < r.drawn.crossings → (r.spent ≡ budget) × IsBelowLimit g budget
