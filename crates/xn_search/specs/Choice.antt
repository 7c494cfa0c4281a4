-- What is decided of a state in a round of the search.
use Rattle.std.specs.Prelude.{◌≡◌, ℕ, ◌<◌, List, ◌++◌, All}
use Rattle.xn_model.specs.Drawing.{IsListedDrawing, order_of}
use Rattle.xn_model.specs.Graph.{Graph}
use Rattle.xn_model.specs.Orders.{crossing_count}
use Rattle.xn_kinds.specs.State.{State}
use Rattle.xn_kinds.specs.Tree.{MayOpen}
use Rattle.xn_kinds.specs.declared.rows.Row.{Row}
use Rattle.xn_kura.specs.Flaws.{HasAKind}
use Rattle.xn_effort.specs.Leads.{Searches}
use Rattle.xn_search.specs.declared.decisions.Decision.{Decision}
use Rattle.xn_search.specs.declared.decisions.Decision.TheVariants.{Open, Found}
use Rattle.xn_search.specs.declared.decisions.Drawn.{Drawn}

-- a drawing of the graph, with so many crossings
pub record IsCountedDrawing (g : Graph) (d : Drawn) : Type 0 where
  pub drawing : IsListedDrawing g d.drawing.orders d.drawing.next
  pub count : d.crossings ≡ crossing_count g (order_of g d.drawing.orders)

-- a node keeps its rule in a proof of t, and a drawing has fewer crossings
abbrev pub IsDecision : Graph → ℕ → List Row → State → Decision → Type 0
IsDecision g t rows s (Open node) = MayOpen g t rows s node
IsDecision g t rows s (Found d) = IsCountedDrawing g d × (d.crossings < t)

-- besides, a node is a leaf where its state has t ones
abbrev pub IsRoundDecision : Graph → ℕ → List Row → State → Decision → Type 0
IsRoundDecision g t rows s (Open node) = Searches g t rows s node
IsRoundDecision g t rows s (Found d) = IsCountedDrawing g d × (d.crossings < t)

-- the rows with more behind them
abbrev pub GrowsTo : List Row → List Row → Type 0
GrowsTo rows longer = (more : List Row) × (longer ≡ rows ++ more)

-- each row shows a subdivision of K5 or of K3,3, and none has an extension
abbrev pub HaveKinds : List Row → Type 0
HaveKinds rows = All (λ row. HasAKind row.evidence) rows
