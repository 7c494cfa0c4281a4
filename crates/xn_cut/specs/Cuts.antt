-- What a cutter answers.
use Rattle.std.specs.Prelude.{◌≡◌, ℕ, Bool, true, List, Option, Some, None}
use Rattle.xn_model.specs.Drawing.{order_of}
use Rattle.xn_model.specs.Graph.{Graph, edges_of}
use Rattle.xn_model.specs.Lists.{has}
use Rattle.xn_model.specs.Map.{IsFlat}
use Rattle.xn_model.specs.Orders.{IsOrders, order_at}
use Rattle.xn_model.specs.Web.{web_of}
use Rattle.xn_kinds.specs.Row.{RowHolds, orders_of}
use Rattle.xn_kinds.specs.declared.rows.Row.{Row}
use Rattle.xn_kura.specs.Flaws.{HasAKind}

-- of the edges of the row exactly the planted pairs cross in it
abbrev pub CrossesPlanted : (ℕ → ℕ → Bool) → Row → Type 0
CrossesPlanted planted row = (e f : ℕ) → has row.edges e ≡ true → has row.edges f ≡ true → has (orders_of row e) f ≡ planted e f

-- orders over all edges that cross exactly where planted, with a flat map of their web
pub record LieFlat (g : Graph) (planted : ℕ → ℕ → Bool) : Type 0 where
  pub ord : ℕ → List ℕ
  pub next : ℕ → ℕ
  pub are_orders : IsOrders g.ends (edges_of g) ord
  pub crosses : (e f : ℕ) → has (ord e) f ≡ planted e f
  pub flat : IsFlat (web_of g (edges_of g) ord) next

-- a row that holds, by a subdivision of K5 or of K3,3 and no extension, in which the planted pairs of its edges cross
pub record IsCutRow (g : Graph) (planted : ℕ → ℕ → Bool) (row : Row) : Type 0 where
  pub holds : RowHolds g row
  pub crosses : CrossesPlanted planted row
  pub kind : HasAKind row.evidence

-- such a row, or flat orders
abbrev pub IsCut : Graph → (ℕ → ℕ → Bool) → Option Row → Type 0
IsCut g planted (Some row) = IsCutRow g planted row
IsCut g planted None = LieFlat g planted

-- ---- the same of orders

-- the pairs that cross in orders of all edges
abbrev pub crosses_in : Graph → List (List ℕ) → ℕ → ℕ → Bool
crosses_in g orders e f = has (order_of g orders e) f

-- such a row of just these edges and orders that holds, or a flat map of their web
abbrev pub IsJudged : Graph → List ℕ → List (List ℕ) → Option Row → Type 0
IsJudged g edges orders (Some row) = RowHolds g row × (row.edges ≡ edges) × (row.orders ≡ orders) × HasAKind row.evidence
IsJudged g edges orders None = (next : ℕ → ℕ) × IsFlat (web_of g edges (order_at edges orders)) next
