-- The values of a simple drawing, and rows: what their value is, and where they hold.
use Rattle.std.specs.Prelude.{◌≡◌, ℕ, ◌+◌, ◌-◌, List, length, if◌then◌else◌, nat_lt}
use Rattle.xn_model.specs.Evidence.{IsFive, IsThreeThree}
use Rattle.xn_model.specs.Graph.{Graph, pairs_of}
use Rattle.xn_model.specs.Insertion.{IsStuck}
use Rattle.xn_model.specs.Lists.{has, neighbours, one_if, stands_before, total}
use Rattle.xn_model.specs.Orders.{IsOrders, order_at}
use Rattle.xn_model.specs.Web.{web_of}
use Rattle.xn_kinds.specs.declared.rows.Evidence.{Evidence}
use Rattle.xn_kinds.specs.declared.rows.Evidence.TheVariants.{Five, ThreeThree, Extension}
use Rattle.xn_kinds.specs.declared.rows.Row.{Row}

-- a number for each variable: crosses e f for e < f, and before e f g for f < g
pub record Values : Type 0 where
  pub crosses : ℕ → ℕ → ℕ
  pub before : ℕ → ℕ → ℕ → ℕ

-- the values in a simple drawing: 1 where e and f cross, and where f and g cross e, f before g
abbrev pub values_in : (ℕ → List ℕ) → Values
values_in ord = record {
  crosses = λ e f. one_if (has (ord e) f);
  before = λ e f g. one_if (stands_before (ord e) f g);
}

-- f stands before g on e
abbrev pub literal : Values → ℕ → ℕ → ℕ → ℕ
literal v e f g = if nat_lt f g then v.before e f g else 1 - v.before e g f

-- the orders of a row
abbrev pub orders_of : Row → ℕ → List ℕ
orders_of row = order_at row.edges row.orders

-- x over the pairs that don't cross in the row, and 1 - x over those that do
abbrev pub pairs_value : Graph → Row → Values → ℕ
pairs_value g row v =
    total (λ p. if has (orders_of row p.0) p.1 then 1 - v.crosses p.0 p.1 else v.crosses p.0 p.1) (pairs_of g.ends row.edges)

-- 1 - literal over each two neighbours in each list of the row
abbrev pub turns_value : Row → Values → ℕ
turns_value row v = total (λ e. total (λ p. 1 - literal v e p.0 p.1) (neighbours (orders_of row e))) row.edges

-- how far the values are from the orders of the row
abbrev pub value_of : Graph → Row → Values → ℕ
value_of g row v = pairs_value g row v + turns_value row v

-- the evidence shows that the web has no flat map
abbrev pub EvidenceHolds : Graph → Evidence → Type 0
EvidenceHolds web (Five branch paths) = IsFive web branch paths
EvidenceHolds web (ThreeThree branch paths) = IsThreeThree web branch paths
EvidenceHolds web (Extension list) = IsStuck web list

-- the row is one of the graph, and its evidence holds for the web of its orders
pub record RowHolds (g : Graph) (row : Row) : Type 0 where
  pub lists_fit : length row.orders ≡ length row.edges
  pub orders : IsOrders g.ends row.edges (orders_of row)
  pub evidence : EvidenceHolds (web_of g row.edges (orders_of row)) row.evidence
