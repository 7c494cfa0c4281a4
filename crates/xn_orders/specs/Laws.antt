-- Laws on the flaws of orders.
use Rattle.std.specs.Prelude.{◌≡◌, ℕ, ◌⊎◌, List, length}
use Rattle.xn_model.specs.Graph.{Graph, HasNoLoop, IsGraph}
use Rattle.xn_model.specs.Orders.{IsEdgeList, IsOrders, order_at}
use Rattle.xn_model.specs.Web.{web_of}
use Rattle.xn_orders.specs.Entries.{IsOrdersFlaw}
use Rattle.xn_orders.specs.declared.flaws.OrdersFlaw.{OrdersFlaw}

-- the lists of a list of edges are orders over them, or have a flaw
abbrev pub OrdersOrFlawed : Type 0
OrdersOrFlawed =
    (ends : List (ℕ × ℕ)) (edges : List ℕ) (lists : List (List ℕ)) → IsEdgeList (length ends) edges →
    IsOrders ends edges (order_at edges lists) ⊎ ((x : OrdersFlaw) × IsOrdersFlaw ends edges (order_at edges lists) x)

-- orders have no flaw
abbrev pub OrdersHaveNoFlaw : Type 0
OrdersHaveNoFlaw =
    (ends : List (ℕ × ℕ)) (edges : List ℕ) (ord : ℕ → List ℕ) (x : OrdersFlaw) → IsOrders ends edges ord → ¬ (IsOrdersFlaw ends edges ord x)

-- there is at most one flaw
abbrev pub OneOrdersFlaw : Type 0
OneOrdersFlaw =
    (ends : List (ℕ × ℕ)) (edges : List ℕ) (ord : ℕ → List ℕ) (x y : OrdersFlaw) →
    IsOrdersFlaw ends edges ord x → IsOrdersFlaw ends edges ord y → x ≡ y

-- the web of orders of a graph has no loop
abbrev pub WebHasNoLoop : Type 0
WebHasNoLoop =
    (g : Graph) (edges : List ℕ) (ord : ℕ → List ℕ) → IsGraph g → IsOrders g.ends edges ord → HasNoLoop (web_of g edges ord).ends
