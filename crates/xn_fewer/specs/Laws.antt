-- The planarised web of some of the edges.
use Rattle.std.specs.Prelude.{◌≡◌, ℕ, true, List, filter}
use Rattle.xn_model.specs.Graph.{Graph, IsGraph}
use Rattle.xn_model.specs.Lists.{has}
use Rattle.xn_model.specs.Map.{IsFlat}
use Rattle.xn_model.specs.Orders.{IsOrders}
use Rattle.xn_model.specs.Web.{web_of}

-- the orders are those of ord, with the crossings among the edges of small alone
pub record RestrictsOrders (edges small : List ℕ) (ord less : ℕ → List ℕ) : Type 0 where
  pub inside : (e : ℕ) → has small e ≡ true → has edges e ≡ true
  pub kept : (e : ℕ) → has small e ≡ true → less e ≡ filter (has small) (ord e)

-- the web of some edges, with the crossings among them, has a flat map where the web of all does
abbrev pub FewerEdgesStayFlat : Type 0
FewerEdgesStayFlat =
    (g : Graph) (edges small : List ℕ) (ord less : ℕ → List ℕ) (next : ℕ → ℕ) → IsGraph g → IsOrders g.ends edges ord → IsOrders g.ends small less →
    RestrictsOrders edges small ord less → IsFlat (web_of g edges ord) next → (after : ℕ → ℕ) × IsFlat (web_of g small less) after
