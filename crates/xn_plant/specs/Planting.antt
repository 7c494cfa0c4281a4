-- What planting the crossings of a state comes to.
use Rattle.std.specs.Prelude.{◌≡◌, ℕ, ◌≤◌, true, List, All}
use Rattle.std.specs.List.Sorted.{IsStrictlyIncreasing}
use Rattle.xn_model.specs.Drawing.{IsListedDrawing, order_of}
use Rattle.xn_model.specs.Graph.{Graph}
use Rattle.xn_model.specs.Lists.{has}
use Rattle.xn_model.specs.Map.{IsFlat}
use Rattle.xn_model.specs.Orders.{crossing_count, order_at}
use Rattle.xn_model.specs.Web.{web_of}
use Rattle.xn_kinds.specs.Row.{EvidenceHolds, RowHolds}
use Rattle.xn_kinds.specs.State.{State}
use Rattle.xn_kinds.specs.declared.drawings.Drawing.{Drawing}
use Rattle.xn_kinds.specs.declared.rows.Row.{Row}
use Rattle.xn_components.specs.Listing.{IsFlatMapOf}
use Rattle.xn_kura.specs.Flaws.{HasAKind}
use Rattle.xn_effort.specs.LeafLaws.{IsOfState}
use Rattle.xn_effort.specs.Potential.{ones_in}
use Rattle.xn_plant.specs.Listed.{planted_lists}
use Rattle.xn_plant.specs.declared.planting.Planarity.{Planarity}
use Rattle.xn_plant.specs.declared.planting.Planarity.TheVariants as planarity
use Rattle.xn_plant.specs.declared.planting.Planted.{Planted}
use Rattle.xn_plant.specs.declared.planting.Planted.TheVariants as planted
use Rattle.xn_plant.specs.declared.planting.Tried.{Tried}
use Rattle.xn_plant.specs.declared.planting.Tried.TheVariants as tried

-- a flat map of the web, or a subdivision of K5 or of K3,3 where there is none
abbrev pub IsTested : Graph → Planarity → Type 0
IsTested web (planarity.Flat map) = IsFlatMapOf web map
IsTested web (planarity.Not evidence) = EvidenceHolds web evidence × ((next : ℕ → ℕ) → ¬ (IsFlat web next)) × HasAKind evidence

-- a drawing of the graph with at most as many crossings as the lists have
pub record HasNoMore (g : Graph) (lists : List (List ℕ)) (d : Drawing) : Type 0 where
  pub drawing : IsListedDrawing g d.orders d.next
  pub few : crossing_count g (order_of g d.orders) ≤ crossing_count g (order_of g lists)

-- the row holds, by a subdivision of K5 or of K3,3, and is one of the state
pub record IsRowOfState (g : Graph) (s : State) (row : Row) : Type 0 where
  pub holds : RowHolds g row
  pub kind : HasAKind row.evidence
  pub of_state : IsOfState row s

-- the orders of the state over the edges with a flat map of their web, or a row
abbrev pub IsTried : Graph → State → List ℕ → Tried → Type 0
IsTried g s edges (tried.Flat orders map) = (orders ≡ planted_lists s edges) × IsFlatMapOf (web_of g edges (order_at edges orders)) map
IsTried g s edges (tried.Excluded row) = IsRowOfState g s row

-- a drawing with no more crossings than are decided, or a row
abbrev pub IsPlanted : Graph → State → Planted → Type 0
IsPlanted g s (planted.Flat d) = IsListedDrawing g d.orders d.next × (crossing_count g (order_of g d.orders) ≤ ones_in g s)
IsPlanted g s (planted.Excluded row) = IsRowOfState g s row

-- some of the edges, rising
pub record AreSome (edges some : List ℕ) : Type 0 where
  pub rise : IsStrictlyIncreasing some
  pub among : All (λ e. has edges e ≡ true) some
