-- A row without a flaw holds.
use Rattle.std.proofs.Common.{ℕ, ◌-◌, inl, inr, List, length, refl, arith}
use Rattle.std.proofs.lemmas.Bool.{cases_lt}
use Rattle.xn_model.specs.Evidence.{five_pairs, three_pairs}
use Rattle.xn_model.specs.Graph.{Graph, HasNoLoop, IsGraph}
use Rattle.xn_model.specs.Lists.{at}
use Rattle.xn_model.specs.Orders.{IsEdgeList, IsOrders}
use Rattle.xn_kinds.specs.Row.{EvidenceHolds, RowHolds, orders_of}
use Rattle.xn_kinds.specs.declared.flaws.EvidenceFlaw.{EvidenceFlaw}
use Rattle.xn_kinds.specs.declared.flaws.EvidenceFlaw.TheVariants.{List as ListFlaw}
use Rattle.xn_kinds.specs.declared.flaws.RowFlaw.{RowFlaw}
use Rattle.xn_kinds.specs.declared.flaws.RowFlaw.TheVariants.{Edge, Order, Dependent, Extends}
use Rattle.xn_kinds.specs.declared.flaws.RowFlaw.TheVariants.{Evidence as OfEvidence}
use Rattle.xn_kinds.specs.declared.rows.Evidence.{Evidence}
use Rattle.xn_kinds.specs.declared.rows.Evidence.TheVariants.{Five, ThreeThree, Extension}
use Rattle.xn_kinds.specs.declared.rows.Row.{Row}
use Rattle.xn_orders.specs.Entries.{IsOrdersFlaw}
use Rattle.xn_orders.specs.declared.flaws.OrdersFlaw.{OrdersFlaw}
use Rattle.xn_orders.specs.declared.flaws.OrdersFlaw.TheVariants.{Stray, Dependent as DependentEntry}
use Rattle.xn_orders.proofs.First.{Decided, first_so}
use Rattle.xn_orders.proofs.Flawed.{orders_or_flaw}
use Rattle.xn_orders.proofs.LoopFree.{no_loop}
use Rattle.xn_rows.specs.Holding.{HasPaths, HasSizes, IsEvidenceFlaw, IsReached, IsRowFlaw, IsWrongEdge, row_web}
use Rattle.xn_rows.proofs.Found.{edge_list}
use Rattle.xn_rows.proofs.Judged.{grows_or_flaw, subdivision_or_flaw}

decide_wrong_edge : (count : ℕ) (edges : List ℕ) (i : ℕ) → Decided (IsWrongEdge count edges i)
decide_wrong_edge count edges i = elim (cases_lt (at edges i) count) [
  | inr high ↦ inl (inl high)
  | inl low ↦ elim (cases_lt 0 i) [
    | inr first ↦ inr (λ wrong. elim wrong [ inl high ↦ omega (arith, low, high) | inr falls ↦ omega (arith, first, falls.0) ])
    | inl later ↦ elim (cases_lt (at edges (i - 1)) (at edges i)) [
      | inl rises ↦ inr (λ wrong. elim wrong [ inl high ↦ omega (arith, low, high) | inr falls ↦ omega (arith, rises, falls.1) ])
      | inr falls ↦ inl (inr (later, falls))
    ]
  ]
]

-- ---- evidence

judged : (web : Graph) (evidence : Evidence) → HasPaths evidence → HasNoLoop web.ends → ((x : EvidenceFlaw) → ¬ (IsEvidenceFlaw web evidence x)) → ¬ (IsReached web evidence) → EvidenceHolds web evidence
judged web (Five branch paths) sizes loop_free none stuck = elim (subdivision_or_flaw web five_pairs branch paths sizes.1) [
  | inl is ↦ (sizes.0, is)
  | inr flaw ↦ absurd (none flaw.0 flaw.1)
]
judged web (ThreeThree branch paths) sizes loop_free none stuck = elim (subdivision_or_flaw web three_pairs branch paths sizes.1) [
  | inl is ↦ (sizes.0, is)
  | inr flaw ↦ absurd (none flaw.0 flaw.1)
]
judged web (Extension list) sizes loop_free none stuck = elim (grows_or_flaw web.ends list) [
  | inl grows ↦ record { no_loop = loop_free; grows = grows; stuck = λ last reached. stuck (grows, last, reached) }
  | inr flaw ↦ absurd (none (ListFlaw flaw.0) flaw.1)
]

-- ---- rows

module _ (g : Graph) (row : Row) (is_graph : IsGraph g) (sizes : HasSizes row) (none : (x : RowFlaw) → ¬ (IsRowFlaw g row x)) where
  abbrev ord : ℕ → List ℕ
  ord = orders_of row

  abbrev count : ℕ
  count = length g.ends

  edges_found : IsEdgeList count row.edges
  edges_found = elim (first_so (IsWrongEdge count row.edges) (length row.edges) (λ i low. decide_wrong_edge count row.edges i)) [
    | inl found ↦ absurd (none (Edge (at row.edges found.0)) (found.0, found.1, found.2, refl))
    | inr right ↦ edge_list count row.edges right
  ]

  no_list_flaw : IsEdgeList count row.edges → (x : OrdersFlaw) → ¬ (IsOrdersFlaw g.ends row.edges ord x)
  no_list_flaw list (Stray e f) flaw = none (Order e f) (list, flaw)
  no_list_flaw list (DependentEntry e f) flaw = none (Dependent e f) (list, flaw.0, flaw.1)

  orders_found : IsOrders g.ends row.edges ord
  orders_found = elim (orders_or_flaw g.ends row.edges row.orders edges_found) [
    | inl orders ↦ orders
    | inr flaw ↦ absurd (no_list_flaw edges_found flaw.0 flaw.1)
  ]

  -- a row without a flaw holds
  pub holds_without_flaw : RowHolds g row
  holds_without_flaw = record {
    lists_fit = sizes.lists_fit;
    orders = orders_found;
    evidence = judged (row_web g row) row.evidence sizes.paths_fit (no_loop g row.edges ord is_graph orders_found)
        (λ x flaw. none (OfEvidence x) (orders_found, flaw)) (λ reached. none Extends (orders_found, reached));
  }
