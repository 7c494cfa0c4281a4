-- What the planted crossings come to: rows of the state, and drawings.
use Rattle.std.proofs.Common.{◌≡◌, ℕ, eqb, true, List, length, sym, ◌∙◌, ap, subst, arith, ◌<◌, get_or}
use Rattle.std.specs.Prelude.{All, IsPermutation}
use Rattle.std.specs.List.{dedup}
use Rattle.std.specs.List.Sorted.{IsSorted, IsStrictlyIncreasing}
use Rattle.std.specs.Ordering.{nat_cmp}
use Rattle.std.proofs.lemmas.List.{length-map}
use Rattle.std.proofs.lemmas.List.Filters.{All-dedup}
use Rattle.std.proofs.lemmas.List.FromFn.{length-range_with_len}
use Rattle.std.proofs.lemmas.List.Sorted.{All-permutation}
use Rattle.std.proofs.lemmas.Map.Keys.{IsStrictlyIncreasing-dedup}
use Rattle.xn_model.specs.Drawing.{order_of}
use Rattle.xn_model.specs.Graph.{Graph, edges_of}
use Rattle.xn_model.specs.Lists.{has}
use Rattle.xn_model.specs.Orders.{IsEdgeList, IsOrders, crossing_count, order_at}
use Rattle.xn_model.specs.Web.{web_of}
use Rattle.xn_kinds.specs.Row.{EvidenceHolds}
use Rattle.xn_kinds.specs.State.{State, IsState}
use Rattle.xn_kinds.specs.declared.drawings.Drawing.{Drawing}
use Rattle.xn_kinds.specs.declared.rows.Evidence.{Evidence}
use Rattle.xn_fewer.proofs.Rising.{has-all}
use Rattle.xn_kura.specs.Flaws.{HasAKind}
use Rattle.xn_plant.specs.Listed.{planted_lists}
use Rattle.xn_plant.specs.Planting.{AreSome, HasNoMore, IsPlanted, IsRowOfState}
use Rattle.xn_plant.specs.declared.planting.Planted.TheVariants as planted
use Rattle.xn_plant.proofs.Counted.{planted_count}
use Rattle.xn_plant.proofs.Planned.{are_orders, crosses_order, order_crosses, placed_before}

-- the row of the planted crossings among some edges
pub row_of_state : (g : Graph) (s : State) → IsState g s → (edges : List ℕ) → IsEdgeList (length g.ends) edges → (orders : List (List ℕ)) (evidence : Evidence) → orders ≡ planted_lists s edges →
    EvidenceHolds (web_of g edges (order_at edges orders)) evidence → HasAKind evidence → IsRowOfState g s (record { edges = edges; orders = orders; evidence = evidence })
row_of_state g s state edges edge_list orders evidence is holds kind =
    subst (λ (lists : List (List ℕ)). IsRowOfState g s (record { edges = edges; orders = lists; evidence = evidence })) (sym is) (record {
      holds = record {
        lists_fit = length-map edges _;
        orders = are_orders g s state edges edge_list;
        evidence = subst (λ (lists : List (List ℕ)). EvidenceHolds (web_of g edges (order_at edges lists)) evidence) is holds;
      };
      kind = kind;
      of_state = record {
        crosses = λ e f f_in. (order_crosses g s state edges edge_list e f f_in).1;
        planted = λ e f e_in f_in crosses. crosses_order g s state edges edge_list e f e_in f_in crosses;
        placed = λ e f h before f_placed h_placed. placed_before g s state edges edge_list e f h before f_placed h_placed;
      };
    })

-- a drawing with no more crossings than are planted among all edges
pub drawn_of_state : (g : Graph) (s : State) → IsState g s → (orders : List (List ℕ)) (d : Drawing) → orders ≡ planted_lists s (edges_of g) → HasNoMore g orders d → IsPlanted g s (planted.Flat d)
drawn_of_state g s state orders d is drawn =
    (drawn.drawing, omega (arith, drawn.few, planted_count g s state, ap (λ (lists : List (List ℕ)). crossing_count g (order_of g lists)) is))

-- orders, as they are listed
pub orders_from : (g : Graph) (s : State) → IsState g s → (edges : List ℕ) → IsEdgeList (length g.ends) edges → (orders : List (List ℕ)) → orders ≡ planted_lists s edges →
    IsOrders g.ends edges (order_at edges orders)
orders_from g s state edges edge_list orders is = subst (λ (lists : List (List ℕ)). IsOrders g.ends edges (order_at edges lists)) (sym is) (are_orders g s state edges edge_list)

pub lists_fit : (g : Graph) (s : State) (orders : List (List ℕ)) → orders ≡ planted_lists s (edges_of g) → length orders ≡ length g.ends
lists_fit g s orders is = ap (length {A = List ℕ}) is ∙ length-map (edges_of g) _ ∙ length-range_with_len 0 (length g.ends)

-- what is left of edges that were sorted
pub sorted_some : (edges by_segment slice items sorted kept : List ℕ) → All (λ e. has edges e ≡ true) by_segment → slice ≡ by_segment → All (λ e. has slice e ≡ true) items →
    IsPermutation items sorted → IsSorted nat_cmp sorted → kept ≡ dedup eqb sorted → AreSome edges kept
sorted_some edges by_segment slice items sorted kept each slice_is all shuffled up kept_is = record {
  rise = subst IsStrictlyIncreasing (sym kept_is) (IsStrictlyIncreasing-dedup sorted up);
  among = subst (All (λ e. has edges e ≡ true)) (sym kept_is) (All-dedup eqb (λ e. has edges e ≡ true) sorted (All-permutation (λ e. has edges e ≡ true) items sorted shuffled among_edges));
}
  where
    among_edges : All (λ e. has edges e ≡ true) items
    among_edges k d k_in = has-all (λ e. has edges e ≡ true) by_segment each (get_or items k d) (ap (λ es. has es (get_or items k d)) (sym slice_is) ∙ all k d k_in)

-- some of the edges of an edge list are one
pub some_edges : (count : ℕ) (edges some : List ℕ) → IsEdgeList count edges → AreSome edges some → IsEdgeList count some
some_edges count edges some edge_list are = record {
  rise = are.rise;
  below = λ k d k_in. has-all (λ e. e < count) edges edge_list.below (get_or some k d) (are.among k d k_in);
}
