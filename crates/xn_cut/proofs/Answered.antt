-- What was judged, as an answer about the orders of all edges.
use Rattle.std.proofs.Common.{◌≡◌, ℕ, Bool, List, length, ap, refl, subst, sym, ◌∙◌}
use Rattle.std.specs.Prelude.{IfSome, Option, Some, None}
use Rattle.xn_model.specs.Drawing.{order_of}
use Rattle.xn_model.specs.Graph.{Graph, edges_of}
use Rattle.xn_model.specs.Lists.{has}
use Rattle.xn_model.specs.Map.{IsFlat}
use Rattle.xn_model.specs.Orders.{IsOrders, order_at}
use Rattle.xn_model.specs.Web.{web_of}
use Rattle.xn_kinds.specs.declared.rows.Row.{Row}
use Rattle.xn_cut.specs.Cuts.{CrossesPlanted, IsCut, IsCutRow, IsJudged, crosses_in}
use Rattle.xn_cut.specs.Kept.{IsPart}
use Rattle.xn_cut.specs.Planted.{CrossWhere}

-- in a row of some edges and their orders those cross that do in the orders of all
row_crosses : (g : Graph) (orders : List (List ℕ)) (edges : List ℕ) (lists : List (List ℕ)) (row : Row) → IsPart g orders edges lists → row.edges ≡ edges → row.orders ≡ lists →
    CrossesPlanted (crosses_in g orders) row
row_crosses g orders edges lists row part edges_are lists_are e f e_in f_in =
    ap (λ (ls : List (List ℕ)). has (order_at row.edges ls e) f) lists_are
    ∙ ap (λ (es : List ℕ). has (order_at es lists e) f) edges_are
    ∙ part.crosses e f (ap (λ (es : List ℕ). has es e) (sym edges_are) ∙ e_in) (ap (λ (es : List ℕ). has es f) (sym edges_are) ∙ f_in)

-- a row of some edges and the crossings among them
pub part_answer : (g : Graph) (orders : List (List ℕ)) (edges : List ℕ) (lists : List (List ℕ)) → IsPart g orders edges lists → (found : Option Row) → IsJudged g edges lists found →
    IfSome found (IsCutRow g (crosses_in g orders))
part_answer g orders edges lists part None is = tt
part_answer g orders edges lists part (Some row) is = record { holds = is.0; crosses = row_crosses g orders edges lists row part is.1 is.2; kind = is.3 }

-- the orders of all edges
pub whole_answer : (g : Graph) (orders : List (List ℕ)) → IsOrders g.ends (edges_of g) (order_of g orders) → (edges : List ℕ) (lists : List (List ℕ)) → edges ≡ edges_of g → lists ≡ orders →
    (found : Option Row) → IsJudged g edges lists found → IsCut g (crosses_in g orders) found
whole_answer g orders are edges lists edges_are lists_are None is = record {
  ord = order_of g orders;
  next = is.0;
  are_orders = are;
  crosses = λ e f. refl;
  flat =
      subst (λ (es : List ℕ). IsFlat (web_of g es (order_at es orders)) is.0) edges_are
      (subst (λ (ls : List (List ℕ)). IsFlat (web_of g edges (order_at edges ls)) is.0) lists_are is.1);
}
whole_answer g orders are edges lists edges_are lists_are (Some row) is = record {
  holds = is.0;
  crosses = λ e f e_in f_in.
      ap (λ (ls : List (List ℕ)). has (order_at row.edges ls e) f) (is.2 ∙ lists_are) ∙ ap (λ (es : List ℕ). has (order_at es orders e) f) (is.1 ∙ edges_are);
  kind = is.3;
}

-- all edges with the orders of all
pub whole_orders : (g : Graph) (orders : List (List ℕ)) (edges : List ℕ) (lists : List (List ℕ)) → IsOrders g.ends (edges_of g) (order_of g orders) → edges ≡ edges_of g → lists ≡ orders →
    IsOrders g.ends edges (order_at edges lists)
whole_orders g orders edges lists are edges_are lists_are =
    subst (λ (ls : List (List ℕ)). IsOrders g.ends edges (order_at edges ls)) (sym lists_are) (subst (λ (es : List ℕ). IsOrders g.ends es (order_at es orders)) (sym edges_are) are)

-- the crossings of the orders are the planted pairs
pub planted_answer : (g : Graph) (planted : ℕ → ℕ → Bool) (orders : List (List ℕ)) → CrossWhere g planted orders → (found : Option Row) → IsCut g (crosses_in g orders) found → IsCut g planted found
planted_answer g planted orders where_is found is = subst (λ (t : ℕ → ℕ → Bool). IsCut g t found) (λ i e f. where_is.crosses e f i) is
