-- An answer that proves what it says has its numbers in their ranges.
use Rattle.std.proofs.Common.{◌≡◌, ◌*◌, ◌<◌, ◌≤◌, ◌^◌, [], ◌∷◌, length, get_or, refl, ◌∙◌, ap, arith}
use Rattle.std.proofs.lemmas.List.{get_or_default}
use Rattle.std.proofs.lemmas.List.Elements.{All-cons, All-nil}
use Rattle.std.proofs.lemmas.List.FromFn.{length-range_with_len}
use Rattle.xn_model.specs.Drawing.{drawn_web, order_of}
use Rattle.xn_model.specs.Graph.{Graph, edges_of}
use Rattle.xn_model.specs.Lists.{at}
use Rattle.xn_model.specs.Orders.{crossing_count}
use Rattle.xn_model.specs.Web.{web_of}
use Rattle.xn_graph.specs.Limits.{IsLimitedGraph}
use Rattle.xn_kinds.specs.Laws.{ChildrenAreStates, EmptyIsState}
use Rattle.xn_kinds.specs.Row.{RowHolds, orders_of}
use Rattle.xn_kinds.specs.State.{IsState, empty_state}
use Rattle.xn_kinds.specs.declared.answers.Answer.{Answer}
use Rattle.xn_kinds.specs.declared.rows.Row.{Row}
use Rattle.xn_orders.proofs.Limits.{crossings_few, edges_few, web_limited}
use Rattle.xn_draw.proofs.Totals.{segment_count}
use Rattle.xn_general.specs.Bounds.{SimpleDrawingsAreDrawings}
use Rattle.xn_sound.specs.Laws.{AcceptedProofsBound}
use Rattle.xn_proof.specs.WellFormed.{AreBounds, IsDrawingText, IsRowText, WellFormed}
use Rattle.xn_answers.specs.Proved.{IsLimitedAnswer, IsProved}
use Rattle.xn_answers.proofs.Crossers.{edge_below, lists_text, segments_few, all_there}
use Rattle.xn_answers.proofs.Shown.{evidence_text}
use Rattle.xn_answers.proofs.Trees.{tree_text}

-- a row that holds
row_text : (g : Graph) → IsLimitedGraph g → (row : Row) → RowHolds g row → IsRowText (length g.ends) row
row_text g limited row holds =
    let ord = orders_of row in
    let web = web_limited g row.edges ord limited holds.orders in
    record {
      few = edges_few (length g.ends) row.edges holds.orders.edge_list;
      edges = all_there (λ e. e < 2 ^ 32) row.edges (λ e there. omega (arith, edge_below g row.edges ord limited holds.orders e there, limited.few_edges));
      lists_fit = holds.lists_fit;
      lists = lists_text g row.edges row.orders limited holds.lists_fit holds.orders;
      evidence = evidence_text (web_of g row.edges ord) web.few_nodes (segments_few g row.edges ord limited holds.orders) row.evidence holds.evidence;
    }

module _ (empty : EmptyIsState) (step : ChildrenAreStates) (drawings : SimpleDrawingsAreDrawings) (bound : AcceptedProofsBound) (a : Answer) (limited : IsLimitedAnswer a) (proved : IsProved a) where
  lower_within : a.lower ≤ a.upper
  lower_within =
      let ord = order_of a.graph a.drawing.orders in
      let count = crossing_count a.graph ord in
      let least = bound a.graph a.lower a.rows a.tree limited.graph.is_graph proved.accepted in
      let drawn = drawings a.graph count limited.graph.is_graph (ord, at a.drawing.next, proved.drawing.drawing, refl) in
      omega (arith, least count drawn, proved.crossings)

  upper_few : a.upper ≤ 499500
  upper_few =
      let edges : length (edges_of a.graph) ≤ 1000 = omega (arith, length-range_with_len 0 (length a.graph.ends), limited.graph.few_edges) in
      omega (arith, crossings_few (edges_of a.graph) (order_of a.graph a.drawing.orders) edges, proved.crossings)

  bounds : AreBounds a.lower a.upper a.spent a.budget
  bounds = record {
    lower_small = omega (arith, lower_within, upper_few);
    upper_small = upper_few;
    spent_small = limited.in_budget;
    budget_small = limited.budget;
  }

  drawing_text : IsDrawingText (length a.graph.ends) a.drawing
  drawing_text =
      let g = a.graph in
      let lists = a.drawing.orders in
      let is = proved.drawing in
      let fits : length lists ≡ length (edges_of g) = omega (arith, is.lists_fit, length-range_with_len 0 (length g.ends)) in
      let web = web_limited g (edges_of g) (order_of g lists) limited.graph is.drawing.orders in
      record {
        lists_fit = is.lists_fit;
        lists = lists_text g (edges_of g) lists limited.graph fits is.drawing.orders;
        next_fits = is.next_fits ∙ ap (λ n. 2 * n) (segment_count g lists is.lists_fit);
        next_small = λ k d low.
            let dart : k < 2 * length (drawn_web g lists).ends = omega (arith, low, is.next_fits) in
            let below = is.drawing.is_flat_map.is_map.permutes.below k dart in
            let same : at a.drawing.next k ≡ get_or a.drawing.next k d = get_or_default a.drawing.next k 0 d low in
            omega (arith, below, same, web.few_segments);
      }

  pub well_formed : WellFormed a
  well_formed = record {
    graph = limited.graph;
    loops = limited.loops;
    bounds = bounds;
    drawing = drawing_text;
    few_rows = limited.few_rows;
    rows = λ i d low. row_text a.graph limited.graph (get_or a.rows i d) (proved.accepted.rows_hold i d low);
    tree = tree_text step a.graph a.lower a.rows limited.few_rows a.tree (empty_state ∷ []) (All-cons (IsState a.graph) empty_state [] (empty a.graph) (All-nil (IsState a.graph))) proved.accepted.tree;
  }
