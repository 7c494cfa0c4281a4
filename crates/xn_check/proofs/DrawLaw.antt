-- The draw verdict in the words of the answer.
use Rattle.std.proofs.Common.{◌≡◌, ℕ, ◌+◌, List, [], ◌∷◌, ◌++◌, length, drop, Ok, sym, subst, ap, ◌∙◌, arith}
use Rattle.xn_model.specs.Drawing.{IsListedDrawing, order_of}
use Rattle.xn_model.specs.Graph.{Graph}
use Rattle.xn_model.specs.Lists.{total}
use Rattle.xn_model.specs.Orders.{crossing_count}
use Rattle.xn_kinds.specs.declared.answers.Answer.{Answer}
use Rattle.xn_kinds.specs.declared.drawings.Drawing.{Drawing}
use Rattle.xn_proof.specs.Forms.{bounds_items, drawing_items, items_of, rows_items, tree_items}
use Rattle.xn_proof.specs.WellFormed.{WellFormed}
use Rattle.xn_proof.specs.declared.item.Item.{Item}
use Rattle.xn_proof.specs.declared.item.Item.TheVariants as item
use Rattle.xn_check.specs.FrontSaid.{FrontSaid, no_front}
use Rattle.xn_check.specs.Judging.{Rules}
use Rattle.xn_check.specs.Laws.{DrawnWhereSpelled, SpellsDrawing}
use Rattle.xn_check.specs.Verdict.{DrawVerdict, draw_rules}
use Rattle.xn_check.proofs.DrawItems.{all_passed, drawing_said, edge_items, edges_agree, edges_are, edges_said}
use Rattle.xn_check.proofs.ItemKinds.{proof_passes}
use Rattle.xn_check.proofs.Items.{AllAgree, agree_first, agree_head, agree_join, agree_rest, agree_tail, all_said, said_join}
use Rattle.xn_check.proofs.Spelled.{said_so, says}

-- the answer is one for the graph and so many loops, with a drawing of `upper` crossings
pub record IsFor (g : Graph) (loops : ℕ) (a : Answer) : Type 0 where
  pub same_graph : a.graph ≡ g
  pub same_loops : a.loops ≡ loops
  pub drawing : IsListedDrawing g a.drawing.orders a.drawing.next
  pub crossings : a.upper ≡ crossing_count g (order_of g a.drawing.orders)

module _ (g : Graph) (loops : ℕ) (a : Answer) where
  abbrev R : Rules FrontSaid Drawing
  R = draw_rules g loops

  -- the items up to the edges, those up to `drawn`, and those after it
  abbrev proof_items : List Item
  proof_items = rows_items a.rows ++ tree_items a.tree

  abbrev sized : FrontSaid
  sized = record no_front { nodes = a.graph.nodes }

  abbrev after_edges : FrontSaid
  after_edges = record sized { ends = [] ++ a.graph.ends }

  abbrev after_bounds : FrontSaid
  after_bounds = record after_edges { lower = a.lower; upper = a.upper }

  abbrev pub after_drawing : FrontSaid
  after_drawing = record after_bounds { lists = a.drawing.orders; next = a.drawing.next }

  segments : ℕ
  segments = length a.graph.ends + total length a.drawing.orders

  abbrev with_drawing : List Item
  with_drawing = drawing_items a.drawing ++ (item.Drawn ∷ proof_items)

  abbrev with_bounds : List Item
  with_bounds = bounds_items a.lower a.upper a.spent a.budget ++ with_drawing

  drawn_said : WellFormed a → all_said R after_bounds (drawing_items a.drawing) ≡ after_drawing
  drawn_said fine = (drawing_said g loops a.drawing (length a.graph.ends + total length a.drawing.orders) after_bounds fine.drawing.next_fits).1

  -- what is said after all lines
  pub said_last : WellFormed a → all_said R no_front (items_of a) ≡ after_drawing
  said_last fine =
      said_join R sized (edge_items g loops a.graph.ends) with_bounds
      ∙ ap (λ (f : FrontSaid). all_said R f with_bounds) (edges_said g loops a.graph.ends sized)
      ∙ said_join R after_bounds (drawing_items a.drawing) (item.Drawn ∷ proof_items)
      ∙ ap (λ (f : FrontSaid). all_said R f (item.Drawn ∷ proof_items)) (drawn_said fine)
      ∙ (all_passed g loops proof_items after_drawing (proof_passes a.rows a.tree)).1

  pub is_for : WellFormed a → AllAgree R no_front (items_of a) → IsFor g loops a
  is_for fine all =
      let es = edge_items g loops a.graph.ends in
      let edges_on = es ++ with_bounds in
      let loops_on = item.Loops a.loops ∷ edges_on in
      let size_on = item.Graph a.graph.nodes (length a.graph.ends) ∷ loops_on in
      let after = agree_tail R no_front (item.Header 1) size_on all in
      let size : (a.graph.nodes ≡ g.nodes) × (length a.graph.ends ≡ length g.ends) = agree_head R no_front (item.Graph a.graph.nodes (length a.graph.ends)) loops_on after in
      let looped = agree_tail R no_front (item.Graph a.graph.nodes (length a.graph.ends)) loops_on after in
      let rest = agree_tail R sized (item.Loops a.loops) edges_on looped in
      let edges = edges_are g loops a.graph.ends sized (omega (arith, size.1)) (agree_first R sized es with_bounds rest) in
      let bounded = subst (λ (f : FrontSaid). AllAgree R f with_bounds) (edges_said g loops a.graph.ends sized) (agree_rest R sized es with_bounds rest) in
      let effort_on = item.Effort a.spent a.budget ∷ with_drawing in
      let drawing = agree_tail R after_bounds (item.Effort a.spent a.budget) with_drawing (agree_tail R after_edges (item.Bounds a.lower a.upper) effort_on bounded) in
      let drawn = agree_rest R after_bounds (drawing_items a.drawing) (item.Drawn ∷ proof_items) drawing in
      let judged = agree_head R after_drawing item.Drawn proof_items (subst (λ (f : FrontSaid). AllAgree R f (item.Drawn ∷ proof_items)) (drawn_said fine) drawn) in
      record { same_graph = same a.graph size.0 edges; same_loops = agree_head R sized (item.Loops a.loops) edges_on looped; drawing = judged.0; crossings = judged.1 }
    where
      same : (h : Graph) → h.nodes ≡ g.nodes → h.ends ≡ drop 0 g.ends → h ≡ g
      same h nodes ends = ap (λ (n : ℕ). record { nodes = n; ends = h.ends }) nodes ∙ ap (λ (es : List (ℕ × ℕ)). record { nodes = g.nodes; ends = es }) ends

  pub all_agree : WellFormed a → IsFor g loops a → AllAgree R no_front (items_of a)
  all_agree fine is =
      let es = edge_items g loops a.graph.ends in
      let count : length a.graph.ends ≡ length g.ends = ap (λ (h : Graph). length h.ends) is.same_graph in
      let passed = all_passed g loops proof_items after_drawing (proof_passes a.rows a.tree) in
      let last : AllAgree R after_drawing (item.Drawn ∷ proof_items) = ((is.drawing, is.crossings), passed.0) in
      let drawn = subst (λ (f : FrontSaid). AllAgree R f (item.Drawn ∷ proof_items)) (sym (drawn_said fine)) last in
      let lists = (drawing_said g loops a.drawing (length a.graph.ends + total length a.drawing.orders) after_bounds fine.drawing.next_fits).0 in
      let drawing : AllAgree R after_bounds with_drawing = agree_join R after_bounds (drawing_items a.drawing) (item.Drawn ∷ proof_items) lists drawn in
      let bounded : AllAgree R after_edges with_bounds = (tt, (tt, drawing)) in
      let rest = subst (λ (f : FrontSaid). AllAgree R f with_bounds) (sym (edges_said g loops a.graph.ends sized)) bounded in
      let edges = edges_agree g loops a.graph.ends sized (omega (arith, count)) (ap (λ (h : Graph). h.ends) is.same_graph) in
      let sizes : (a.graph.nodes ≡ g.nodes) × (length a.graph.ends ≡ length g.ends) = (ap (λ (h : Graph). h.nodes) is.same_graph, count) in
      (tt, (sizes, (is.same_loops, agree_join R sized es with_bounds edges rest)))

drawn_is_spelled : (g : Graph) (loops : ℕ) (text : List ℕ) (d : Drawing) → DrawVerdict g loops text (Ok d) → SpellsDrawing g loops text d
drawn_is_spelled g loops text d verdict =
    let h = says (draw_rules g loops) text d verdict in
    let is = is_for g loops h.answer h.well_formed h.agree in (
      h.answer,
      record {
        well_formed = h.well_formed;
        text_is = h.text_is;
        same_graph = is.same_graph;
        same_loops = is.same_loops;
        drawing = is.drawing;
        crossings = is.crossings;
      },
      sym (h.out_is ∙ ap (λ (f : FrontSaid). record { orders = f.lists; next = f.next }) (said_last g loops h.answer h.well_formed)),
    )

spelled_is_drawn : (g : Graph) (loops : ℕ) (text : List ℕ) (d : Drawing) → SpellsDrawing g loops text d → DrawVerdict g loops text (Ok d)
spelled_is_drawn g loops text d h =
    let a = h.0 in
    let s = h.1 in
    let is : IsFor g loops a = record { same_graph = s.same_graph; same_loops = s.same_loops; drawing = s.drawing; crossings = s.crossings } in
    said_so (draw_rules g loops) text d (record {
      answer = a;
      well_formed = s.well_formed;
      text_is = s.text_is;
      agree = all_agree g loops a s.well_formed is;
      out_is = sym h.2 ∙ sym (ap (λ (f : FrontSaid). record { orders = f.lists; next = f.next }) (said_last g loops a s.well_formed));
    })

pub drawn_where_spelled : DrawnWhereSpelled
drawn_where_spelled g loops text d = (drawn_is_spelled g loops text d, spelled_is_drawn g loops text d)
