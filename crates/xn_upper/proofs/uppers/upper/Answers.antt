use Rattle.std.proofs.Common.{inl, inr, ℕ, length, sym, ◌∙◌, ap, subst, arith}
use Rattle.std.specs.Global.{Global}
use Rattle.std.specs.Prelude.{IfOk, IsPermutation, Vec}
use Rattle.xn_model.specs.Drawing.{IsListedDrawing}
use Rattle.xn_model.specs.Graph.{Graph, edges_of}
use Rattle.xn_kinds.specs.declared.drawings.Drawing.{Drawing}
use Rattle.xn_loose.specs.Renaming.{subgraph_of}
use Rattle.xn_upper.specs.Upper.{IsOrderOfAll, IsWholeOf}
use Rattle.xn_upper.specs.declared.shuffles.Draws.{Draws}
use Rattle.xn_upper.proofs.Whole.{order_long, shuffled, subgraph_of_all}
use Rattle.xn_upper.proofs.uppers.upper.Goals.{then-crossings-gt0+in_ok-drawn, else-crossings-gt0}
use Rattle.xn_upper.proofs.uppers.upper.Goals as goal

pub shuffle-requires-clause-few : goal.shuffle-requires-clause-few
shuffle-requires-clause-few c =
    let lent = ap length c.as_mut_slice.ensures.value in
    let long = order_long c.args.graph.now c.loop.order.items c.loop.invariant.order in
    omega (arith, lent, long, c.edges.ensures.limited.few_edges)

pub drawn-requires-then-crossings-gt0 : goal.drawn-requires-then-crossings-gt0
drawn-requires-then-crossings-gt0 c =
    let g = c.args.graph.now in
    subst (IsPermutation (edges_of g)) (sym c.deref-then-crossings-gt0.ensures.value)
    (shuffled g c.loop.order.len c.loop.order.items c.as_mut_slice.result.now c.shuffle.new.list c.loop.invariant.order c.as_mut_slice.ensures.value (omega (arith, c.loop.order.ok.0)) c.shuffle.ensures.moved)

pub loop-preserved : goal.loop-preserved
loop-preserved c =
    let g = c.args.graph.now in
    let was = c.loop.invariant in
    let P : Vec ℕ Global → Type 0 = λ v. IsOrderOfAll g v.items in
    let W = IsWholeOf g in
    elim c.if-crossings-gt0.branch [
      | then-crossings-gt0+in_ok-drawn w ↦ record {
        order =
            subst P (sym w.order-is)
            (shuffled g c.loop.order.len c.loop.order.items w.as_mut_slice.result.now w.shuffle.new.list was.order w.as_mut_slice.ensures.value (omega (arith, c.loop.order.ok.0)) w.shuffle.ensures.moved);
        small = omega (arith, ap (λ (d : Draws). d.state) w.draws-is, w.shuffle.ensures.small);
        best = subst W (sym w.best-is) (elim w.better-best.ensures [
          | inl same ↦ subst W (sym same) was.best
          | inr same ↦ subst W (sym same) w.in_ok-drawn.ensures
        ]);
      }
      | else-crossings-gt0 w ↦ record {
        order = subst P (sym w.order-is) was.order;
        small = omega (arith, ap (λ (d : Draws). d.state) w.draws-is, was.small);
        best = subst W (sym w.best-is) was.best;
      }
    ]

pub returns : goal.returns
returns c =
    let g = c.args.graph.now in
    subst (λ (h : Graph). IfOk c.simplify.result (λ (d : Drawing). IsListedDrawing h d.orders d.next)) (ap (subgraph_of g) c.loop.invariant.best.all ∙ subgraph_of_all g) c.simplify.ensures.drawing
