use Rattle.std.proofs.Common.{◌≡◌, ℕ, ◌+◌, ◌-◌, Bool, List, ◌++◌, length, map, drop, take, get_or, ap, sym, ◌∙◌, append_assoc, arith, length-drop, length-take}
use Rattle.std.specs.Prelude.{filter}
use Rattle.std.proofs.lemmas.List.{take_rest}
use Rattle.xn_model.specs.Drawing.{order_of}
use Rattle.xn_model.specs.Graph.{each_two}
use Rattle.xn_model.specs.Lists.{has}
use Rattle.xn_brute.proofs.OrdersAt.{crossings-drop, edge_at}
use Rattle.xn_brute.proofs.webs.crossings.Goals as goal

pub order-requires-clause-edge : goal.order-requires-clause-edge
order-requires-clause-edge c = edge_at c.args.graph.now c.args.edges.now c.loop-i.i c.requires.edges c.loop-i-test.true

pub loop-i-preserved : goal.loop-i-preserved
loop-i-preserved c =
    let edges = c.args.edges.now in
    let i = c.loop-i.i in
    let e = get_or edges i 0 in
    let ord = order_of c.args.graph.now c.args.orders.now in
    let old = c.loop-i.pairs.items in
    let rest = drop (i + 1) edges in
    let crosses : ℕ × ℕ → Bool = λ p. has (ord p.0) p.1 in
    let with : List ℕ → List ℕ → List (ℕ × ℕ) = λ list later. filter {X = ℕ × ℕ} (λ p. has list p.1) (map (λ f. (e, f)) later) in
    let pushed : with c.order.result.now (take (length edges - (i + 1)) rest) ≡ with (ord e) rest = ap (λ l. with l (take (length edges - (i + 1)) rest)) c.order.ensures.list ∙ ap (with (ord e)) (take_rest edges (i + 1)) in
    let after = c.in_ok-push_crossings.ensures.pairs ∙ ap (λ l. old ++ l) pushed in
    record {
      few = omega (arith, c.in_ok-push_crossings.ensures.few, take_rest edges (i + 1), length-take (length edges - (i + 1)) rest, length-drop (i + 1) edges);
      pairs =
          ap (λ l. l ++ filter crosses (each_two rest)) after ∙ append_assoc old (with (ord e) rest) (filter crosses (each_two rest))
          ∙ ap (λ l. old ++ l) (sym (crossings-drop ord edges i c.loop-i-test.true)) ∙ c.loop-i.invariant.pairs;
    }
