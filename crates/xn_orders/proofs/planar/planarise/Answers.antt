use Rattle.std.proofs.Common.{◌≡◌, ℕ, ◌+◌, ◌∙◌, List, Result, Ok, Err, ap, refl, subst, sym, arith, length}
use Rattle.std.specs.List.{flat_map}
use Rattle.std.specs.Result.{IsOk, OkIff}
use Rattle.xn_model.specs.Orders.{crossings_of, order_at}
use Rattle.xn_model.specs.Web.{segments_of}
use Rattle.xn_graph.specs.Limits.{IsLimitedWeb, graph_of}
use Rattle.xn_orders.proofs.Limits.{few_crossings, web_limited}
use Rattle.xn_orders.proofs.planar.planarise.Goals as goal

pub overflow_cast-nodes : goal.overflow_cast-nodes
overflow_cast-nodes c =
    let edges = c.args.edges.now in
    let few = few_crossings c.args.graph.now edges (order_at edges c.args.orders.now) c.nodes.ensures.limited c.requires.orders in
    omega (arith, few, ap length c.in_ok-pairs.ensures, c.in_ok-pairs.pairs.ok.0, c.len.ensures)

pub overflow_add-nodes : goal.overflow_add-nodes
overflow_add-nodes c =
    let edges = c.args.edges.now in
    let few = few_crossings c.args.graph.now edges (order_at edges c.args.orders.now) c.nodes.ensures.limited c.requires.orders in
    omega (arith, few, ap length c.in_ok-pairs.ensures, c.in_ok-pairs.pairs.ok.0, c.len.ensures, c.nodes.ensures.limited.few_nodes, c.nodes.ensures.value)

pub segments-requires-clause-few : goal.segments-requires-clause-few
segments-requires-clause-few c =
    let edges = c.args.edges.now in
    let few = few_crossings c.args.graph.now edges (order_at edges c.args.orders.now) c.nodes.ensures.limited c.requires.orders in
    omega (arith, few, ap length (c.deref.ensures.value ∙ c.in_ok-pairs.ensures))

graph-same : (n m : ℕ) (ps qs : List (ℕ × ℕ)) → n ≡ m → ps ≡ qs → graph_of n ps ≡ graph_of m qs
graph-same n m ps qs nodes ends = ap (λ k. graph_of k ps) nodes ∙ ap (graph_of m) ends

is_made : {T E : Type 0} (r : Result T E) (P : Type 0) (v : T) → OkIff r P v → P → IsOk r
is_made (Ok x) P v made holds = refl
is_made (Err e) P v refused holds = absurd (refused holds)

pub unwrap-requires : goal.unwrap-requires
unwrap-requires c =
    let g = c.args.graph.now in
    let edges = c.args.edges.now in
    let ord = order_at edges c.args.orders.now in
    let pairs = c.deref.ensures.value ∙ c.in_ok-pairs.ensures in
    let nodes : c.nodes.result + c.len.result ≡ g.nodes + length (crossings_of edges ord) =
    omega (arith, ap length c.in_ok-pairs.ensures, c.in_ok-pairs.pairs.ok.0, c.len.ensures, c.nodes.ensures.value) in
    let ends = c.in_ok-ends.ensures ∙ ap (λ ps. flat_map (segments_of g ps ord) edges) pairs in
    let same = graph-same _ _ _ _ nodes ends in
    let limited = subst IsLimitedWeb (sym same) (web_limited g edges ord c.nodes.ensures.limited c.requires.orders) in
    is_made c.make.result _ _ c.make.ensures.ok limited
