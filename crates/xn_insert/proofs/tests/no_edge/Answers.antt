use Rattle.std.proofs.Common.{◌≡◌, ℕ, ◌+◌, false, List, [], refl, ◌∙◌, ap, length, subst, rules, arith}
use Rattle.std.specs.List.{IsDistinct}
use Rattle.std.specs.Prelude.{nat_eq}
use Rattle.std.proofs.lemmas.Bool.{both_ways}
use Rattle.xn_list.specs.Lists.{lists_of}
use Rattle.xn_model.specs.Graph.{Graph}
use Rattle.xn_model.specs.Lists.{at}
use Rattle.xn_model.specs.Map.{IsFlat, MeetsEuler}
use Rattle.xn_model.specs.Orders.{order_at}
use Rattle.xn_model.specs.Web.{web_of}
use Rattle.xn_graph.specs.Limits.{graph_of}
use Rattle.xn_map.specs.Listed.{IsListedMap, ListedMap}
use Rattle.xn_insert.specs.Calls.{DrawsKept}
use Rattle.xn_insert.proofs.tests.no_edge.Goals as goal

none_twice : (e : ℕ) → IsDistinct nat_eq (order_at [] [] e)
unfolding IsDistinct
none_twice e = tt

-- a flat map of the nodes alone draws no edge
draws_none : (g : Graph) (lists : List (List ℕ)) (map : ListedMap) → lists ≡ [] → map.web ≡ graph_of g.nodes [] → IsListedMap map → MeetsEuler map.web.nodes map.web.ends (at map.next) →
    DrawsKept g [] lists map
draws_none g lists map none web listed flat =
    let more : g.nodes ≡ g.nodes + 0 = omega arith in
    let here : graph_of g.nodes [] ≡ web_of g [] (order_at [] lists) = ap (λ n. graph_of n []) more in
    let is = web ∙ here in
    record {
      fits = ap length none;
      web = is;
      drawing = record {
        orders = record {
          edge_list = search rules;
          within = λ e f h. absurd (both_ways false refl h);
          no_repeats = none_twice;
          independent = λ e f h. absurd (both_ways false refl h);
          both_ways = λ e f h. absurd (both_ways false refl h);
        };
        is_flat_map = subst (λ w. IsFlat w (at map.next)) is (record { is_map = listed.is_map; flat = flat });
        crosses = λ e f low h. absurd (both_ways false refl h);
      };
    }

pub start-requires-clause-drawn : goal.start-requires-clause-drawn
start-requires-clause-drawn c =
    let g = c.args.graph.now in
    let made = c.in_ok-web.ensures.ok.1 in
    let web = ap (λ m. m.web) c.in_ok-map.ensures.ok ∙ made ∙ ap (λ n. graph_of n c.new.result.items) c.nodes.ensures.value ∙ ap (graph_of g.nodes) c.new.ensures.items in
    draws_none g c.new-orders.result c.in_ok-map.map (c.new-orders.ensures ∙ ap lists_of c.new-2.ensures.items) web c.in_ok-map.ensures.is_map (c.in_ok-is_flat.ensures.0 c.if-not-branch.false)
