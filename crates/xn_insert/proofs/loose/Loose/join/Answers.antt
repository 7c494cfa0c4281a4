use Rattle.std.proofs.Common.{◌≡◌, ◌*◌, ◌∷◌, [], List, ℕ, length, inr, sym, ap, subst, ◌∙◌, arith, rules}
use Rattle.std.proofs.lemmas.List.{length-set}
use Rattle.xn_insert.specs.Calls.{IsInserted}
use Rattle.xn_insert.specs.ListedLoose.{ListedLoose, loose_of}
use Rattle.xn_insert.proofs.Counted.{few_of}
use Rattle.xn_insert.proofs.Joined.{are_nodes, inserted_then, may_join, nodes_apart, nodes_differ}
use Rattle.xn_insert.proofs.loose.Loose.join.Goals as goal

pub corner_of-from-requires : goal.corner_of-from-requires
corner_of-from-requires c =
    let l = loose_of c.self.inside.nodes c.self.inside.map c.self.inside.walks in
    let may = may_join c.args.graph.now c.args.e l c.args.self.now c.self.view_is c.requires.loose c.requires.edge c.requires.new c.requires.few c.requires.apart in
    (are_nodes c.args.graph.now c.args.e l may c.end-u.result c.end-u.ensures.value).0

pub corner_of-to-requires : goal.corner_of-to-requires
corner_of-to-requires c =
    let l = loose_of c.self.inside.nodes c.self.inside.map c.self.inside.walks in
    let may = may_join c.args.graph.now c.args.e l c.args.self.now c.self.view_is c.requires.loose c.requires.edge c.requires.new c.requires.few c.requires.apart in
    (are_nodes c.args.graph.now c.args.e l may c.end-u.result c.end-u.ensures.value).1

pub add_edge-requires : goal.add_edge-requires
add_edge-requires c =
    let g = c.args.graph.now in
    let e = c.args.e in
    let l = loose_of c.self.inside.nodes c.self.inside.map c.self.inside.walks in
    let may = may_join g e l c.args.self.now c.self.view_is c.requires.loose c.requires.edge c.requires.new c.requires.few c.requires.apart in
    let p = c.end-u.result in
    record {
      few = let most = few_of g l may.loose c.self.invariant.1 may.few in omega (arith, most);
      a_in = c.corner_of-from.ensures.corner;
      b_in = c.corner_of-to.ensures.corner;
      two_nodes = nodes_differ g e l may p c.end-u.ensures.value c.corner_of-from.result c.corner_of-to.result c.corner_of-from.ensures.node c.corner_of-to.ensures.node;
      one_face = inr (nodes_apart g e l may p c.end-u.ensures.value c.corner_of-from.result c.corner_of-to.result c.corner_of-from.ensures.node c.corner_of-to.ensures.node);
    }

pub invariant_of-self-2 : goal.invariant_of-self-2
invariant_of-self-2 c =
    let nodes = c.self.invariant.0 in
    let same_nodes = c.in_ok-add_edge.ensures.ok.0 in
    let walks = c.self.invariant.1 in
    let put = ap length c.put.ensures in
    let size = length-set c.self.inside.walks c.args.e c.in_ok-own.own.items in
    (omega (arith, nodes, same_nodes), omega (arith, walks, put, size))

pub returns-clause-ok : goal.returns-clause-ok
returns-clause-ok c =
    let g = c.args.graph.now in
    let e = c.args.e in
    let l = loose_of c.self.inside.nodes c.self.inside.map c.self.inside.walks in
    let may = may_join g e l c.args.self.now c.self.view_is c.requires.loose c.requires.edge c.requires.new c.requires.few c.requires.apart in
    let m = c.add_edge.new.self in
    let segments = c.segments.ensures.value ∙ ap (λ w. length w.ends) c.web.ensures.value in
    let own : c.in_ok-own.own.items ≡ (2 * length l.map.web.ends) ∷ [] = c.in_ok-own.ensures.items_if_clones_equal (search rules) ∙ ap (λ k. (2 * k) ∷ []) segments in
    let then = inserted_then g e l may c.end-u.result c.end-u.ensures.value c.corner_of-from.result c.corner_of-to.result c.corner_of-from.ensures.node c.corner_of-to.ensures.node
    c.web.ensures.is_map c.corner_of-from.ensures.corner c.corner_of-to.ensures.corner m c.in_ok-add_edge.ensures.ok c.web-2.ensures.is_map c.in_ok-add_edge.ensures.flat c.in_ok-own.own.items own in
    let P : List (List ℕ) → Type 0 = λ ws. IsInserted g e l (loose_of l.nodes m ws) in
    let Q : ListedLoose → Type 0 = λ x. IsInserted g e x (loose_of l.nodes m c.put.new.self) in
    subst Q c.self.view_is (subst P (sym c.put.ensures) then)
