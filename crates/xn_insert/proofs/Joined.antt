-- An edge between two components, on the lists of a map that calls have changed.
use Rattle.std.proofs.Common.{◌≡◌, ◌≢◌, ℕ, zero, suc, ◌+◌, ◌*◌, ◌^◌, ◌<◌, ◌≤◌, inl, inr, false, cond, eqb, List, [], ◌∷◌, length, set, refl, sym, ◌∙◌, ap, subst, arith, length-append}
use Rattle.std.proofs.lemmas.Bool.{cases_eq, cond-false, cond-true, eq-eqb, ne_eqb}
use Rattle.std.proofs.lemmas.List.{get_or-set_other, get_or-set_same, length-set}
use Rattle.xn_model.specs.Graph.{Graph, ends_at}
use Rattle.xn_model.specs.Lists.{at, has}
use Rattle.xn_model.specs.Loose.{GoesStraight, IsLoose}
use Rattle.xn_model.specs.Map.{IsMap, Joined, MeetsEuler, WalksTo, reverse_of, tail_of}
use Rattle.xn_model.proofs.Darts.{reverse_below}
use Rattle.xn_genus.proofs.Kept.{EndsIn_at}
use Rattle.xn_surgery.specs.Corners as laws
use Rattle.xn_map.specs.Changes.{Inserts, StaysFlat, corner_of, node_of}
use Rattle.xn_map.specs.Corners.{IsCorner}
use Rattle.xn_map.specs.Listed.{IsListedMap, ListedMap}
use Rattle.xn_map.specs.declared.corners.Corner.{Corner}
use Rattle.xn_map.specs.declared.corners.Corner.TheVariants.{After, Lone}
use Rattle.xn_loose.specs.Inserting.{EachMeetsOnce, IsOneMore}
use Rattle.xn_loose.proofs.Joining as joining
use Rattle.xn_loose.proofs.RoutesThere.{routes_are_there}
use Rattle.xn_loose.proofs.Shortest.{simple_crosses}
use Rattle.xn_loose.proofs.Within.{faces_have_names}
use Rattle.xn_insert.specs.Calls.{IsInserted}
use Rattle.xn_insert.specs.ListedLoose.{IsLooseOf, ListedLoose, edges_in, loose_of, walk_of, MeetOnceIn}
use Rattle.xn_insert.specs.Routed.{HasNoRoute}
use Rattle.xn_insert.proofs.CutWalks.{none_cut}
use Rattle.xn_insert.proofs.Ended.{edges_then}
use Rattle.xn_insert.proofs.Grown.{all, more_edges}

-- where the turns are the same the drawing is the same
straight_same : (n : ℕ) (ends : List (ℕ × ℕ)) (next turn : ℕ → ℕ) → ((x : ℕ) → x < 2 * length ends → next x < 2 * length ends) → ((x : ℕ) → x < 2 * length ends → turn x ≡ next x) →
    (s t : ℕ) (ds : List ℕ) → WalksTo ends s ds t → GoesStraight n ends next ds → GoesStraight n ends turn ds
straight_same n ends next turn below same s t [] walk goes = tt
straight_same n ends next turn below same s t (d ∷ []) walk goes = tt
straight_same n ends next turn below same s t (d ∷ d' ∷ ds) walk goes =
    let r_in = reverse_below (length ends) d walk.0 in
    (goes.0, ap turn (same (reverse_of d) r_in) ∙ same (next (reverse_of d)) (below (reverse_of d) r_in) ∙ goes.1, straight_same n ends next turn below same (tail_of ends (reverse_of d)) t (d' ∷ ds) walk.2 goes.2)

loose_by_turns : (g : Graph) (edges : List ℕ) (further : ℕ) (web : Graph) (next turn : ℕ → ℕ) (walks : ℕ → List ℕ) → ((x : ℕ) → x < 2 * length web.ends → turn x ≡ next x) →
    IsMap web.nodes web.ends turn → MeetsEuler web.nodes web.ends turn → IsLoose g edges further web next walks → IsLoose g edges further web turn walks
loose_by_turns g edges further web next turn walks same map flat loose = record {
  is_graph = loose.is_graph;
  edge_list = loose.edge_list;
  nodes = loose.nodes;
  is_flat_map = record { is_map = map; flat = flat };
  lead = loose.lead;
  straight = λ e e_in. straight_same g.nodes web.ends next turn loose.is_flat_map.is_map.permutes.below same (ends_at g.ends e).0 (ends_at g.ends e).1 (walks e) (loose.lead e e_in) (loose.straight e e_in);
  once = loose.once;
  four = loose.four;
}

-- no route: the ends are in two components
module _ (g : Graph) (l : ListedLoose) (is : IsLooseOf g l) (e : ℕ) (e_low : e < length g.ends) (new_edge : has (edges_in l) e ≡ false)
    (none : HasNoRoute l.map (ends_at g.ends e).0 (ends_at g.ends e).1) where
  pub not_joined : Joined l.map.web.ends (ends_at g.ends e).0 (ends_at g.ends e).1 → ⊥
  not_joined there =
      let map = is.loose.is_flat_map.is_map in
      let names = faces_have_names l.map.web.nodes l.map.web.ends (at l.map.next) map in
      let some = routes_are_there l.map.web.nodes l.map.web.ends (at l.map.next) names.0 map names.1 _ _ (is.loose.is_graph.no_loop e e_low) there in
      none some.0 (simple_crosses l.map.web.nodes l.map.web.ends (at l.map.next) names.0 map names.1 _ _ some.0 some.1)

  pub ends_low : ((ends_at g.ends e).0 < l.map.web.nodes) × ((ends_at g.ends e).1 < l.map.web.nodes)
  ends_low =
      let low = EndsIn_at g.nodes g.ends is.loose.is_graph.ends_in e e_low in
      let nodes = is.loose.nodes in
      (omega (arith, low, nodes), omega (arith, low, nodes))

  module _ (listed : IsListedMap l.map) (from to : Corner) (from_in : IsCorner l.map from) (to_in : IsCorner l.map to) (at_from : node_of l.map from ≡ (ends_at g.ends e).0)
      (at_to : node_of l.map to ≡ (ends_at g.ends e).1) where
    law_corner : (k : Corner) → IsCorner l.map k → laws.IsCornerOf l.map.web.nodes l.map.web.ends (corner_of k)
    law_corner (After d) k_in = let fits = listed.fits in omega (arith, k_in, fits)
    law_corner (Lone w) k_in = k_in

    abbrev from' : (k : laws.Corner) × laws.IsCornerOf l.map.web.nodes l.map.web.ends k × (laws.node_of l.map.web.ends k ≡ (ends_at g.ends e).0)
    from' = (corner_of from, law_corner from from_in, at_from)

    abbrev to' : (k : laws.Corner) × laws.IsCornerOf l.map.web.nodes l.map.web.ends k × (laws.node_of l.map.web.ends k ≡ (ends_at g.ends e).1)
    to' = (corner_of to, law_corner to to_in, at_to)

    module _ (m : ListedMap) (inserts : Inserts l.map from to m) (new_map : IsListedMap m) (flat : MeetsEuler m.web.nodes m.web.ends (at m.next)) where
      abbrev lists : List (List ℕ)
      lists = set l.walks e (2 * length l.map.web.ends ∷ [])

      walk_here : (x : ℕ) → walk_of lists x ≡ cond (eqb x e) (2 * length l.map.web.ends ∷ []) (walk_of l.walks x)
      walk_here x = elim (cases_eq x e) [
        | inl same ↦
            let size = is.lists in
            ap (walk_of lists) same ∙ get_or-set_same l.walks e (2 * length l.map.web.ends ∷ []) [] (omega (arith, e_low, size)) ∙ sym (cond-true _ _ _ (eq-eqb x e same))
        | inr other ↦ get_or-set_other l.walks e x (2 * length l.map.web.ends ∷ []) [] other ∙ sym (cond-false _ _ _ (ne_eqb x e other))
      ]

      abbrev edges' : List ℕ
      edges' = all g l is e e_low new_edge

      abbrev web' : Graph
      web' = joining.web' g (edges_in l) edges' e is.further l.map.web (at l.map.next) (walk_of l.walks) is.loose (more_edges g l is e e_low new_edge) e_low not_joined from' to'

      abbrev turn' : ℕ → ℕ
      turn' = joining.turn g (edges_in l) edges' e is.further l.map.web (at l.map.next) (walk_of l.walks) is.loose (more_edges g l is e e_low new_edge) e_low not_joined from' to'

      abbrev walks' : ℕ → List ℕ
      walks' = joining.walks' g (edges_in l) edges' e is.further l.map.web (at l.map.next) (walk_of l.walks) is.loose (more_edges g l is e e_low new_edge) e_low not_joined from' to'

      web_is : web' ≡ m.web
      web_is = ap (λ k. record { nodes = k; ends = web'.ends }) (sym inserts.0) ∙ ap (λ es. record { nodes = m.web.nodes; ends = es }) (sym inserts.1.ends_more)

      walks_are : walks' ≡ walk_of lists
      walks_are = λ i x. sym (walk_here x) i

      same_turns : (x : ℕ) → x < 2 * length web'.ends → at m.next x ≡ turn' x
      same_turns x x_in =
          let size = length-append l.map.web.ends ((node_of l.map from, node_of l.map to) ∷ []) in
          inserts.1.turns x (omega (arith, x_in, size))

      loose' : IsLoose g edges' is.further m.web (at m.next) (walk_of lists)
      loose' =
          let base = joining.joined_loose g (edges_in l) edges' e is.further l.map.web (at l.map.next) (walk_of l.walks) is.loose (more_edges g l is e e_low new_edge) e_low not_joined from' to' in
          let map = subst (λ w. IsMap w.nodes w.ends (at m.next)) (sym web_is) new_map.is_map in
          let euler = subst (λ w. MeetsEuler w.nodes w.ends (at m.next)) (sym web_is) flat in
          let turned = loose_by_turns g edges' is.further web' turn' (at m.next) walks' same_turns map euler base in
          let moved = subst (λ w. IsLoose g edges' is.further w (at m.next) walks') web_is turned in
          subst (λ f. IsLoose g edges' is.further m.web (at m.next) f) walks_are moved

      once' : MeetOnceIn l → EachMeetsOnce edges' m.web.ends (walk_of lists)
      once' once =
          let base = joining.joined_once g (edges_in l) edges' e is.further l.map.web (at l.map.next) (walk_of l.walks) is.loose (more_edges g l is e e_low new_edge) e_low not_joined from' to' once in
          let moved = subst (λ w. EachMeetsOnce edges' w.ends walks') web_is base in
          subst (λ f. EachMeetsOnce edges' m.web.ends f) walks_are moved

      pub joined_inserted : IsInserted g e l (loose_of l.nodes m lists)
      joined_inserted =
          let es = edges_then g l is e e_low new_edge [] (2 * length l.map.web.ends ∷ []) m lists refl (record {
            size = length-set l.walks e (2 * length l.map.web.ends ∷ []);
            each = λ x. walk_here x ∙ ap (cond (eqb x e) (2 * length l.map.web.ends ∷ [])) (sym (none_cut [] (λ t. nothing t) (walk_of l.walks x)));
          }) in
          record {
            one_more = subst (IsOneMore (length g.ends) (edges_in l) e) (sym es) (more_edges g l is e e_low new_edge);
            loose = record {
              nodes = is.nodes;
              lists = length-set l.walks e (2 * length l.map.web.ends ∷ []) ∙ is.lists;
              further = is.further;
              loose = subst (λ xs. IsLoose g xs is.further m.web (at m.next) (walk_of lists)) (sym es) loose';
            };
            once = λ once. subst (λ xs. EachMeetsOnce xs m.web.ends (walk_of lists)) (sym es) (once' once);
            joined = λ r least. let some = least.route in absurd (none some.0 some.1);
            apart = λ far. inserts.0;
          }
        where
          nothing : (t : ℕ) → at [] t ≡ 0
          nothing zero = refl
          nothing (suc t) = refl

-- ---- the call

-- e may come in between two components
pub record MayJoin (g : Graph) (e : ℕ) (l : ListedLoose) : Type 0 where
  pub loose : IsLooseOf g l
  pub edge : e < length g.ends
  pub new_edge : has (edges_in l) e ≡ false
  pub few : l.map.web.nodes ≤ l.nodes + 2 ^ 24
  pub none : HasNoRoute l.map (ends_at g.ends e).0 (ends_at g.ends e).1

pub may_join : (g : Graph) (e : ℕ) (l old : ListedLoose) → l ≡ old → IsLooseOf g old → e < length g.ends → has (edges_in old) e ≡ false → old.map.web.nodes ≤ old.nodes + 2 ^ 24 →
    HasNoRoute old.map (ends_at g.ends e).0 (ends_at g.ends e).1 → MayJoin g e l
may_join g e l old same loose edge new_edge few none = subst (MayJoin g e) (sym same) (record { loose = loose; edge = edge; new_edge = new_edge; few = few; none = none })

module _ (g : Graph) (e : ℕ) (l : ListedLoose) (may : MayJoin g e l) (p : ℕ × ℕ) (p_is : p ≡ ends_at g.ends e) where
  pub are_nodes : (p.0 < l.map.web.nodes) × (p.1 < l.map.web.nodes)
  are_nodes = subst (λ q. (q.0 < l.map.web.nodes) × (q.1 < l.map.web.nodes)) (sym p_is) (ends_low g l may.loose e may.edge may.new_edge may.none)

  module _ (from to : Corner) (at_from : node_of l.map from ≡ p.0) (at_to : node_of l.map to ≡ p.1) where
    from_is : node_of l.map from ≡ (ends_at g.ends e).0
    from_is = at_from ∙ ap (λ q. q.0) p_is

    to_is : node_of l.map to ≡ (ends_at g.ends e).1
    to_is = at_to ∙ ap (λ q. q.1) p_is

    pub nodes_differ : node_of l.map from ≢ node_of l.map to
    nodes_differ same = may.loose.loose.is_graph.no_loop e may.edge (sym from_is ∙ same ∙ to_is)

    pub nodes_apart : Joined l.map.web.ends (node_of l.map from) (node_of l.map to) → ⊥
    nodes_apart there =
        let J : ℕ → ℕ → Type 0 = λ x y. Joined l.map.web.ends x y in
        not_joined g l may.loose e may.edge may.new_edge may.none (subst (J (ends_at g.ends e).0) to_is (subst (λ x. J x (node_of l.map to)) from_is there))

    pub inserted_then : IsListedMap l.map → IsCorner l.map from → IsCorner l.map to → (m : ListedMap) → Inserts l.map from to m → IsListedMap m → StaysFlat l.map m → (own : List ℕ) →
        own ≡ (2 * length l.map.web.ends) ∷ [] → IsInserted g e l (loose_of l.nodes m (set l.walks e own))
    inserted_then listed from_in to_in m inserts new_map flat own own_is =
        subst (λ ds. IsInserted g e l (loose_of l.nodes m (set l.walks e ds))) (sym own_is)
        (joined_inserted g l may.loose e may.edge may.new_edge may.none listed from to from_in to_in from_is to_is m inserts new_map (flat may.loose.loose.is_flat_map.flat))
