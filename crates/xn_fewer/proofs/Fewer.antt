-- The web of some edges, with the crossings among them, has a flat map where the web of all does.
use Rattle.std.proofs.Common.{◌≡◌, ℕ, ◌+◌, ◌-◌, ◌<◌, ◌≤◌, ◌⊎◌, inl, inr, true, cond, ltb, List, [], ◌∷◌, ◌++◌, length, map, refl, sym, ◌∙◌, ap, ap₂, subst, arith}
use Rattle.std.specs.List.{flat_map}
use Rattle.std.specs.Prelude.{filter}
use Rattle.std.proofs.lemmas.Bool.{cases_lt, lt-ltb, le-ltb, cond-true, cond-false}
use Rattle.xn_model.specs.Graph.{EndsIn, Graph, IsGraph, ends_at}
use Rattle.xn_model.specs.Lists.{has}
use Rattle.xn_model.specs.Map.{IsFlat}
use Rattle.xn_model.specs.Orders.{IsOrders, crossings_of}
use Rattle.xn_model.specs.Web.{crossing_node, segments_of, segments_through, web_of}
use Rattle.xn_genus.proofs.Kept.{EndsIn_at}
use Rattle.xn_model.proofs.Has.{has-all, has-first, has-later}
use Rattle.xn_model.proofs.Darts.{EndsIn-both}
use Rattle.xn_fewer.specs.Flat.{HasFlat, both}
use Rattle.xn_fewer.specs.Laws.{FewerEdgesStayFlat, RestrictsOrders}
use Rattle.xn_fewer.proofs.Crossings.{IsCross, crossing_at, crossings_apart, node_apart, node_facts, node_turned, not_of_itself}
use Rattle.xn_fewer.proofs.Lists.{both-append}
use Rattle.xn_fewer.proofs.Renamed.{AreNames, renamed_flat}
use Rattle.xn_fewer.proofs.Rising.{Rising, distinct-rising, rises-filter, rising-from_increasing, same_rising}
use Rattle.xn_fewer.proofs.Has.{has-kept, has-picked}
use Rattle.xn_fewer.proofs.Smoothed.{AreWays, all_smoothed, edges_dropped, way}

-- ---- lists of segments under other names

both-through : (m : ℕ → ℕ) (u v : ℕ) (ws : List ℕ) → map (both m) (segments_through u ws v) ≡ segments_through (m u) (map m ws) (m v)
both-through m u v [] = refl
both-through m u v (w ∷ ws) = ap (λ ps. (m u, m w) ∷ ps) (both-through m w v ws)

both-flat_map : (m : ℕ → ℕ) (f h : ℕ → List (ℕ × ℕ)) (es : List ℕ) → ((e : ℕ) → has es e ≡ true → map (both m) (f e) ≡ h e) → map (both m) (flat_map f es) ≡ flat_map h es
both-flat_map m f h [] each = refl
both-flat_map m f h (e ∷ es) each =
    both-append m (f e) (flat_map f es) ∙ ap₂ ◌++◌ (each e (has-first e es)) (both-flat_map m f h es (λ x x_in. each x (has-later e es x x_in)))

map-twice : (f h k : ℕ → ℕ) (xs : List ℕ) → ((x : ℕ) → has xs x ≡ true → f (h x) ≡ k x) → map f (map h xs) ≡ map k xs
map-twice f h k [] each = refl
map-twice f h k (x ∷ xs) each = ap₂ (λ y ys. y ∷ ys) (each x (has-first x xs)) (map-twice f h k xs (λ y y_in. each y (has-later x xs y y_in)))

-- ---- ends of segments

pub ends-through : (n u v : ℕ) (mid : ℕ → ℕ) (xs : List ℕ) → ((x : ℕ) → has xs x ≡ true → mid x < n) → u < n → v < n → EndsIn n (segments_through u (map mid xs) v)
ends-through n u v mid [] each u_in v_in = (u_in, v_in, tt)
ends-through n u v mid (x ∷ xs) each u_in v_in =
    let here = each x (has-first x xs) in
    (u_in, here, ends-through n (mid x) v mid xs (λ y y_in. each y (has-later x xs y y_in)) here v_in)

pub ends-flat_map : (n : ℕ) (f : ℕ → List (ℕ × ℕ)) (es : List ℕ) → ((e : ℕ) → has es e ≡ true → EndsIn n (f e)) → EndsIn n (flat_map f es)
ends-flat_map n f [] each = tt
ends-flat_map n f (e ∷ es) each = EndsIn-both n (f e) (flat_map f es) (each e (has-first e es)) (ends-flat_map n f es (λ x x_in. each x (has-later e es x x_in)))

module _ (g : Graph) (is_graph : IsGraph g) (edges small : List ℕ) (ord less : ℕ → List ℕ) (all : IsOrders g.ends edges ord) (some : IsOrders g.ends small less)
    (part : RestrictsOrders edges small ord less) (next : ℕ → ℕ) (flat : IsFlat (web_of g edges ord) next) where
  rising : Rising edges
  rising = rising-from_increasing edges all.edge_list.rise

  small_rising : Rising small
  small_rising = rising-from_increasing small some.edge_list.rise

  edge_in : (e : ℕ) → has edges e ≡ true → e < length g.ends
  edge_in = has-all (λ e. e < length g.ends) edges all.edge_list.below

  inside : (e : ℕ) → has small e ≡ true → has edges e ≡ true
  inside = part.inside

  abbrev first : ℕ → ℕ
  first e = (ends_at g.ends e).0

  abbrev last : ℕ → ℕ
  last e = (ends_at g.ends e).1

  first_in : (e : ℕ) → has edges e ≡ true → first e < g.nodes
  first_in e h = (EndsIn_at g.nodes g.ends is_graph.ends_in e (edge_in e h)).0

  last_in : (e : ℕ) → has edges e ≡ true → last e < g.nodes
  last_in e h = (EndsIn_at g.nodes g.ends is_graph.ends_in e (edge_in e h)).1

  abbrev pairs : List (ℕ × ℕ)
  pairs = crossings_of edges ord

  abbrev few : List (ℕ × ℕ)
  few = crossings_of small less

  abbrev big : ℕ → ℕ → ℕ
  big e f = crossing_node g.nodes pairs e f

  abbrev mid : ℕ → ℕ → ℕ
  mid e f = crossing_node g.nodes few e f

  abbrev nodes : ℕ
  nodes = g.nodes + length pairs

  abbrev used : ℕ
  used = g.nodes + length few

  abbrev Big : ℕ → ℕ → Type 0
  Big e f = IsCross g.nodes edges rising ord all.both_ways e f

  abbrev Small : ℕ → ℕ → Type 0
  Small e f = IsCross g.nodes small small_rising less some.both_ways e f

  big_cross : (e f : ℕ) → has (ord e) f ≡ true → Big e f
  big_cross e f crosses = record {
    e_in = all.within e f crosses;
    f_in = all.within f e (all.both_ways e f crosses);
    crosses = crosses;
    differ = not_of_itself g.ends e f
        (all.independent e f crosses);
  }

  small_cross : (e f : ℕ) → has (less e) f ≡ true → Small e f
  small_cross e f crosses = record {
    e_in = some.within e f crosses;
    f_in = some.within f e (some.both_ways e f crosses);
    crosses = crosses;
    differ = not_of_itself g.ends e f
        (some.independent e f crosses);
  }

  -- ---- the web, with these edges and the crossings among them alone

  abbrev fewer : ℕ → List ℕ
  fewer e = filter (has small) (ord e)

  fewer_is : (e : ℕ) → has small e ≡ true → fewer e ≡ less e
  fewer_is e e_in = sym (part.kept e e_in)

  big_is_high : (e f : ℕ) → has (ord e) f ≡ true → (g.nodes ≤ big e f) × (big e f < nodes)
  big_is_high e f crosses = let facts = node_facts g.nodes edges rising ord all.both_ways e f (big_cross e f crosses) in (omega (arith, facts.2), omega (arith, facts.1, facts.2))

  ways : AreWays nodes first last big ord small
  ways = record {
    two_ends = λ e e_in. is_graph.no_loop e (edge_in e (inside e e_in));
    not_first = λ e f x e_in f_in crosses same. omega (arith, first_in e (inside e e_in), big_is_high f x crosses, same);
    not_last = λ e f x e_in f_in crosses same. omega (arith, last_in e (inside e e_in), big_is_high f x crosses, same);
    distinct = all.no_repeats;
    apart = λ e x f y e_in f_in one two same. node_apart g.nodes edges rising ord all.both_ways e x f y (big_cross e x one) (big_cross f y two) same;
  }

  kept_edges : filter (has small) edges ≡ small
  kept_edges =
      same_rising (λ x. x) (filter (has small) edges) small (rises-filter (λ x. x) (has small) edges rising) small_rising
      (λ z z_in. (has-picked (has small) edges z z_in).1) (λ z z_in. has-kept (has small) edges z (inside z z_in) z_in)

  whole_flat : HasFlat nodes (flat_map (way nodes first last big ord small ord) edges)
  whole_flat = record { next = next; is_map = flat.is_map; flat = flat.flat }

  part_flat : HasFlat nodes (flat_map (way nodes first last big ord small fewer) small)
  part_flat =
      let dropped = edges_dropped nodes (way nodes first last big ord small ord) (has small) edges [] whole_flat in
      all_smoothed nodes first last big ord small ways (distinct-rising small small_rising)
      (subst (λ es. HasFlat nodes (flat_map (way nodes first last big ord small ord) es)) kept_edges dropped)

  -- ---- the same under numbers of their own

  abbrev rename : ℕ → ℕ
  rename x = cond (ltb x g.nodes) x (big (ends_at few (x - g.nodes)).0 (ends_at few (x - g.nodes)).1)

  rename_old : (x : ℕ) → x < g.nodes → rename x ≡ x
  rename_old x x_in = cond-true _ _ _ (lt-ltb x g.nodes x_in)

  rename_new : (i : ℕ) → rename (g.nodes + i) ≡ big (ends_at few i).0 (ends_at few i).1
  rename_new i =
      let place : g.nodes + i - g.nodes ≡ i = omega arith in
      cond-false _ _ _ (le-ltb (g.nodes + i) g.nodes (omega arith)) ∙ ap (λ j. big (ends_at few j).0 (ends_at few j).1) place

  rename_mid : (e f : ℕ) → has (less e) f ≡ true → rename (mid e f) ≡ big e f
  rename_mid e f crosses =
      let c = small_cross e f crosses in
      let facts = node_facts g.nodes small small_rising less some.both_ways e f c in
      ap rename facts.2 ∙ rename_new facts.0 ∙ elim facts.3 [
        | inl straight ↦ ap₂ big straight.0 straight.1
        | inr turned ↦ ap₂ big turned.0 turned.1 ∙ node_turned g.nodes edges rising ord all.both_ways f e (λ same. c.differ (sym same))
      ]

  -- a crossing that stays was one
  crosses_too : (e f : ℕ) → has (less e) f ≡ true → has (ord e) f ≡ true
  crosses_too e f crosses = (has-picked (has small) (ord e) f (ap (λ xs. has xs f) (fewer_is e (some.within e f crosses)) ∙ crosses)).0

  listed : (i : ℕ) → i < length few → Big (ends_at few i).0 (ends_at few i).1 × ((ends_at few i).0 < (ends_at few i).1)
  listed i i_in =
      let c = crossing_at g.nodes small small_rising less some.both_ways i i_in in
      (big_cross (ends_at few i).0 (ends_at few i).1 (crosses_too (ends_at few i).0 (ends_at few i).1 c.0.crosses), c.1)

  name : (v : ℕ) → v < used →
      ((v < g.nodes) × (rename v ≡ v)) ⊎ ((i : ℕ) × (i < length few) × (v ≡ g.nodes + i) × (rename v ≡ big (ends_at few i).0 (ends_at few i).1))
  name v v_in = elim (cases_lt v g.nodes) [
    | inl low ↦ inl (low, rename_old v low)
    | inr high ↦
        let i = v - g.nodes in
        let is : v ≡ g.nodes + i = omega arith in
        inr (i, omega (arith, v_in, is), is, ap rename is ∙ rename_new i)
  ]

  high_name : (i : ℕ) → i < length few → (g.nodes ≤ big (ends_at few i).0 (ends_at few i).1) × (big (ends_at few i).0 (ends_at few i).1 < nodes)
  high_name i i_in = let c = (listed i i_in).0 in big_is_high (ends_at few i).0 (ends_at few i).1 c.crosses

  names : AreNames used nodes rename 0
  names = record {
    alike = λ v low. absurd (omega (arith, low));
    below = λ v v_in. elim (name v v_in) [
      | inl low ↦ omega (arith, low)
      | inr new ↦ omega (arith, new.3, high_name new.0 new.1)
    ];
    apart = λ u v u_in v_in same. elim (name u u_in) [
      | inl low ↦ elim (name v v_in) [
        | inl low' ↦ sym low.1 ∙ same ∙ low'.1
        | inr new' ↦ absurd (omega (arith, low, same, new'.3, high_name new'.0 new'.1))
      ]
      | inr new ↦ elim (name v v_in) [
        | inl low' ↦ absurd (omega (arith, low', same, new.3, high_name new.0 new.1))
        | inr new' ↦
            let c = listed new.0 new.1 in
            let c' = listed new'.0 new'.1 in
            elim (node_apart g.nodes edges rising ord all.both_ways (ends_at few new.0).0 (ends_at few new.0).1 (ends_at few new'.0).0 (ends_at few new'.0).1 c.0 c'.0 (sym new.3 ∙ same ∙ new'.3)) [
              | inl straight ↦
                  let i = crossings_apart g.nodes small small_rising less some.both_ways new.0 new'.0 new.1 new'.1 straight.0 straight.1 in
                  omega (arith, new.2, new'.2, i)
              | inr turned ↦ absurd (omega (arith, turned, c.1, c'.1))
            ]
      ]
    ];
  }

  small_way : (e : ℕ) → has small e ≡ true → map (both rename) (segments_of g few less e) ≡ way nodes first last big ord small fewer e
  small_way e e_in =
      both-through rename (first e) (last e) (map (mid e) (less e))
      ∙ ap₂ (λ u v. segments_through u (map rename (map (mid e) (less e))) v) (rename_old (first e) (first_in e (inside e e_in))) (rename_old (last e) (last_in e (inside e e_in)))
      ∙ ap (λ ws. segments_through (first e) ws (last e)) (map-twice rename (mid e) (big e) (less e) (λ x x_in. rename_mid e x x_in) ∙ ap (map (big e)) (sym (fewer_is e e_in)))

  small_ends : EndsIn used (web_of g small less).ends
  small_ends = ends-flat_map used (segments_of g few less) small (λ e e_in.
      ends-through used (first e) (last e) (mid e) (less e)
      (λ x x_in. let facts = node_facts g.nodes small small_rising less some.both_ways e x (small_cross e x x_in) in omega (arith, facts.1, facts.2))
      (omega (arith, first_in e (inside e e_in))) (omega (arith, last_in e (inside e e_in))))

  fewer_flat : HasFlat (web_of g small less).nodes (web_of g small less).ends
  fewer_flat =
      renamed_flat used nodes (web_of g small less).ends rename small_ends names
      (subst (HasFlat nodes) (sym (both-flat_map rename (segments_of g few less) (way nodes first last big ord small fewer) small small_way)) part_flat)

pub fewer_edges_stay_flat : FewerEdgesStayFlat
fewer_edges_stay_flat g edges small ord less next is_graph all some part flat =
    let has = fewer_flat g is_graph edges small ord less all some part next flat in
    (has.next, record { is_map = has.is_map; flat = has.flat })
