-- An edge grows along its route, in a loose drawing.
use Rattle.std.proofs.Common.{◌≡◌, ◌≢◌, ℕ, zero, suc, ◌+◌, ◌*◌, ◌<◌, ◌≤◌, ◌⊎◌, inl, inr, Bool, true, false, ◌||◌, eqb, List, [], ◌∷◌, length, replicate, refl, sym, ◌∙◌, ap, subst, arith}
use Rattle.std.specs.List.{IsDistinct, range_with_len}
use Rattle.std.specs.Prelude.{filter, nat_eq}
use Rattle.std.proofs.lemmas.Bool.{both_ways, cases_Bool, cases_lt, eq-eqb, eqb-true, or_cases, or_left, or_right}
use Rattle.std.proofs.lemmas.List.Kept.{IsStrictlyIncreasing-filter}
use Rattle.std.proofs.lemmas.List.{get_or_default, length-replicate}
use Rattle.xn_model.specs.Graph.{Graph, IsGraph, ends_at}
use Rattle.xn_model.specs.Lists.{at, has}
use Rattle.xn_model.specs.Map.{WalksTo, reverse_of, tail_of}
use Rattle.xn_model.specs.Orders.{IsEdgeList}
use Rattle.xn_model.proofs.Ranges.{edge_list}
use Rattle.xn_genus.proofs.Kept.{EndsIn_at}
use Rattle.xn_fewer.proofs.Has.{has-kept, has-picked}
use Rattle.xn_fewer.proofs.Rising.{distinct-rising, rising-from_increasing}
use Rattle.xn_map.specs.Listed.{IsListedMap, ListedMap}
use Rattle.xn_track.proofs.Loose.{loose_drawings_are_tracks}
use Rattle.xn_track.proofs.Places.{has-at}
use Rattle.xn_loose.specs.Inserting.{IsOneMore}
use Rattle.xn_loose.specs.Routes.{RouteOf}
use Rattle.xn_loose.proofs.Growing.{Exact, State}
use Rattle.xn_loose.proofs.Inserted as ins
use Rattle.xn_loose.proofs.IntoLoose.{exact_begun}
use Rattle.xn_loose.proofs.MeetOnce.{Single}
use Rattle.xn_insert.specs.Cuts.{cut_darts}
use Rattle.xn_insert.specs.ListedLoose.{IsLooseOf, ListedLoose, MeetOnceIn, edges_in, has_dart, walk_of}
use Rattle.xn_insert.specs.Routed.{IsLeastRoute}
use Rattle.xn_insert.proofs.CutWalks.{AreBelow, AreBeyond, none_cut}
use Rattle.xn_insert.proofs.Started.{has-range, below_range}

-- past the last list there is none
past_lists : (xs : List (List ℕ)) (x : ℕ) → length xs ≤ x → walk_of xs x ≡ []
past_lists [] x past = refl
past_lists (l ∷ xs) zero past = absurd (omega (arith, past))
past_lists (l ∷ xs) (suc x) past = past_lists xs x (omega (arith, past))

walk_below : (ends : List (ℕ × ℕ)) (u v : ℕ) (ds : List ℕ) → WalksTo ends u ds v → AreBelow (2 * length ends) ds
walk_below ends u v [] walk = tt
walk_below ends u v (d ∷ ds) walk = (walk.0, walk_below ends (tail_of ends (reverse_of d)) v ds walk.2)

of_dart : (ds : List ℕ) → has_dart ds ≡ false → ds ≡ []
of_dart [] none = refl
of_dart (d ∷ ds) none = absurd (both_ways _ none refl)

-- the edge has come to the corner after from, is to end in the corner after to, and `left` is left of its route
pub record GrownTo (g : Graph) (l : ListedLoose) (e : ℕ) (m : ListedMap) (from to : ℕ) (cuts own left : List ℕ) (done : ℕ) : Type 0 where
  pub four : ℕ → Bool
  pub name : ℕ → ℕ
  pub whole : ℕ → Bool
  pub y : ℕ
  pub z : ℕ
  pub b : ℕ
  pub q : ℕ
  pub state : State g (edges_in l) (ends_at g.ends e).0 m.web (at m.next) four name whole y b q (λ x. cut_darts cuts (walk_of l.walks x)) own
  pub exact : Exact g.nodes (edges_in l) m.web four y (λ x. cut_darts cuts (walk_of l.walks x)) own
  pub single : MeetOnceIn l → Single (edges_in l) m.web name whole y (λ x. cut_darts cuts (walk_of l.walks x)) own
  pub from_in : from < 2 * length m.web.ends
  pub to_in : to < 2 * length m.web.ends
  pub z_in : z < 2 * length m.web.ends
  pub to_y : at m.next from ≡ y
  pub to_z : at m.next to ≡ z
  pub at_z : tail_of m.web.ends z ≡ (ends_at g.ends e).1
  pub route : RouteOf name whole (name y) left z
  pub left_in : AreBelow (2 * length l.map.web.ends) left
  pub cuts_size : length cuts ≡ length l.map.web.ends
  pub cuts_high : (s : ℕ) → (at cuts s ≡ 0) ⊎ (length l.map.web.ends ≤ at cuts s)
  pub cuts_few : (s : ℕ) → at cuts s ≤ length m.web.ends
  pub cut_sides : (s : ℕ) → s < length l.map.web.ends → at cuts s ≢ 0 → (whole (name (2 * s)) ≡ false) ⊎ (whole (name (2 * s + 1)) ≡ false)
  pub own_high : AreBeyond (2 * length l.map.web.ends) own
  pub segments : length m.web.ends ≡ length l.map.web.ends + 2 * done
  pub nodes : m.web.nodes ≡ l.map.web.nodes + done

module _ (g : Graph) (l : ListedLoose) (is : IsLooseOf g l) (e : ℕ) (e_low : e < length g.ends) (new_edge : has (edges_in l) e ≡ false) where
  abbrev pub edges : List ℕ
  edges = edges_in l

  abbrev pub u : ℕ
  u = (ends_at g.ends e).0

  abbrev pub v : ℕ
  v = (ends_at g.ends e).1

  abbrev pub count : ℕ
  count = length l.map.web.ends

  abbrev pub w : ℕ → List ℕ
  w = walk_of l.walks

  pub is_graph : IsGraph g
  is_graph = is.loose.is_graph

  pub list : IsEdgeList (length g.ends) edges
  list = is.loose.edge_list

  pub distinct : IsDistinct nat_eq edges
  distinct = distinct-rising edges (rising-from_increasing edges list.rise)

  e_ends : (u < g.nodes) × (v < g.nodes)
  e_ends = EndsIn_at g.nodes g.ends is_graph.ends_in e e_low

  -- ---- the edges then

  abbrev then_in : ℕ → Bool
  then_in x = has_dart (w x) || eqb x e

  abbrev pub all : List ℕ
  all = filter (λ x. has_dart (walk_of l.walks x) || eqb x e) (range_with_len 0 (length g.ends))

  edge_low : (x : ℕ) → has edges x ≡ true → x < length g.ends
  edge_low x h =
      let p = has-picked (λ y. has_dart (w y)) (range_with_len 0 (length l.walks)) x h in
      let low = below_range 0 (length l.walks) x p.0 in
      let size = is.lists in
      omega (arith, low, size)

  edge_walked : (x : ℕ) → has edges x ≡ true → has_dart (w x) ≡ true
  edge_walked x h = (has-picked (λ y. has_dart (w y)) (range_with_len 0 (length l.walks)) x h).1

  walked_edge : (x : ℕ) → has_dart (w x) ≡ true → has edges x ≡ true
  walked_edge x h = elim (cases_lt x (length l.walks)) [
    | inl low ↦ has-kept (λ y. has_dart (w y)) (range_with_len 0 (length l.walks)) x (has-range 0 (length l.walks) x (omega arith) (omega (arith, low))) h
    | inr past ↦ absurd (both_ways _ (ap has_dart (past_lists l.walks x past)) h)
  ]

  all_to : (x : ℕ) → has all x ≡ true → (x < length g.ends) × (then_in x ≡ true)
  all_to x h =
      let p = has-picked then_in (range_with_len 0 (length g.ends)) x h in
      (let low = below_range 0 (length g.ends) x p.0 in omega (arith, low), p.1)

  all_from : (x : ℕ) → x < length g.ends → then_in x ≡ true → has all x ≡ true
  all_from x low h = has-kept then_in (range_with_len 0 (length g.ends)) x (has-range 0 (length g.ends) x (omega arith) (omega (arith, low))) h

  pub more_edges : IsOneMore (length g.ends) edges e all
  more_edges = record {
    edge_list = record {
      rise = IsStrictlyIncreasing-filter then_in (range_with_len 0 (length g.ends)) (edge_list (length g.ends)).rise;
      below = λ i d i_in. subst (λ k. k < length g.ends) (get_or_default all i 0 d i_in) (all_to (at all i) (has-at all i i_in)).0;
    };
    only = λ x h. elim (or_cases (has_dart (w x)) (eqb x e) (all_to x h).1) [ inl old ↦ inr (walked_edge x old) | inr is_e ↦ inl (eqb-true x e is_e) ];
    new = new_edge;
    there = all_from e e_low (or_right (has_dart (w e)) (eqb e e) (eq-eqb e e refl));
    kept = λ x h. all_from x (edge_low x h) (or_left (has_dart (w x)) (eqb x e) (edge_walked x h));
  }

  -- ---- all walks are over the segments that are there

  pub walks_below : (x : ℕ) → AreBelow (2 * count) (w x)
  walks_below x = elim (cases_Bool (has_dart (w x))) [
    | inl some ↦ walk_below l.map.web.ends (ends_at g.ends x).0 (ends_at g.ends x).1 (w x) (is.loose.lead x (walked_edge x some))
    | inr none ↦ subst (AreBelow (2 * count)) (sym (of_dart (w x) none)) tt
  ]

  -- ---- the state

  abbrev pub cut : List ℕ → ℕ → List ℕ
  cut cuts x = cut_darts cuts (walk_of l.walks x)

  pub apart : (m : ListedMap) (from to : ℕ) (cuts own left : List ℕ) (done : ℕ) (st : GrownTo g l e m from to cuts own left done) → tail_of m.web.ends st.y ≢ tail_of m.web.ends st.z
  apart m from to cuts own left done st same =
      let at_z = st.at_z in
      let low = e_ends in
      elim st.state.cursor [
        | inl start ↦ is_graph.no_loop e e_low (sym start.0 ∙ same ∙ at_z)
        | inr grown ↦ let high = grown.at.high in omega (arith, high, same, at_z, low)
      ]

  same_walks : (cuts : List ℕ) → ((t : ℕ) → at cuts t ≡ 0) → (x : ℕ) → w x ≡ cut cuts x
  same_walks cuts none x = sym (none_cut cuts none (w x))

  pub grown_begun : (from to : ℕ) (ds : List ℕ) → IsListedMap l.map → IsLeastRoute l.map u v from ds to → (cuts : List ℕ) → cuts ≡ replicate count 0 → GrownTo g l e l.map from to cuts [] ds 0
  grown_begun from to ds listed r cuts cuts_are =
      let t = loose_drawings_are_tracks g edges is.further l.map.web (at l.map.next) w is.loose in
      let four = t.0 in
      let track = t.1 in
      let fits = listed.fits in
      let map = is.loose.is_flat_map.is_map in
      let from_in : from < 2 * count = let low = r.from_in in omega (arith, low, fits) in
      let to_in : to < 2 * count = let low = r.to_in in omega (arith, low, fits) in
      let y = at l.map.next from in
      let y_in = map.permutes.below from from_in in
      let at_y : tail_of l.map.web.ends y ≡ u = map.same_node from from_in ∙ r.at_from in
      let none : (t : ℕ) → at cuts t ≡ 0 = λ t. ap (λ c. at c t) cuts_are ∙ zero_at count t in
      let same : w ≡ cut cuts = λ i x. same_walks cuts none x i in
      record {
        four = four;
        name = r.name;
        whole = λ c. true;
        y = y;
        z = at l.map.next to;
        b = y;
        q = y;
        state = subst (λ f. State g edges u l.map.web (at l.map.next) four r.name (λ c. true) y y y f []) same (ins.begun g edges e l.map.web (at l.map.next) four w is_graph track e_low r.name r.faces y y_in at_y);
        exact = subst (λ f. Exact g.nodes edges l.map.web four y f []) same (exact_begun g edges is.further l.map.web (at l.map.next) four w is.loose track y);
        single = λ once. subst (λ f. Single edges l.map.web r.name (λ c. true) y f []) same (ins.single_begun edges l.map.web r.name y w once);
        from_in = from_in;
        to_in = to_in;
        z_in = map.permutes.below to to_in;
        to_y = refl;
        to_z = refl;
        at_z = map.same_node to to_in ∙ r.at_to;
        route = r.over;
        left_in = below_from ds (λ i low. let d_in = r.darts_in i low in omega (arith, d_in, fits));
        cuts_size = ap length cuts_are ∙ length-replicate count 0;
        cuts_high = λ s. inl (none s);
        cuts_few = λ s. let is_none = none s in omega (arith, is_none);
        cut_sides = λ s s_in some. absurd (some (none s));
        own_high = tt;
        segments = omega arith;
        nodes = omega arith;
      }
    where
      zero_at : (n t : ℕ) → at (replicate n 0) t ≡ 0
      zero_at zero t = refl
      zero_at (suc n) zero = refl
      zero_at (suc n) (suc t) = zero_at n t

      below_from : (xs : List ℕ) → ((i : ℕ) → i < length xs → at xs i < 2 * count) → AreBelow (2 * count) xs
      below_from [] each = tt
      below_from (x ∷ xs) each = (each 0 (omega arith), below_from xs (λ i low. each (suc i) (omega (arith, low))))
