-- An edge comes into a track along a route.
use Rattle.std.proofs.Common.{◌≡◌, ◌≢◌, ℕ, suc, ◌+◌, ◌*◌, ◌/◌, ◌<◌, ◌≤◌, ◌⊎◌, inl, inr, Bool, true, false, not, ◌&&◌, eqb, leb, List, [], ◌∷◌, ◌++◌, length, refl, sym, ◌∙◌, ap, subst, arith}
use Rattle.std.specs.List.{IsDistinct, flat_map}
use Rattle.std.specs.Prelude.{All, nat_eq}
use Rattle.std.proofs.lemmas.Bool.{both_ways, cases_Bool, cases_eq, cond-true, cond-false, eq-eqb, leb-true, ne_eqb}
use Rattle.xn_model.specs.Graph.{Graph, IsGraph, ends_at}
use Rattle.xn_model.specs.Lists.{has, one_if, total}
use Rattle.xn_model.specs.Loose.{times_walked}
use Rattle.xn_model.specs.Map.{WalksTo, reverse_of, tail_of}
use Rattle.xn_model.specs.Orders.{IsEdgeList}
use Rattle.xn_model.specs.Permutation.{count_below}
use Rattle.xn_model.proofs.Darts.{reverse-even, reverse_below}
use Rattle.xn_surgery.specs.Subdivision.{dart_now}
use Rattle.xn_genus.proofs.Compress.{tail_in}
use Rattle.xn_genus.proofs.Kept.{EndsIn_at}
use Rattle.xn_fewer.proofs.Has.{has-first, has-later}
use Rattle.xn_fewer.proofs.Rising.{distinct-rising, has-all, rising-from_increasing}
use Rattle.xn_loose.specs.Inserting.{EachMeetsOnce, EdgesComeIn, IsOneMore}
use Rattle.xn_track.specs.Relinking.{PassesTo}
use Rattle.xn_loose.specs.Routes.{AreFaceNames, IsWithin, RouteOf, dart_back, dart_on}
use Rattle.xn_track.specs.Steps.{with_walk}
use Rattle.xn_track.specs.Track.{GoesOn, IsGround, IsTrack, straight_on}
use Rattle.xn_loose.proofs.Across.{steps_across}
use Rattle.xn_loose.proofs.Growing.{Exact, State, also_of_four, cursor_of, exact_stepped, four_new, now_cases, own', path_times, stepped, walks'}
use Rattle.xn_loose.proofs.Land.{At, Fine, Landing, Seam, also, also_count, also_here, also_parts, new_fine, old_fine, old_seam, own_seam}
use Rattle.xn_loose.proofs.MeetOnce.{Single, met-append, met_same, once_if_distinct, one_if-most, single_stepped, times_met}
use Rattle.xn_loose.proofs.OneMore.{one_more_low, one_more_total, within_total}
use Rattle.xn_track.proofs.Paths.{Path, path_append, path_ends_in, path_map, times-append}
use Rattle.xn_track.proofs.Steps.{EdgePath, as_walk, edge_path}
use Rattle.xn_track.proofs.Tally.{but, but_there, same_total, total-out, times-flat_map}
use Rattle.xn_loose.proofs.Within.{steps_within}

-- ---- the last segment

module _ (g : Graph) (edges all : List ℕ) (e : ℕ) (is_graph : IsGraph g) (list : IsEdgeList (length g.ends) edges) (more_edges : IsOneMore (length g.ends) edges e all) (e_low : e < length g.ends) where
  abbrev n : ℕ
  n = g.nodes

  abbrev u : ℕ
  u = (ends_at g.ends e).0

  abbrev v : ℕ
  v = (ends_at g.ends e).1

  e_ends : (u < n) × (v < n)
  e_ends = EndsIn_at n g.ends is_graph.ends_in e e_low

  old_ends : (x : ℕ) → has edges x ≡ true → ((ends_at g.ends x).0 < n) × ((ends_at g.ends x).1 < n)
  old_ends x x_in = EndsIn_at n g.ends is_graph.ends_in x (has-all (λ k. k < length g.ends) edges list.below x x_in)

  not_e : (x : ℕ) → has edges x ≡ true → x ≢ e
  not_e x x_in is = both_ways _ more_edges.new (ap (has edges) (sym is) ∙ x_in)

  pub record Full (web : Graph) (four : ℕ → Bool) (walks : ℕ → List ℕ) : Type 0 where
    pub all_four : (v : ℕ) → n ≤ v → v < web.nodes → four v ≡ true
    pub have_darts : (v : ℕ) → n ≤ v → v < web.nodes → (d : ℕ) × (d < 2 * length web.ends) × (tail_of web.ends d ≡ v)
    pub all_walked : (t : ℕ) → t < length web.ends → 1 ≤ times_walked t (flat_map walks all)

  pub record Done (count m : ℕ) (F S : Type 0) : Type 0 where
    pub web : Graph
    pub next : ℕ → ℕ
    pub four : ℕ → Bool
    pub walks : ℕ → List ℕ
    pub track : IsTrack g all web next four walks
    pub few : count_below web.nodes four ≤ count
    pub nodes_are : web.nodes ≡ m
    pub full : F → Full web four walks
    pub single : S → (x v : ℕ) → has all x ≡ true → times_met web.ends v (walks x) ≤ 1

  module _ (web : Graph) (next : ℕ → ℕ) (four : ℕ → Bool) (name : ℕ → ℕ) (whole : ℕ → Bool) (y b q : ℕ) (walks : ℕ → List ℕ) (own : List ℕ)
      (st : State g edges u web next four name whole y b q walks own) (z : ℕ) (z_in : z < 2 * length web.ends) (at_z : tail_of web.ends z ≡ v) (ends' : List (ℕ × ℕ)) (after names : ℕ → ℕ)
      (W : IsWithin web.nodes web.ends next name whole y z ends' after names) where
    abbrev last : ℕ
    last = length web.ends

    abbrev pub web' : Graph
    web' = record { nodes = web.nodes; ends = ends' }

    abbrev now : ℕ → ℕ
    now x = x

    abbrev a : ℕ
    a = 2 * length web.ends

    abbrev pub four' : ℕ → Bool
    four' = also four g.nodes (tail_of web.ends y)

    size' : length ends' ≡ suc last
    size' = W.size

    land : Landing n web next y web' after now a
    land = record {
      now_in = λ x x_in. omega (arith, x_in, size');
      now_apart = λ x w x_in w_in same. same;
      a_in = omega (arith, size');
      a_new = λ x x_in same. omega (arith, x_in, same);
      tails = W.tails;
      tail_a = W.tail_from;
      turns = λ x x_in high other. W.turns x x_in other (λ is.
          let on = st.is_flat_map.is_map.same_node x x_in in
          let t = ap (tail_of web.ends) is in
          let low = e_ends.1 in
          omega (arith, on, t, at_z, low, high));
      turns_in = W.turns_in;
      turns_from = W.turns_from;
    }

    cursor : (tail_of web.ends y < n) ⊎ At n web next y b q
    cursor = cursor_of g edges u web next four name whole y b q walks own st

    abbrev L : ℕ → ℕ → Type 0
    L = PassesTo g.nodes web' after four'

    further' : (w : ℕ) → four' w ≡ true → (n ≤ w) × (w < web.nodes)
    further' w h = elim (also_parts four n (tail_of web.ends y) w h) [
      | inl old ↦ st.further w old
      | inr now_it ↦ let low = tail_in web.nodes web.ends st.is_flat_map.is_map.ends_in y st.y_in in (omega (arith, now_it), omega (arith, now_it, low))
    ]

    fine_all : (x : ℕ) → x < 2 * length ends' → Fine n web' after four' x
    fine_all x x_in =
        let P : ℕ → Type 0 = λ k. Fine n web' after four' k in
        elim (cases_eq x a) [
          | inl is ↦ subst P (sym is) (new_fine n web next four y b q web' after now a st.is_flat_map.is_map land st.y_in (λ w h. (st.further w h).0) st.here st.fine cursor)
          | inr not_a ↦ elim (cases_eq x (2 * last + 1)) [
            | inr not_b ↦ old_fine n web next four y b q web' after now a st.is_flat_map.is_map land st.y_in (λ w h. (st.further w h).0) st.here st.fine cursor x (omega (arith, x_in, size', not_a, not_b))
            | inl is ↦
                let t : tail_of ends' x ≡ v = ap (tail_of ends') is ∙ W.tail_to ∙ at_z in
                let low = e_ends.1 in
                record {
                  crossing = λ h. let f = further' (tail_of ends' x) h in absurd (omega (arith, f.0, t, low));
                  bend = λ high h. absurd (omega (arith, high, t, low));
                }
          ]
        ]

    ground' : IsGround n web' after four'
    ground' = record {
      nodes_in = st.nodes_in;
      is_flat_map = record { is_map = W.is_map; flat = W.flat };
      further = further';
      crossing = λ x x_in h. (fine_all x x_in).crossing h;
      bend = λ x x_in high h. (fine_all x x_in).bend high h;
    }

    seam' : (x w : ℕ) → Seam n web next four y q x w → L x w
    seam' x w m = old_seam n web next four y b q web' after now a st.is_flat_map.is_map land st.y_in (λ k h. (st.further k h).0) st.here st.fine cursor x w m

    longer : List ℕ → List ℕ
    longer ds = ds

    abbrev pub own'' : List ℕ
    own'' = own ++ (2 * length web.ends) ∷ []

    -- an old walk stays, and is longer by no segment
    old_path : (f t : ℕ) (ds : List ℕ) → Path last (Seam n web next four y q) f ds t → Path (length ends') L f ds t
    old_path f t ds path = widen f t ds path
      where
        widen : (f t : ℕ) (ds : List ℕ) → Path last (Seam n web next four y q) f ds t → Path (length ends') L f ds t
        widen f t [] p = absurd p
        widen f t (d ∷ []) p = (let low = p.0 in omega (arith, low, size'), p.1, p.2)
        widen f t (d ∷ d' ∷ ds) p = (let low = p.0 in omega (arith, low, size'), p.1, seam' (reverse_of d) d' p.2, widen d' t (d' ∷ ds) p.3)

    tip : Path (length ends') L a (a ∷ []) (2 * last + 1)
    tip = (omega (arith, size'), refl, reverse-even last)

    at_tip : tail_of ends' (2 * last + 1) ≡ v
    at_tip = W.tail_to ∙ at_z

    own_path : EdgePath g web' after four' e false own''
    own_path = elim st.cursor [
      | inl start ↦
          let P : List ℕ → Type 0 = λ l. Path (length ends') L a (l ++ a ∷ []) (2 * last + 1) in
          record { from = a; to = 2 * last + 1; path = subst P (sym start.2) tip; at_from = W.tail_from ∙ start.0; at_to = at_tip }
      | inr old ↦
          let seam = own_seam n web next four y b q web' after now a st.is_flat_map.is_map land st.y_in (λ w h. (st.further w h).0) st.here st.fine cursor old.at in
          let ends_in = path_ends_in last (Seam n web next four y q) old.from b own old.path in
          record {
            from = old.from;
            to = 2 * last + 1;
            path = path_append (length ends') L old.from b a (2 * last + 1) own (a ∷ []) (old_path old.from b own old.path) seam tip;
            at_from = W.tails old.from ends_in.0 ∙ old.at_from;
            at_to = at_tip;
          }
    ]

    abbrev pub walks'' : ℕ → List ℕ
    walks'' = with_walk walks e own''

    own_none : last ≤ last → times_walked last own ≡ 0
    own_none past = elim st.cursor [
      | inl start ↦ ap (times_walked last) start.2
      | inr old ↦ path_times last (Seam n web next four y q) old.from b own old.path last past
    ]

    edges_none : times_walked last (flat_map walks edges) ≡ 0
    edges_none = times-flat_map last walks edges ∙ none edges (λ x x_in.
        let r = st.strands x x_in in path_times last (Seam n web next four y q) r.from r.to (walks x) r.path last (omega arith))
      where
        none : (es : List ℕ) → ((x : ℕ) → has es x ≡ true → times_walked (length web.ends) (walks x) ≡ 0) → total (λ x. times_walked (length web.ends) (walks x)) es ≡ 0
        none [] each = refl
        none (x ∷ xs) each =
            let here = each x (has-first x xs) in
            let rest = none xs (λ k k_in. each k (has-later x xs k k_in)) in
            omega (arith, here, rest)

    once'' : (t : ℕ) → times_walked t (flat_map walks'' all) ≤ 1
    once'' t =
        let sum = times-flat_map t walks'' all in
        let old_sum = times-flat_map t walks edges in
        let here : times_walked t (walks'' e) ≡ times_walked t own'' = ap (times_walked t) (cond-true _ _ _ (eq-eqb e e refl)) in
        let own_sum = times-append t own (a ∷ []) in
        let half : a / 2 ≡ last = omega arith in
        let less = one_more_total (λ x. times_walked t (walks'' x)) (λ x. times_walked t (walks x)) all edges e
        (distinct-rising all (rising-from_increasing all more_edges.edge_list.rise)) (distinct-rising edges (rising-from_increasing edges list.rise)) more_edges.only
        (λ x other. ap (times_walked t) (cond-false _ _ _ (ne_eqb x e other))) in
        let was = st.once t in
        elim (cases_eq t last) [
          | inr other ↦
              let none : one_if (eqb (a / 2) t) ≡ 0 = ap one_if (ne_eqb (a / 2) t (λ f. other (sym f ∙ half))) in
              omega (arith, sum, old_sum, here, own_sum, less, was, none)
          | inl is ↦
              let some : one_if (eqb (a / 2) t) ≡ 1 = ap one_if (eq-eqb (a / 2) t (half ∙ sym is)) in
              let x : times_walked t own ≡ 0 = ap (λ k. times_walked k own) is ∙ own_none (omega arith) in
              let w : times_walked t (flat_map walks edges) ≡ 0 = ap (λ k. times_walked k (flat_map walks edges)) is ∙ edges_none in
              omega (arith, sum, old_sum, here, own_sum, less, some, x, w)
        ]

    pub fullness : Exact g.nodes edges web four y walks own → Full web' four' walks''
    fullness x = record {
      all_four = λ w high w_in. elim (cases_eq w (tail_of web.ends y)) [
        | inl same ↦ let y_high : n ≤ tail_of web.ends y = omega (arith, high, same) in ap four' same ∙ also_here four n (tail_of web.ends y) y_high
        | inr other ↦ also_of_four four n (tail_of web.ends y) w (x.all_four w high w_in other)
      ];
      have_darts = λ w high w_in. let d = x.have_darts w high w_in in let d_in = d.1 in (d.0, omega (arith, d_in, size'), W.tails d.0 d.1 ∙ d.2);
      all_walked = λ t t_in.
          let k : ℕ → ℕ = λ i. times_walked t (walks'' i) in
          let sum = times-flat_map t walks'' all in
          let old_sum = times-flat_map t walks edges in
          let here : times_walked t (walks'' e) ≡ times_walked t own'' = ap (times_walked t) (cond-true _ _ _ (eq-eqb e e refl)) in
          let own_sum = times-append t own (a ∷ []) in
          let half : a / 2 ≡ last = omega arith in
          let all_distinct = distinct-rising all (rising-from_increasing all more_edges.edge_list.rise) in
          let edges_distinct = distinct-rising edges (rising-from_increasing edges list.rise) in
          let out = total-out k all e all_distinct more_edges.there in
          let rest = within_total edges (but e k) all edges_distinct all_distinct (λ i i_in. inr (more_edges.kept i i_in)) in
          let same = same_total (but e k) (λ i. times_walked t (walks i)) edges (λ i i_in.
          but_there e k i (not_e i i_in) ∙ ap (times_walked t) (cond-false _ _ _ (ne_eqb i e (not_e i i_in)))) in
          elim (cases_eq t last) [
            | inl is ↦ let some : one_if (eqb (a / 2) t) ≡ 1 = ap one_if (eq-eqb (a / 2) t (half ∙ sym is)) in omega (arith, sum, here, own_sum, out, some)
            | inr other ↦ let was = x.all_walked t (omega (arith, t_in, size', other)) in omega (arith, sum, old_sum, here, own_sum, out, rest, same, was)
          ];
    }

    own_same : (k : ℕ) → times_met ends' k own ≡ times_met web.ends k own
    own_same k = elim st.cursor [
      | inl start ↦ subst (λ l. times_met ends' k l ≡ times_met web.ends k l) (sym start.2) refl
      | inr old ↦ met_same web.ends ends' (Seam n web next four y q) last W.tails old.from b own old.path k
    ]

    pub single'' : Single edges web name whole y walks own → (x k : ℕ) → has all x ≡ true → times_met ends' k (walks'' x) ≤ 1
    single'' once x k x_in = elim (cases_eq x e) [
      | inl is ↦
          let here : times_met ends' k (walks'' x) ≡ times_met ends' k own'' = ap (times_met ends' k) (cond-true _ _ _ (eq-eqb x e is)) in
          let sum = met-append ends' k own (a ∷ []) in
          let same = own_same k in
          let tip_it : one_if (eqb (tail_of ends' a) k) ≡ one_if (eqb (tail_of web.ends y) k) = ap (λ w. one_if (eqb w k)) W.tail_from in
          let was = once.own_once k in
          omega (arith, here, sum, same, tip_it, was)
      | inr other ↦
          let old : has edges x ≡ true = elim (more_edges.only x x_in) [ inl is ↦ absurd (other is) | inr o ↦ o ] in
          let here : times_met ends' k (walks'' x) ≡ times_met ends' k (walks x) = ap (times_met ends' k) (cond-false _ _ _ (ne_eqb x e other)) in
          let r = st.strands x old in
          let same = met_same web.ends ends' (Seam n web next four y q) last W.tails r.from r.to (walks x) r.path k in
          let was = once.each x k old in
          omega (arith, here, same, was)
    ]

    pub ended_track : IsTrack g all web' after four' walks''
    ended_track =
        let P : ℕ → List ℕ → Type 0 = λ x ds. WalksTo ends' (ends_at g.ends x).0 ds (ends_at g.ends x).1 × GoesOn g.nodes ends' (straight_on ends' four' after) ds in
        let walk : (x : ℕ) → has all x ≡ true → P x (walks'' x) = λ x x_in. elim (cases_eq x e) [
          | inl is ↦ subst (λ ds. P x ds) (sym (cond-true _ _ _ (eq-eqb x e is))) (subst (λ k. P k own'') (sym is) (as_walk g web' after four' ground' e false own'' own_path))
          | inr other ↦
              let old : has edges x ≡ true = elim (more_edges.only x x_in) [ inl is ↦ absurd (other is) | inr o ↦ o ] in
              let r = st.strands x old in
              let ends_in = path_ends_in last (Seam n web next four y q) r.from r.to (walks x) r.path in
              let path : EdgePath g web' after four' x false (walks x) = record {
                from = r.from;
                to = r.to;
                path = old_path r.from r.to (walks x) r.path;
                at_from = W.tails r.from ends_in.0 ∙ r.at_from;
                at_to = W.tails r.to ends_in.1 ∙ r.at_to;
              } in
              subst (λ ds. P x ds) (sym (cond-false _ _ _ (ne_eqb x e other))) (as_walk g web' after four' ground' x false (walks x) path)
        ] in
        record {
          edge_list = more_edges.edge_list;
          ground = ground';
          lead = λ x x_in. (walk x x_in).0;
          straight = λ x x_in. (walk x x_in).1;
          once = once'';
        }

    pub ended : Done (count_below web.nodes four + one_if (leb g.nodes (tail_of web.ends y))) web.nodes (Exact g.nodes edges web four y walks own) (Single edges web name whole y walks own)
    ended = record {
      web = web';
      next = after;
      four = four';
      walks = walks'';
      few = also_count four n (tail_of web.ends y) web.nodes;
      nodes_are = refl;
      full = fullness;
      single = single'';
      track = ended_track;
    }

  -- ---- along the route

  abbrev pub Low : ℕ → List ℕ → Type 0
  Low m [] = Unit {0}
  Low m (d ∷ ds) = (d < m) × Low m ds

  pub low_more : (m k : ℕ) (ds : List ℕ) → m ≤ k → Low m ds → Low k ds
  low_more m k [] up low = tt
  low_more m k (d ∷ ds) up low = (let here = low.0 in omega (arith, here, up), low_more m k ds up low.1)

  pub route_kept : (m : ℕ) (name names : ℕ → ℕ) (whole : ℕ → Bool) (c : ℕ) (ds : List ℕ) (z z' : ℕ) → Low (2 * m) ds → ((x : ℕ) → x < 2 * m → names x ≡ name x) → names z' ≡ name z →
      RouteOf name whole c ds z → RouteOf names whole c ds z'
  route_kept m name names whole c [] z z' low same at_z route = (route.0, at_z ∙ route.1)
  route_kept m name names whole c (d ∷ ds) z z' low same at_z route =
      let rest = route_kept m name names (λ k. whole k && not (eqb k c)) (name (reverse_of d)) ds z z' low.1 same at_z route.2 in
      let P : ℕ → Type 0 = λ k. RouteOf names (λ w. whole w && not (eqb w c)) k ds z' in
      (route.0, same d low.0 ∙ route.1, subst P (sym (same (reverse_of d) (reverse_below m d low.0))) rest)

  pub along : (ds : List ℕ) (web : Graph) (next : ℕ → ℕ) (four : ℕ → Bool) (name : ℕ → ℕ) (whole : ℕ → Bool) (y b q : ℕ) (walks : ℕ → List ℕ) (own : List ℕ) →
      State g edges u web next four name whole y b q walks own → (z : ℕ) → z < 2 * length web.ends → tail_of web.ends z ≡ v → Low (2 * length web.ends) ds → RouteOf name whole (name y) ds z →
      (count m : ℕ) → count_below web.nodes four + one_if (leb g.nodes (tail_of web.ends y)) + length ds ≤ count → web.nodes + length ds ≡ m →
      (F S : Type 0) → (F → Exact g.nodes edges web four y walks own) → (S → Single edges web name whole y walks own) → Done count m F S
  along [] web next four name whole y b q walks own st z z_in at_z low route count m room nodes_are F S exact single =
      let two : tail_of web.ends y ≢ tail_of web.ends z = λ same. elim st.cursor [
        | inl start ↦ is_graph.no_loop e e_low (sym start.0 ∙ same ∙ at_z)
        | inr grown ↦ let high = grown.at.high in let v_low = e_ends.1 in omega (arith, high, same, at_z, v_low)
      ] in
      let step = steps_within web.nodes web.ends next name whole st.is_flat_map.is_map st.is_flat_map.flat st.faces y z st.y_in z_in route.0 (sym route.1) two in
      let done = ended web next four name whole y b q walks own st z z_in at_z step.0 step.1 step.2 step.3 in
      record { web = done.web; next = done.next; four = done.four; walks = done.walks; track = done.track; few = let few = done.few in omega (arith, few, room); nodes_are = let eq = done.nodes_are in omega (arith, eq, nodes_are); full = λ f. done.full (exact f); single = λ s. done.single (single s) }
  along (d ∷ ds) web next four name whole y b q walks own st z z_in at_z low route count m room nodes_are F S exact single =
      let step = steps_across web.nodes web.ends next name whole st.is_flat_map.is_map st.is_flat_map.flat st.faces y d st.y_in low.0 route.0 (sym route.1) in
      let A = step.3 in
      let last = length web.ends in
      let web' : Graph = record { nodes = suc web.nodes; ends = step.0 } in
      let four' = also four g.nodes (tail_of web.ends y) in
      let now = dart_now (d / 2) last in
      let st' = stepped g edges u web next four name whole y b q walks own st d low.0 step.0 step.1 step.2 A in
      let size = A.size in
      let z_now = now_cases (d / 2) last z in
      let rest_low = low_more (2 * last) (2 * length step.0) ds (omega (arith, size)) low.1 in
      let kept = route_kept last name step.2 (λ k. whole k && not (eqb k (name y))) (name (reverse_of d)) ds z (now z) low.1 A.names_kept (A.names_now z z_in) route.2 in
      let P : ℕ → Type 0 = λ k. RouteOf step.2 (λ w. whole w && not (eqb w (name y))) k ds (now z) in
      let few = also_count four g.nodes (tail_of web.ends y) web.nodes in
      let none : one_if (four' web.nodes) ≡ 0 = ap one_if (four_new g edges u web next four name whole y b q walks own st d low.0 step.0 step.1 step.2 A) in
      let bit = at_most (leb g.nodes (tail_of step.0 (dart_back last d))) in
      along ds web' step.1 four' step.2 (λ k. whole k && not (eqb k (name y))) (dart_back last d) (2 * suc last + 1) (dart_on last d)
      (walks' g edges u web next four name whole y b q walks own st d low.0 step.0 step.1 step.2 A) (own' g edges u web next four name whole y b q walks own st d low.0 step.0 step.1 step.2 A)
      st' (now z) (omega (arith, z_now, z_in, size)) (A.tails z z_in ∙ at_z) rest_low (subst P (sym A.name_back) kept) count m (omega (arith, few, none, bit, room)) (omega (arith, nodes_are)) F S
      (λ f. exact_stepped g edges u web next four name whole y b q walks own st d low.0 step.0 step.1 step.2 A (exact f))
      (λ s. single_stepped g edges distinct u web next four name whole y b q walks own st d low.0 step.0 step.1 step.2 A route.0 (sym route.1) (single s))
    where
      distinct : IsDistinct nat_eq edges
      distinct = distinct-rising edges (rising-from_increasing edges list.rise)

      at_most : (c : Bool) → one_if c ≤ 1
      at_most true = omega arith
      at_most false = omega arith

-- before the first step the walk that comes in stands at its first end
pub begun : (g : Graph) (edges : List ℕ) (e : ℕ) (web : Graph) (next : ℕ → ℕ) (four : ℕ → Bool) (walks : ℕ → List ℕ) (is_graph : IsGraph g) (track : IsTrack g edges web next four walks)
    (e_low : e < length g.ends) → (name : ℕ → ℕ) → AreFaceNames web.ends next name (λ c. true) → (y : ℕ) → y < 2 * length web.ends → tail_of web.ends y ≡ (ends_at g.ends e).0 →
    State g edges (ends_at g.ends e).0 web next four name (λ c. true) y y y walks []
begun g edges e web next four walks is_graph track e_low name faces y y_in at_y =
    let ends_e = EndsIn_at g.nodes g.ends is_graph.ends_in e e_low in
    let u_low : tail_of web.ends y < g.nodes = omega (arith, at_y, ends_e) in
    let not_four : four (tail_of web.ends y) ≡ false = elim (cases_Bool (four (tail_of web.ends y))) [ inr fails ↦ fails | inl h ↦ let f = track.ground.further (tail_of web.ends y) h in absurd (omega (arith, f.0, u_low)) ] in
    record {
      is_flat_map = track.ground.is_flat_map;
      nodes_in = track.ground.nodes_in;
      further = track.ground.further;
      here = not_four;
      fine = λ x x_in far. record { crossing = λ h. track.ground.crossing x x_in h; bend = λ high h. track.ground.bend x x_in high h };
      faces = faces;
      y_in = y_in;
      cursor = inl (at_y, ends_e.0, refl);
      strands = λ x x_in.
          let r = edge_path g edges web next four walks is_graph track x x_in false in
          record {
            from = r.from;
            to = r.to;
            path = path_map (length web.ends) (length web.ends) (PassesTo g.nodes web next four) (Seam g.nodes web next four y y) r.from r.to (walks x) refl r.path (λ i i_in l. record {
              x_in = l.x_in;
              z_in = l.y_in;
              high = l.high;
              one_node = l.one_node;
              how = inl (λ same. let high = l.high in omega (arith, high, same, u_low), l.goes);
            });
            at_from = r.at_from;
            at_to = r.at_to;
          };
      once = λ t. let once = track.once t in omega (arith, once);
    }

-- where no walk meets a node twice, none does with the one that stands there
pub single_begun : (edges : List ℕ) (web : Graph) (name : ℕ → ℕ) (y : ℕ) (walks : ℕ → List ℕ) → EachMeetsOnce edges web.ends walks → Single edges web name (λ c. true) y walks []
single_begun edges web name y walks once = record {
  each = λ x k x_in. once_if_distinct web.ends (walks x) (once x x_in) k;
  own_once = λ k. let most = one_if-most (eqb (tail_of web.ends y) k) in omega (arith, most);
  closed = λ x x_in some. absurd (omega (arith, some));
}

pub come_in : (g : Graph) (edges all : List ℕ) (e : ℕ) (web : Graph) (next : ℕ → ℕ) (four : ℕ → Bool) (walks : ℕ → List ℕ) (is_graph : IsGraph g) (track : IsTrack g edges web next four walks)
    (more_edges : IsOneMore (length g.ends) edges e all) (e_low : e < length g.ends) → (name : ℕ → ℕ) → AreFaceNames web.ends next name (λ c. true) →
    (y z : ℕ) (ds : List ℕ) → y < 2 * length web.ends → z < 2 * length web.ends → All (λ d. d < 2 * length web.ends) ds →
    tail_of web.ends y ≡ (ends_at g.ends e).0 → tail_of web.ends z ≡ (ends_at g.ends e).1 → RouteOf name (λ c. true) (name y) ds z →
    Done g edges all e is_graph track.edge_list more_edges e_low (count_below web.nodes four + length ds) (web.nodes + length ds) (Exact g.nodes edges web four y walks []) (EachMeetsOnce edges web.ends walks)
come_in g edges all e web next four walks is_graph track more_edges e_low name faces y z ds y_in z_in ds_in at_y at_z route =
    let ends_e = EndsIn_at g.nodes g.ends is_graph.ends_in e e_low in
    let u_low : tail_of web.ends y < g.nodes = omega (arith, at_y, ends_e) in
    let not_high : leb g.nodes (tail_of web.ends y) ≡ false = elim (cases_Bool (leb g.nodes (tail_of web.ends y))) [ inr fails ↦ fails | inl h ↦ let high = leb-true _ _ h in absurd (omega (arith, high, u_low)) ] in
    let none : one_if (leb g.nodes (tail_of web.ends y)) ≡ 0 = ap one_if not_high in
    let st = begun g edges e web next four walks is_graph track e_low name faces y y_in at_y in
    let done = along g edges all e is_graph track.edge_list more_edges e_low ds web next four name (λ c. true) y y y walks [] st z z_in at_z (all_low (2 * length web.ends) ds ds_in) route
    (count_below web.nodes four + length ds) (web.nodes + length ds) (omega (arith, none)) refl (Exact g.nodes edges web four y walks []) (EachMeetsOnce edges web.ends walks) (λ x. x)
    (single_begun edges web name y walks) in
    done
  where
    all_low : (m : ℕ) (ds : List ℕ) → All (λ d. d < m) ds → Low g edges all e is_graph track.edge_list more_edges e_low m ds
    all_low m [] all_in = tt
    all_low m (d ∷ ds) all_in = (all_in 0 d (omega arith), all_low m ds (λ i k i_in. all_in (suc i) k (omega (arith, i_in))))

pub edges_come_in : EdgesComeIn
edges_come_in g edges all e web next four walks is_graph track more_edges name faces ds r =
    let e_low = one_more_low (length g.ends) edges all e more_edges in
    let done = come_in g edges all e web next four walks is_graph track more_edges e_low name faces r.from r.to ds r.from_in r.to_in r.darts_in r.at_from r.at_to r.over in
    (done.web, done.next, done.four, done.walks, done.track, done.few)
