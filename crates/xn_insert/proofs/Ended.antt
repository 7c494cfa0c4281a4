-- The last segment of an edge that comes in: what is then a loose drawing of the edges and it.
use Rattle.std.proofs.Common.{◌≡◌, ◌≢◌, ℕ, zero, suc, ◌+◌, ◌*◌, ◌<◌, inl, inr, Bool, true, false, ◌||◌, eqb, List, [], ◌∷◌, ◌++◌, length, refl, sym, ◌∙◌, ap, subst, arith}
use Rattle.std.specs.List.{range_with_len}
use Rattle.std.specs.Prelude.{filter}
use Rattle.std.proofs.lemmas.Bool.{cases_eq, cond-false, cond-true, eq-eqb, ne_eqb, or_right}
use Rattle.xn_model.specs.Graph.{Graph}
use Rattle.xn_model.specs.Lists.{at, has}
use Rattle.xn_model.specs.Loose.{CrossesTo, IsLoose, IsRoute, IsRouteLength}
use Rattle.xn_model.specs.Map.{IsMap, Joined, face_step, reverse_of, tail_of}
use Rattle.xn_model.specs.Permutation.{Reaches, iterate}
use Rattle.xn_model.proofs.ComponentWalks.{joined_dart, joined_trans}
use Rattle.xn_model.proofs.Darts.{reverse_below}
use Rattle.xn_ring.proofs.Orbits.{iterate_below}
use Rattle.xn_genus.proofs.Counts.{Permutes-face}
use Rattle.xn_map.specs.Changes.{Inserts}
use Rattle.xn_map.specs.Listed.{ListedMap}
use Rattle.xn_map.specs.declared.corners.Corner.TheVariants.{After}
use Rattle.xn_track.specs.Steps.{with_walk}
use Rattle.xn_track.specs.Track.{IsTrack}
use Rattle.xn_loose.specs.Inserting.{EachMeetsOnce, IsOneMore}
use Rattle.xn_loose.specs.Routes.{IsWithin}
use Rattle.xn_loose.proofs.Inserted as ins
use Rattle.xn_loose.proofs.IntoLoose.{loose_from_track}
use Rattle.xn_loose.proofs.MeetOnce.{distinct_if_once}
use Rattle.xn_loose.proofs.Within as within
use Rattle.xn_insert.specs.Calls.{IsInserted}
use Rattle.xn_insert.specs.Cuts.{AreCut}
use Rattle.xn_insert.specs.ListedLoose.{IsLooseOf, ListedLoose, edges_in, has_dart, loose_of, walk_of, MeetOnceIn}
use Rattle.xn_insert.proofs.CutWalks.{has_dart-cut}
use Rattle.xn_insert.proofs.Grown.{GrownTo, all, apart, cut, edges, is_graph, list, more_edges, u, v}

-- ---- a route joins its ends

module _ (nodes : ℕ) (ends : List (ℕ × ℕ)) (next : ℕ → ℕ) (map : IsMap nodes ends next) where
  along_face : (k a : ℕ) → a < 2 * length ends → Joined ends (tail_of ends a) (tail_of ends (iterate (face_step next) k a))
  along_face zero a a_in = ([], refl)
  along_face (suc k) a a_in =
      let x = iterate (face_step next) k a in
      let x_in = iterate_below (2 * length ends) (face_step next) (Permutes-face (length ends) next map.permutes) k a a_in in
      let r_in = reverse_below (length ends) x x_in in
      let step = joined_dart ends x x_in in
      joined_trans ends (tail_of ends a) (tail_of ends x) (tail_of ends (next (reverse_of x))) (along_face k a a_in)
      (subst (λ t. Joined ends (tail_of ends x) t) (sym (map.same_node (reverse_of x) r_in)) step)

  reached : (a d : ℕ) → a < 2 * length ends → Reaches (face_step next) a d → Joined ends (tail_of ends a) (tail_of ends d)
  reached a d a_in there = subst (λ x. Joined ends (tail_of ends a) (tail_of ends x)) there.1 (along_face there.0 a a_in)

  crossed_joins : (ds : List ℕ) (a t : ℕ) → a < 2 * length ends → CrossesTo ends next a ds t → Joined ends (tail_of ends a) t
  crossed_joins [] a t a_in c = subst (Joined ends (tail_of ends a)) c.2 (reached a c.0 a_in c.3)
  crossed_joins (d ∷ ds) a t a_in c =
      let r_in = reverse_below (length ends) d c.0 in
      joined_trans ends (tail_of ends a) (tail_of ends d) t (reached a d a_in c.1)
      (joined_trans ends (tail_of ends d) (tail_of ends (reverse_of d)) t (joined_dart ends d c.0) (crossed_joins ds (reverse_of d) t r_in c.2))

  pub route_joins : (s t : ℕ) (ds : List ℕ) → IsRoute ends next s ds t → Joined ends s t
  route_joins s t ds r = subst (λ x. Joined ends x t) r.2 (crossed_joins ds r.0 t r.1 r.3)

one_length : (ends : List (ℕ × ℕ)) (next : ℕ → ℕ) (s t r k : ℕ) → IsRouteLength ends next s t r → IsRouteLength ends next s t k → r ≡ k
one_length ends next s t r k one two =
    let a = one.route in
    let b = two.route in
    let low = one.least b.0 b.1 in
    let high = two.least a.0 a.1 in
    omega (arith, low, high, a.2, b.2)

-- ---- the last segment

module _ (g : Graph) (l : ListedLoose) (is : IsLooseOf g l) (e : ℕ) (e_low : e < length g.ends) (new_edge : has (edges_in l) e ≡ false) where
  test_or : (b : Bool) → (b || false) ≡ b
  test_or true = refl
  test_or false = refl

  has_last : (own : List ℕ) (d : ℕ) → has_dart (own ++ d ∷ []) ≡ true
  has_last [] d = refl
  has_last (x ∷ own) d = refl

  -- the edges that have a walk in the new lists
  pub edges_then : (cuts own : List ℕ) (map : ListedMap) (walks : List (List ℕ)) → has_dart own ≡ true → AreCut cuts e own l.walks walks →
      edges_in (loose_of l.nodes map walks) ≡ all g l is e e_low new_edge
  edges_then cuts own map walks some are =
      let same : (x : ℕ) → has_dart (walk_of walks x) ≡ (has_dart (walk_of l.walks x) || eqb x e) = λ x. elim (cases_eq x e) [
        | inl is_e ↦ ap has_dart (are.each x ∙ cond-true _ _ _ (eq-eqb x e is_e)) ∙ some ∙ sym (or_right (has_dart (walk_of l.walks x)) (eqb x e) (eq-eqb x e is_e))
        | inr other ↦
            ap has_dart (are.each x ∙ cond-false _ _ _ (ne_eqb x e other)) ∙ has_dart-cut cuts (walk_of l.walks x)
            ∙ sym (ap (λ b. has_dart (walk_of l.walks x) || b) (ne_eqb x e other) ∙ test_or (has_dart (walk_of l.walks x)))
      ] in
      let size : length walks ≡ length g.ends = are.size ∙ is.lists in
      let tests : (λ x. has_dart (walk_of walks x)) ≡ (λ x. has_dart (walk_of l.walks x) || eqb x e) = λ i x. same x i in
      ap (λ t. filter t (range_with_len 0 (length walks))) tests ∙ ap (λ k. filter (λ x. has_dart (walk_of l.walks x) || eqb x e) (range_with_len 0 k)) size

  module _ (m : ListedMap) (from to : ℕ) (cuts own : List ℕ) (done : ℕ) (st : GrownTo g l e m from to cuts own [] done) where
    -- the corners are in one face
    pub last_face : Reaches (face_step (at m.next)) (at m.next from) (at m.next to)
    last_face =
        let there = st.state.faces.one st.y st.z st.state.y_in st.z_in st.route.0 (sym st.route.1) in
        subst (λ x. Reaches (face_step (at m.next)) x (at m.next to)) (sym st.to_y) (subst (Reaches (face_step (at m.next)) st.y) (sym st.to_z) there)

    module _ (m' : ListedMap) (inserts : Inserts m (After from) (After to) m') where
      two : tail_of m.web.ends st.y ≢ tail_of m.web.ends st.z
      two = apart g l is e e_low new_edge m from to cuts own [] done st

      abbrev names : ℕ → ℕ
      names = within.names2 m.web.nodes m.web.ends (at m.next) st.name st.whole st.state.is_flat_map.is_map st.state.is_flat_map.flat st.state.faces st.y st.z st.state.y_in st.z_in st.route.0 (sym st.route.1) two
          from to st.from_in st.to_in st.to_y st.to_z m'.web.ends (at m'.next) inserts.1

      W : IsWithin m.web.nodes m.web.ends (at m.next) st.name st.whole st.y st.z m'.web.ends (at m'.next) names
      W = within.is_within m.web.nodes m.web.ends (at m.next) st.name st.whole st.state.is_flat_map.is_map st.state.is_flat_map.flat st.state.faces st.y st.z st.state.y_in st.z_in st.route.0 (sym st.route.1) two
          from to st.from_in st.to_in st.to_y st.to_z m'.web.ends (at m'.next) inserts.1

      abbrev own' : List ℕ
      own' = own ++ (2 * length m.web.ends) ∷ []

      abbrev web' : Graph
      web' = record { nodes = m.web.nodes; ends = m'.web.ends }

      abbrev four' : ℕ → Bool
      four' = ins.four' g (edges g l is e e_low new_edge) (all g l is e e_low new_edge) e (is_graph g l is e e_low new_edge) (list g l is e e_low new_edge) (more_edges g l is e e_low new_edge) e_low
          m.web (at m.next) st.four st.name st.whole st.y st.b st.q (cut g l is e e_low new_edge cuts) own st.state st.z st.z_in st.at_z m'.web.ends (at m'.next) names W

      abbrev walks' : ℕ → List ℕ
      walks' = with_walk (cut g l is e e_low new_edge cuts) e own'

      track : IsTrack g (all g l is e e_low new_edge) web' (at m'.next) four' walks'
      track = ins.ended_track g (edges g l is e e_low new_edge) (all g l is e e_low new_edge) e (is_graph g l is e e_low new_edge) (list g l is e e_low new_edge) (more_edges g l is e e_low new_edge) e_low
          m.web (at m.next) st.four st.name st.whole st.y st.b st.q (cut g l is e e_low new_edge cuts) own st.state st.z st.z_in st.at_z m'.web.ends (at m'.next) names W

      loose' : IsLoose g (all g l is e e_low new_edge) (is.further + done) web' (at m'.next) walks'
      loose' =
          let full = ins.fullness g (edges g l is e e_low new_edge) (all g l is e e_low new_edge) e (is_graph g l is e e_low new_edge) (list g l is e e_low new_edge) (more_edges g l is e e_low new_edge) e_low
          m.web (at m.next) st.four st.name st.whole st.y st.b st.q (cut g l is e e_low new_edge cuts) own st.state st.z st.z_in st.at_z m'.web.ends (at m'.next) names W st.exact in
          let was = is.loose.nodes in
          let grown = st.nodes in
          loose_from_track g (all g l is e e_low new_edge) (is.further + done) web' (at m'.next) four' walks' (is_graph g l is e e_low new_edge) track (omega (arith, was, grown)) full.all_four full.have_darts full.all_walked

      once' : MeetOnceIn l → EachMeetsOnce (all g l is e e_low new_edge) m'.web.ends walks'
      once' once x x_in = distinct_if_once m'.web.ends (walks' x) (λ k.
          ins.single'' g (edges g l is e e_low new_edge) (all g l is e e_low new_edge) e (is_graph g l is e e_low new_edge) (list g l is e e_low new_edge) (more_edges g l is e e_low new_edge) e_low
          m.web (at m.next) st.four st.name st.whole st.y st.b st.q (cut g l is e e_low new_edge cuts) own st.state st.z st.z_in st.at_z m'.web.ends (at m'.next) names W (st.single once) x k x_in)

      pub grown_inserted : IsRouteLength l.map.web.ends (at l.map.next) (u g l is e e_low new_edge) (v g l is e e_low new_edge) done → (walks : List (List ℕ)) → AreCut cuts e own' l.walks walks →
          IsInserted g e l (loose_of l.nodes m' walks)
      grown_inserted least walks are =
          let new = loose_of l.nodes m' walks in
          let es = edges_then cuts own' m' walks (has_last own (2 * length m.web.ends)) are in
          let ws : walks' ≡ walk_of walks = λ i x. sym (are.each x) i in
          let web_is : web' ≡ m'.web = ap (λ k. record { nodes = k; ends = m'.web.ends }) (sym inserts.0) in
          let loose1 = subst (λ web. IsLoose g (all g l is e e_low new_edge) (is.further + done) web (at m'.next) walks') web_is loose' in
          let loose2 = subst (λ f. IsLoose g (all g l is e e_low new_edge) (is.further + done) m'.web (at m'.next) f) ws loose1 in
          let once2 : MeetOnceIn l → EachMeetsOnce (all g l is e e_low new_edge) m'.web.ends (walk_of walks) =
          λ once. subst (λ f. EachMeetsOnce (all g l is e e_low new_edge) m'.web.ends f) ws (once' once) in
          let nodes : m'.web.nodes ≡ l.map.web.nodes + done = inserts.0 ∙ st.nodes in
          record {
            one_more = subst (IsOneMore (length g.ends) (edges_in l) e) (sym es) (more_edges g l is e e_low new_edge);
            loose = record {
              nodes = is.nodes;
              lists = are.size ∙ is.lists;
              further = is.further + done;
              loose = subst (λ xs. IsLoose g xs (is.further + done) m'.web (at m'.next) (walk_of walks)) (sym es) loose2;
            };
            once = λ once. subst (λ xs. EachMeetsOnce xs m'.web.ends (walk_of walks)) (sym es) (once2 once);
            joined = λ r other. let same = one_length l.map.web.ends (at l.map.next) _ _ r done other least in omega (arith, same, nodes);
            apart = λ far. let some = least.route in absurd (far (route_joins l.map.web.nodes l.map.web.ends (at l.map.next) is.loose.is_flat_map.is_map _ _ some.0 some.1));
          }
