-- Walks that touch come apart.
use Rattle.std.proofs.Common.{◌≡◌, ◌≢◌, ℕ, zero, suc, ◌+◌, ◌*◌, ◌/◌, ◌<◌, ◌≤◌, ◌⊎◌, inl, inr, Bool, true, ◌&&◌, leb, ltb, List, [], ◌∷◌, ◌++◌, length, refl, sym, ◌∙◌, ap, subst, arith}
use Rattle.std.specs.List.{flat_map}
use Rattle.std.proofs.lemmas.Bool.{and_from, and_parts, both_ways, cases_Bool, cases_eq, cond-true, le-leb, leb-true, lt-ltb, ltb-true}
use Rattle.xn_model.specs.Graph.{Graph, IsGraph, ends_at}
use Rattle.xn_model.specs.Lists.{at, has, total}
use Rattle.xn_model.specs.Loose.{times_walked}
use Rattle.xn_model.specs.Map.{WalksTo, reverse_of, tail_of}
use Rattle.xn_model.specs.Orders.{IsEdgeList}
use Rattle.xn_model.specs.Permutation.{count_below}
use Rattle.xn_model.proofs.Darts.{reverse_apart, reverse_below}
use Rattle.xn_genus.proofs.Compress.{half_reverse, tail_in}
use Rattle.xn_genus.proofs.Kept.{EndsIn_at}
use Rattle.xn_surgery.specs.Splitting.{IsSplit}
use Rattle.xn_fewer.proofs.Has.{has-first, has-later}
use Rattle.xn_fewer.proofs.Rising.{distinct-rising, has-all, rising-from_increasing}
use Rattle.xn_track.specs.Relinking.{PassesTo}
use Rattle.xn_track.specs.Tidying.{HasDrawingOf}
use Rattle.xn_general.specs.Touching.{IsMesh, MeshesGiveDrawings}
use Rattle.xn_track.specs.Track.{IsGround, IsTrack, passed, straight_on}
use Rattle.xn_track.proofs.Exchange.{StandsIn, move, stands_all, stands_first, stands_later}
use Rattle.xn_track.proofs.Loose.{crossing_by_count, none_below}
use Rattle.xn_track.proofs.Passes.{walked_apart}
use Rattle.xn_track.proofs.Paths.{Path, from_path, path_ends_in, path_map, path_seam, times-append}
use Rattle.xn_track.proofs.Relink.{a_to_b, after_far, all, at_node, b_to_a, c_to_d, d_to_c, fewer, fewer_count, fewer_far, is_split, new_ground, others, split_ends, split_turns, tail_far}
use Rattle.xn_track.proofs.Seams.{reverse_other}
use Rattle.xn_track.proofs.Simplify.{all_or, tracks_give_drawings}
use Rattle.xn_track.proofs.Tally.{times-flat_map, total-one, total-two}

-- a walk that comes by the reverse of x goes on by y, straight over the node or to a neighbour
pub record Meets (nodes : ℕ) (web : Graph) (next : ℕ → ℕ) (four : ℕ → Bool) (x y : ℕ) : Type 0 where
  pub x_in : x < 2 * length web.ends
  pub y_in : y < 2 * length web.ends
  pub high : nodes ≤ tail_of web.ends x
  pub one_node : tail_of web.ends y ≡ tail_of web.ends x
  pub how : (straight_on web.ends four next x ≡ y) ⊎ ((four (tail_of web.ends x) ≡ true) × ((next x ≡ y) ⊎ (next y ≡ x)))

from_leads : (nodes : ℕ) (web : Graph) (next : ℕ → ℕ) (four : ℕ → Bool) (x y : ℕ) → PassesTo nodes web next four x y → Meets nodes web next four x y
from_leads nodes web next four x y l = record { x_in = l.x_in; y_in = l.y_in; high = l.high; one_node = l.one_node; how = inl l.goes }

-- darts of two positions
pub apart_back : (ds : List ℕ) → ((i j : ℕ) → i < length ds → j < length ds → at ds i / 2 ≡ at ds j / 2 → i ≡ j) → (i j : ℕ) → i < length ds → j < length ds →
    (reverse_of (at ds i) ≡ reverse_of (at ds j) → i ≡ j) × (reverse_of (at ds i) ≢ at ds j)
apart_back ds apart i j i_in j_in = (
  λ same. apart i j i_in j_in (ap (λ x. x / 2) (reverse_apart _ _ same)),
  λ same.
      let one = apart i j i_in j_in (sym (half_reverse (at ds i)) ∙ ap (λ x. x / 2) same) in
      reverse_other (at ds i) (same ∙ ap (at ds) (sym one)),
)

-- ---- one node comes apart

module _ (nodes : ℕ) (web : Graph) (next : ℕ → ℕ) (four : ℕ → Bool) (ground : IsGround nodes web next four) (a : ℕ) (a_in : a < 2 * length web.ends)
    (holds : four (tail_of web.ends a) ≡ true) where
  abbrev web' : Graph
  web' = record { nodes = suc web.nodes; ends = split_ends nodes web next four ground a a_in holds }

  abbrev next' : ℕ → ℕ
  next' = split_turns nodes web next four ground a a_in holds

  split' : IsSplit web.nodes web.ends next a (next (next a)) web'.ends next'
  split' = is_split nodes web next four ground a a_in holds

  abbrev four' : ℕ → Bool
  four' = fewer nodes web next four ground a a_in holds

  abbrev New : ℕ → ℕ → Type 0
  New = Meets nodes web' next' four'

  far_meets : (x y : ℕ) → Meets nodes web next four x y → tail_of web.ends x ≢ tail_of web.ends a → New x y
  far_meets x y m far = elim m.how [
    | inl goes ↦ from_leads nodes web' next' four' x y
        (others nodes web next four ground a a_in holds web'.ends next' split' x y (record { x_in = m.x_in; y_in = m.y_in; high = m.high; one_node = m.one_node; goes = goes }) far)
    | inr touch ↦
        let y_far : tail_of web.ends y ≢ tail_of web.ends a = λ same. far (sym m.one_node ∙ same) in
        let x_tail = tail_far nodes web next four ground a a_in holds web'.ends next' split' x m.x_in far in
        let y_tail = tail_far nodes web next four ground a a_in holds web'.ends next' split' y m.y_in y_far in
        let size = all nodes web next four ground a a_in holds web'.ends next' split' in
        record {
          x_in = let low = m.x_in in omega (arith, low, size);
          y_in = let low = m.y_in in omega (arith, low, size);
          high = let high = m.high in omega (arith, high, x_tail);
          one_node = y_tail ∙ m.one_node ∙ sym x_tail;
          how = inr (
            ap four' x_tail ∙ fewer_far nodes web next four ground a a_in holds _ far ∙ touch.0,
            elim touch.1 [
              | inl on ↦ inl (after_far nodes web next four ground a a_in holds web'.ends next' split' x m.x_in far ∙ on)
              | inr back ↦ inr (after_far nodes web next four ground a a_in holds web'.ends next' split' y m.y_in y_far ∙ back)
            ],
          );
        }
  ]

  -- the walks ds, whose position p passes the node by a and its neighbour
  module _ (ds : List ℕ) (apart : (i j : ℕ) → i < length ds → j < length ds → at ds i / 2 ≡ at ds j / 2 → i ≡ j) (p : ℕ) (p_in : suc p < length ds)
      (here : ((reverse_of (at ds p) ≡ a) × (at ds (suc p) ≡ next a)) ⊎ ((reverse_of (at ds p) ≡ next a) × (at ds (suc p) ≡ a))) where
    new_seam : (q : ℕ) → suc q < length ds → Meets nodes web next four (reverse_of (at ds q)) (at ds (suc q)) → New (reverse_of (at ds q)) (at ds (suc q))
    new_seam q q_in m = elim (cases_eq (tail_of web.ends (reverse_of (at ds q))) (tail_of web.ends a)) [
      | inr far ↦ far_meets (reverse_of (at ds q)) (at ds (suc q)) m far
      | inl near ↦ from_leads nodes web' next' four' _ _ (elim (cases_eq q p) [
        | inl same ↦
            let P : ℕ → Type 0 = λ k. PassesTo nodes web' next' four' (reverse_of (at ds k)) (at ds (suc k)) in
            subst P (sym same) (elim here [
              | inl is ↦ move (PassesTo nodes web' next' four') _ _ _ _ (sym is.0) (sym is.1) (a_to_b nodes web next four ground a a_in holds web'.ends next' split')
              | inr is ↦ move (PassesTo nodes web' next' four') _ _ _ _ (sym is.0) (sym is.1) (b_to_a nodes web next four ground a a_in holds web'.ends next' split')
            ])
        | inr other ↦
            let z = reverse_of (at ds q) in
            let w = at ds (suc q) in
            let p_low : p < length ds = omega (arith, p_in) in
            let q_low : q < length ds = omega (arith, q_in) in
            let zx : z ≢ reverse_of (at ds p) = λ same. other ((apart_back ds apart q p q_low p_low).0 same) in
            let zy : z ≢ at ds (suc p) = (apart_back ds apart q (suc p) q_low p_in).1 in
            let wx : w ≢ reverse_of (at ds p) = λ same. (apart_back ds apart p (suc q) p_low q_in).1 (sym same) in
            let wy : w ≢ at ds (suc p) = λ same. let one = apart (suc q) (suc p) q_in p_in (ap (λ k. k / 2) same) in other (omega (arith, one)) in
            let zw : z ≢ w = (apart_back ds apart q (suc q) q_low q_in).1 in
            let z_a : z ≢ a = elim here [ inl is ↦ λ same. zx (same ∙ sym is.0) | inr is ↦ λ same. zy (same ∙ sym is.1) ] in
            let z_b : z ≢ next a = elim here [ inl is ↦ λ same. zy (same ∙ sym is.1) | inr is ↦ λ same. zx (same ∙ sym is.0) ] in
            let w_a : w ≢ a = elim here [ inl is ↦ λ same. wx (same ∙ sym is.0) | inr is ↦ λ same. wy (same ∙ sym is.1) ] in
            let w_b : w ≢ next a = elim here [ inl is ↦ λ same. wy (same ∙ sym is.1) | inr is ↦ λ same. wx (same ∙ sym is.0) ] in
            elim (at_node nodes web next four ground a a_in holds z m.x_in near) [
              | inl is ↦ absurd (z_a is)
              | inr (inl is) ↦ absurd (z_b is)
              | inr (inr (inl z_c)) ↦ elim (at_node nodes web next four ground a a_in holds w m.y_in (m.one_node ∙ near)) [
                | inl is ↦ absurd (w_a is)
                | inr (inl is) ↦ absurd (w_b is)
                | inr (inr (inl is)) ↦ absurd (zw (z_c ∙ sym is))
                | inr (inr (inr is)) ↦ move (PassesTo nodes web' next' four') _ _ _ _ (sym z_c) (sym is) (c_to_d nodes web next four ground a a_in holds web'.ends next' split')
              ]
              | inr (inr (inr z_d)) ↦ elim (at_node nodes web next four ground a a_in holds w m.y_in (m.one_node ∙ near)) [
                | inl is ↦ absurd (w_a is)
                | inr (inl is) ↦ absurd (w_b is)
                | inr (inr (inl is)) ↦ move (PassesTo nodes web' next' four') _ _ _ _ (sym z_d) (sym is) (d_to_c nodes web next four ground a a_in holds web'.ends next' split')
                | inr (inr (inr is)) ↦ absurd (zw (z_d ∙ sym is))
              ]
            ]
      ])
    ]

    -- a walk that stands there
    pub new_path : (o : ℕ) (es : List ℕ) → StandsIn ds o es → (from to : ℕ) → Path (length web.ends) (Meets nodes web next four) from es to → Path (length web'.ends) New from es to
    new_path o es s from to path =
        path_map (length web.ends) (length web'.ends) (Meets nodes web next four) New from to es (all nodes web next four ground a a_in holds web'.ends next' split') path (λ k k_in m.
        let e_k = s.same k (omega (arith, k_in)) in
        let on : o + suc k ≡ suc (o + k) = omega arith in
        let e_s : at ds (suc (o + k)) ≡ at es (suc k) = ap (at ds) (sym on) ∙ s.same (suc k) k_in in
        let low = s.fits in
        move New _ _ _ _ (ap reverse_of e_k) e_s
        (new_seam (o + k) (omega (arith, k_in, low)) (move (Meets nodes web next four) _ _ _ _ (ap reverse_of (sym e_k)) (sym e_s) m)))

-- ---- all of them do

pub record RoughPath (g : Graph) (web : Graph) (next : ℕ → ℕ) (four : ℕ → Bool) (walks : ℕ → List ℕ) (e : ℕ) : Type 0 where
  pub from : ℕ
  pub to : ℕ
  pub path : Path (length web.ends) (Meets g.nodes web next four) from (walks e) to
  pub at_from : tail_of web.ends from ≡ (ends_at g.ends e).0
  pub at_to : tail_of web.ends to ≡ (ends_at g.ends e).1

pub record IsRough (g : Graph) (edges : List ℕ) (web : Graph) (next : ℕ → ℕ) (four : ℕ → Bool) (walks : ℕ → List ℕ) : Type 0 where
  pub edge_list : IsEdgeList (length g.ends) edges
  pub ground : IsGround g.nodes web next four
  pub paths : (e : ℕ) → has edges e ≡ true → RoughPath g web next four walks e
  pub once : (s : ℕ) → times_walked s (flat_map walks edges) ≤ 1

below_or : (A : ℕ → Type 0) (B : Type 0) (n : ℕ) → ((i : ℕ) → i < n → A i ⊎ B) → ((i : ℕ) → i < n → A i) ⊎ B
below_or A B zero each = inl (λ i low. absurd (omega (arith, low)))
below_or A B (suc n) each = elim (each n (omega arith)) [
  | inr b ↦ inr b
  | inl last ↦ elim (below_or A B n (λ i low. each i (omega (arith, low)))) [
    | inr b ↦ inr b
    | inl all ↦ inl (λ i low. elim (cases_eq i n) [ inl same ↦ subst A (sym same) last | inr other ↦ all i (omega (arith, low, other)) ])
  ]
]

-- what is kept while nodes come apart
abbrev pub IsKept : ℕ → (Graph → (ℕ → ℕ) → (ℕ → Bool) → Type 0) → Type 0
IsKept nodes K =
    (web : Graph) (next : ℕ → ℕ) (four : ℕ → Bool) (ground : IsGround nodes web next four) (a : ℕ) (a_in : a < 2 * length web.ends)
    (holds : four (tail_of web.ends a) ≡ true) → K web next four →
    K (record { nodes = suc web.nodes; ends = split_ends nodes web next four ground a a_in holds })
    (split_turns nodes web next four ground a a_in holds) (fewer nodes web next four ground a a_in holds)

module _ (g : Graph) (edges : List ℕ) (walks : ℕ → List ℕ) (is_graph : IsGraph g) (K : Graph → (ℕ → ℕ) → (ℕ → Bool) → Type 0) (keeps : IsKept g.nodes K) where
  pub record Smoother (count : ℕ) : Type 0 where
    pub web : Graph
    pub next : ℕ → ℕ
    pub four : ℕ → Bool
    pub rough : IsRough g edges web next four walks
    pub kept : K web next four
    pub less : suc (count_below web.nodes four) ≡ count

  -- all that touched have come apart
  pub record Smoothed (count : ℕ) : Type 0 where
    pub web : Graph
    pub next : ℕ → ℕ
    pub four : ℕ → Bool
    pub track : IsTrack g edges web next four walks
    pub kept : K web next four
    pub few : count_below web.nodes four ≤ count

  module _ (web : Graph) (next : ℕ → ℕ) (four : ℕ → Bool) (rough : IsRough g edges web next four walks) (held : K web next four) where
    abbrev Straight : ℕ → Type 0
    Straight e = (i : ℕ) → i < length (walks e) → suc i < length (walks e) → straight_on web.ends four next (reverse_of (at (walks e) i)) ≡ at (walks e) (suc i)

    abbrev smoother : Type 0
    smoother = Smoother (count_below web.nodes four)

    ends_low : (e : ℕ) → has edges e ≡ true → ((ends_at g.ends e).0 < g.nodes) × ((ends_at g.ends e).1 < g.nodes)
    ends_low e e_in = EndsIn_at g.nodes g.ends is_graph.ends_in e (has-all (λ x. x < length g.ends) edges rough.edge_list.below e e_in)

    few : (s : ℕ) → total (λ e. times_walked s (walks e)) edges ≤ 1
    few s = let sum = times-flat_map s walks edges in let once = rough.once s in omega (arith, sum, once)

    beside : (e : ℕ) → has edges e ≡ true → (f : ℕ) → has edges f ≡ true → e ≢ f → (i j : ℕ) → i < length (walks e ++ walks f) → j < length (walks e ++ walks f) →
        at (walks e ++ walks f) i / 2 ≡ at (walks e ++ walks f) j / 2 → i ≡ j
    beside e e_in f f_in differ = walked_apart (walks e ++ walks f) (λ s.
        let sum = times-append s (walks e) (walks f) in
        let two = total-two (λ x. times_walked s (walks x)) edges e f (distinct-rising edges (rising-from_increasing edges rough.edge_list.rise)) e_in f_in differ in
        let all_few = few s in
        omega (arith, sum, two, all_few))

    alone : (e : ℕ) → has edges e ≡ true → (i j : ℕ) → i < length (walks e) → j < length (walks e) → at (walks e) i / 2 ≡ at (walks e) j / 2 → i ≡ j
    alone e e_in = walked_apart (walks e) (λ s.
        let one = total-one (λ x. times_walked s (walks x)) edges e (distinct-rising edges (rising-from_increasing edges rough.edge_list.rise)) e_in in
        let all_few = few s in
        omega (arith, one, all_few))

    -- the pass of e after its dart i touches: its node comes apart
    comes_apart : (e i a : ℕ) → has edges e ≡ true → suc i < length (walks e) → (a_in : a < 2 * length web.ends) → (holds : four (tail_of web.ends a) ≡ true) →
        (((reverse_of (at (walks e) i) ≡ a) × (at (walks e) (suc i) ≡ next a)) ⊎ ((reverse_of (at (walks e) i) ≡ next a) × (at (walks e) (suc i) ≡ a))) → smoother
    comes_apart e i a e_in i_in a_in holds here =
        let E = split_ends g.nodes web next four rough.ground a a_in holds in
        let W : Graph = record { nodes = suc web.nodes; ends = E } in
        let N = split_turns g.nodes web next four rough.ground a a_in holds in
        let F = fewer g.nodes web next four rough.ground a a_in holds in
        let kept : (d u : ℕ) → d < 2 * length web.ends → tail_of web.ends d ≡ u → u < g.nodes → tail_of W.ends d ≡ u = λ d u d_in at_u low.
        tail_far g.nodes web next four rough.ground a a_in holds E N (is_split g.nodes web next four rough.ground a a_in holds) d d_in
        (λ same. let high = (rough.ground.further (tail_of web.ends a) holds).0 in omega (arith, high, same, at_u, low)) ∙ at_u in
        let count = fewer_count g.nodes web next four rough.ground a a_in holds in
        record {
          web = W;
          next = N;
          four = F;
          kept = keeps web next four rough.ground a a_in holds held;
          less = sym count;
          rough = record {
            edge_list = rough.edge_list;
            ground = new_ground g.nodes web next four rough.ground a a_in holds E N (is_split g.nodes web next four rough.ground a a_in holds);
            once = rough.once;
            paths = λ f f_in.
                let p = rough.paths f f_in in
                let p_in = path_ends_in (length web.ends) (Meets g.nodes web next four) p.from p.to (walks f) p.path in
                let low = ends_low f f_in in
                record {
                  from = p.from;
                  to = p.to;
                  at_from = kept p.from (ends_at g.ends f).0 p_in.0 p.at_from low.0;
                  at_to = kept p.to (ends_at g.ends f).1 p_in.1 p.at_to low.1;
                  path = elim (cases_eq e f) [
                    | inl same ↦
                        let q = rough.paths e e_in in
                        let P : ℕ → Type 0 = λ x. (from to : ℕ) → Path (length web.ends) (Meets g.nodes web next four) from (walks x) to → Path (length W.ends) (Meets g.nodes W N F) from (walks x) to in
                        subst P same (λ from to path. new_path g.nodes web next four rough.ground a a_in holds (walks e) (alone e e_in) i i_in here 0 (walks e) (stands_all (walks e)) from to path) p.from p.to p.path
                    | inr differ ↦
                        let first = stands_first (walks e) (walks f) in
                        let e_i = first.same i (omega (arith, i_in)) in
                        let e_s = first.same (suc i) i_in in
                        let z : 0 + i ≡ i = omega arith in
                        let zs : 0 + suc i ≡ suc i = omega arith in
                        let at_i : at (walks e ++ walks f) i ≡ at (walks e) i = ap (at (walks e ++ walks f)) (sym z) ∙ e_i in
                        let at_s : at (walks e ++ walks f) (suc i) ≡ at (walks e) (suc i) = ap (at (walks e ++ walks f)) (sym zs) ∙ e_s in
                        new_path g.nodes web next four rough.ground a a_in holds (walks e ++ walks f) (beside e e_in f f_in differ) i
                        (let fits = first.fits in omega (arith, i_in, fits))
                        (elim here [
                          | inl is ↦ inl (ap reverse_of at_i ∙ is.0, at_s ∙ is.1)
                          | inr is ↦ inr (ap reverse_of at_i ∙ is.0, at_s ∙ is.1)
                        ])
                        (length (walks e) + 0) (walks f) (stands_later (walks e) (walks f) (walks f) 0 (stands_all (walks f))) p.from p.to p.path
                  ];
                };
          };
        }

    straight_or : (e : ℕ) → has edges e ≡ true → Straight e ⊎ smoother
    straight_or e e_in = below_or (λ i. suc i < length (walks e) → straight_on web.ends four next (reverse_of (at (walks e) i)) ≡ at (walks e) (suc i)) smoother (length (walks e)) (λ i low.
        elim (cases_eq (straight_on web.ends four next (reverse_of (at (walks e) i))) (at (walks e) (suc i))) [
          | inl goes ↦ inl (λ i_in. goes)
          | inr touches ↦ elim (cases_eq (suc i) (length (walks e))) [
            | inl last ↦ inl (λ i_in. absurd (omega (arith, last, i_in)))
            | inr on ↦
                let i_in : suc i < length (walks e) = omega (arith, on, low) in
                let p = rough.paths e e_in in
                let m : Meets g.nodes web next four (reverse_of (at (walks e) i)) (at (walks e) (suc i)) = path_seam (length web.ends) (Meets g.nodes web next four) p.from p.to (walks e) p.path i i_in in
                inr (elim m.how [
                  | inl goes ↦ absurd (touches goes)
                  | inr touch ↦ elim touch.1 [
                    | inl next_is ↦ comes_apart e i (reverse_of (at (walks e) i)) e_in i_in m.x_in touch.0 (inl (refl, sym next_is))
                    | inr back ↦ comes_apart e i (at (walks e) (suc i)) e_in i_in m.y_in (ap four m.one_node ∙ touch.0) (inr (sym back, refl))
                  ]
                ])
          ]
        ])

    as_track : ((e : ℕ) → has edges e ≡ true → Straight e) → IsTrack g edges web next four walks
    as_track goes =
        let walk = λ (e : ℕ) (e_in : has edges e ≡ true).
        let p = rough.paths e e_in in
        from_path g.nodes web next four p.from p.to (walks e)
        (path_map (length web.ends) (length web.ends) (Meets g.nodes web next four) (PassesTo g.nodes web next four) p.from p.to (walks e) refl p.path (λ k k_in m.
        record { x_in = m.x_in; y_in = m.y_in; high = m.high; one_node = m.one_node; goes = goes e e_in k (omega (arith, k_in)) k_in })) in
        record {
          edge_list = rough.edge_list;
          ground = rough.ground;
          lead = λ e e_in.
              let p = rough.paths e e_in in
              let P : ℕ → Type 0 = λ u. WalksTo web.ends u (walks e) (ends_at g.ends e).1 in
              let Q : ℕ → Type 0 = λ v. WalksTo web.ends (tail_of web.ends p.from) (walks e) v in
              subst P p.at_from (subst Q p.at_to (walk e e_in).0);
          straight = λ e e_in. (walk e e_in).1;
          once = rough.once;
        }

  pub smooth_within : (count : ℕ) (web : Graph) (next : ℕ → ℕ) (four : ℕ → Bool) → IsRough g edges web next four walks → K web next four →
      count_below web.nodes four ≤ count → Smoothed count
  smooth_within zero web next four rough held low = elim (all_or (λ e. Straight web next four rough held e) (Smoother (count_below web.nodes four)) edges (straight_or web next four rough held)) [
    | inr b ↦ let less = b.less in absurd (omega (arith, less, low))
    | inl goes ↦ record { web = web; next = next; four = four; track = as_track web next four rough held goes; kept = held; few = low }
  ]
  smooth_within (suc count) web next four rough held low = elim (all_or (λ e. Straight web next four rough held e) (Smoother (count_below web.nodes four)) edges (straight_or web next four rough held)) [
    | inr b ↦
        let less = b.less in
        let d = smooth_within count b.web b.next b.four b.rough b.kept (omega (arith, less, low)) in
        record { web = d.web; next = d.next; four = d.four; track = d.track; kept = d.kept; few = let few = d.few in omega (arith, few) }
    | inl goes ↦ record { web = web; next = next; four = four; track = as_track web next four rough held goes; kept = held; few = low }
  ]

-- ---- from the definition

module _ (g : Graph) (edges : List ℕ) (further : ℕ) (web : Graph) (next : ℕ → ℕ) (walks : ℕ → List ℕ) (is_graph : IsGraph g) (mesh : IsMesh g edges further web next walks) where
  abbrev quad : ℕ → Bool
  quad v = leb g.nodes v && ltb v web.nodes

  quad_parts : (v : ℕ) → quad v ≡ true → (g.nodes ≤ v) × (v < web.nodes)
  quad_parts v h =
      let both : (leb g.nodes v ≡ true) × (ltb v web.nodes ≡ true) = and_parts _ _ h in
      (leb-true _ _ both.0, ltb-true _ _ both.1)

  quad_at : (d : ℕ) → d < 2 * length web.ends → g.nodes ≤ tail_of web.ends d → quad (tail_of web.ends d) ≡ true
  quad_at d d_in high = and_from _ _ (le-leb _ _ high) (lt-ltb _ _ (tail_in web.nodes web.ends mesh.is_flat_map.is_map.ends_in d d_in))

  mesh_ground : IsGround g.nodes web next quad
  mesh_ground = record {
    nodes_in = let all = mesh.nodes in omega (arith, all);
    is_flat_map = mesh.is_flat_map;
    further = quad_parts;
    crossing = λ d d_in h.
        let v = quad_parts (tail_of web.ends d) h in
        crossing_by_count web.nodes web.ends next mesh.is_flat_map.is_map d d_in (mesh.four (tail_of web.ends d) v.0 v.1);
    bend = λ d d_in high fails. absurd (both_ways _ fails (quad_at d d_in high));
  }

  abbrev M : ℕ → ℕ → Type 0
  M = Meets g.nodes web next quad

  -- two darts of one further node, which are two
  meets_by : (x y : ℕ) → x < 2 * length web.ends → y < 2 * length web.ends → g.nodes ≤ tail_of web.ends x → tail_of web.ends y ≡ tail_of web.ends x → x ≢ y → M x y
  meets_by x y x_in y_in high one_node differ =
      let holds = quad_at x x_in high in
      let last = (mesh_ground.crossing x x_in holds).1 in
      record {
        x_in = x_in;
        y_in = y_in;
        high = high;
        one_node = one_node;
        how = elim (at_node g.nodes web next quad mesh_ground x x_in holds y y_in one_node) [
          | inl same ↦ absurd (differ (sym same))
          | inr (inl is) ↦ inr (holds, inl (sym is))
          | inr (inr (inl is)) ↦ inl (cond-true _ _ _ holds ∙ sym is)
          | inr (inr (inr is)) ↦ inr (holds, inr (ap next is ∙ last))
        ];
      }

  path_of : (u v : ℕ) (ds : List ℕ) → WalksTo web.ends u ds v → ((w : ℕ) → has (passed web.ends ds) w ≡ true → g.nodes ≤ w) →
      ((i j : ℕ) → i < length ds → j < length ds → at ds i / 2 ≡ at ds j / 2 → i ≡ j) → 0 < length ds →
      (z : ℕ) × Path (length web.ends) M (at ds 0) ds z × (tail_of web.ends (at ds 0) ≡ u) × (tail_of web.ends z ≡ v)
  path_of u v [] walk inner apart some = absurd (omega (arith, some))
  path_of u v (d ∷ []) walk inner apart some = (reverse_of d, (walk.0, refl, refl), walk.1, walk.2)
  path_of u v (d ∷ e ∷ ds) walk inner apart some =
      let rest = path_of (tail_of web.ends (reverse_of d)) v (e ∷ ds) walk.2 (λ w w_in. inner w (has-later (tail_of web.ends e) (passed web.ends (e ∷ ds)) w w_in))
      (λ i j i_in j_in same. let one = apart (suc i) (suc j) (omega (arith, i_in)) (omega (arith, j_in)) same in omega (arith, one)) (omega arith) in
      let high = inner (tail_of web.ends e) (has-first (tail_of web.ends e) (passed web.ends (e ∷ ds))) in
      let differ : reverse_of d ≢ e = (apart_back (d ∷ e ∷ ds) apart 0 1 (omega arith) (omega arith)).1 in
      let seam = meets_by (reverse_of d) e (reverse_below (length web.ends) d walk.0) walk.2.0 (omega (arith, high, rest.2)) rest.2 differ in
      (rest.0, (walk.0, refl, seam, rest.1), walk.1, rest.3)

  mesh_rough : IsRough g edges web next quad walks
  mesh_rough = record {
    edge_list = mesh.edge_list;
    ground = mesh_ground;
    once = mesh.once;
    paths = λ e e_in.
        let apart = walked_apart (walks e) (λ s.
        let one = total-one (λ x. times_walked s (walks x)) edges e (distinct-rising edges (rising-from_increasing edges mesh.edge_list.rise)) e_in in
        let sum = times-flat_map s walks edges in
        let once = mesh.once s in
        omega (arith, one, sum, once)) in
        let p = path_of (ends_at g.ends e).0 (ends_at g.ends e).1 (walks e) (mesh.lead e e_in) (λ w w_in. mesh.inner e w e_in w_in) apart
        (some (walks e) (is_graph.no_loop e (has-all (λ x. x < length g.ends) edges mesh.edge_list.below e e_in)) (mesh.lead e e_in)) in
        record { from = at (walks e) 0; to = p.0; path = p.1; at_from = p.2; at_to = p.3 };
  }
    where
      some : (ds : List ℕ) {u v : ℕ} → u ≢ v → WalksTo web.ends u ds v → 0 < length ds
      some [] differ walk = absurd (differ walk)
      some (d ∷ ds) differ walk = omega arith

  pub mesh_smoothed : (K : Graph → (ℕ → ℕ) → (ℕ → Bool) → Type 0) (keeps : IsKept g.nodes K) → K web next quad → Smoothed g edges walks is_graph K keeps further
  mesh_smoothed K keeps held = smooth_within g edges walks is_graph K keeps further web next quad mesh_rough held
      (let few = none_below g.nodes further quad (λ v low. elim (cases_Bool (quad v)) [ inr fails ↦ fails | inl h ↦ let high = (quad_parts v h).0 in absurd (omega (arith, high, low)) ]) in
      let same : count_below web.nodes quad ≡ count_below (g.nodes + further) quad = ap (λ k. count_below k quad) mesh.nodes in
      omega (arith, few, same))

  pub mesh_drawn : HasDrawingOf g edges further
  mesh_drawn =
      let s = mesh_smoothed (λ w n f. Unit {0}) (λ w n f ground a a_in holds held. tt) tt in
      let d = tracks_give_drawings g edges s.web s.next s.four walks is_graph s.track in
      (d.0, d.1, d.2, let few = d.3 in let low = s.few in omega (arith, few, low))

pub meshes_give_drawings : MeshesGiveDrawings
meshes_give_drawings g edges further web next walks is_graph mesh = mesh_drawn g edges further web next walks is_graph mesh
