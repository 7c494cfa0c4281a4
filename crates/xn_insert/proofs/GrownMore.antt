-- An edge that grows along its route comes over one more segment.
use Rattle.std.proofs.Common.{◌≡◌, ◌≢◌, ℕ, suc, ◌+◌, ◌*◌, ◌/◌, ◌%◌, ◌<◌, ◌≤◌, ◌⊎◌, inl, inr, Bool, true, false, not, ◌&&◌, eqb, List, [], ◌∷◌, ◌++◌, length, set, refl, sym, ◌∙◌, ap, subst, arith}
use Rattle.std.specs.List.{IsDistinct}
use Rattle.std.specs.Prelude.{nat_eq}
use Rattle.std.proofs.lemmas.Bool.{and_parts, both_ways, cases_eq, cond-false, cond-true, eq-eqb, ne_eqb}
use Rattle.std.proofs.lemmas.List.{get_or-set_other, get_or-set_same, length-set}
use Rattle.xn_model.specs.Graph.{Graph, IsGraph, ends_at}
use Rattle.xn_model.specs.Lists.{at, has}
use Rattle.xn_model.specs.Map.{IsMap, MeetsEuler, face_step, reverse_of, tail_of}
use Rattle.xn_model.specs.Permutation.{Reaches}
use Rattle.xn_model.specs.Orders.{IsEdgeList}
use Rattle.xn_model.proofs.Darts.{cases_dart, reverse-even, reverse-odd}
use Rattle.xn_surgery.specs.Corners.{after}
use Rattle.xn_surgery.specs.Insertion.{IsInsertion}
use Rattle.xn_surgery.specs.Subdivision.{IsSubdivision, dart_now}
use Rattle.xn_map.specs.Listed.{ListedMap}
use Rattle.xn_loose.proofs.Land.{also}
use Rattle.xn_loose.specs.Inserting.{IsOneMore}
use Rattle.xn_loose.specs.Routes.{IsAcross, RouteOf, dart_back, dart_on}
use Rattle.xn_loose.proofs.Across as across
use Rattle.xn_loose.proofs.Growing.{Exact, State, ex, exact_stepped, now_cases, stepped}
use Rattle.xn_loose.proofs.Inserted as ins
use Rattle.xn_loose.proofs.MeetOnce.{Single, single_stepped}
use Rattle.xn_insert.specs.Cuts.{StepsOver, cut_darts}
use Rattle.xn_insert.specs.ListedLoose.{IsLooseOf, ListedLoose, edges_in, walk_of, MeetOnceIn}
use Rattle.xn_insert.proofs.CutWalks.{AreBelow, AreBeyond, beyond_more, cut_more, ex_beyond}
use Rattle.xn_insert.proofs.Grown as grown
use Rattle.xn_insert.proofs.Grown.{GrownTo, apart}

module _ (g : Graph) (l : ListedLoose) (is : IsLooseOf g l) (e : ℕ) (e_low : e < length g.ends) (new_edge : has (edges_in l) e ≡ false) where
  abbrev edges : List ℕ
  edges = grown.edges g l is e e_low new_edge

  abbrev all : List ℕ
  all = grown.all g l is e e_low new_edge

  abbrev u : ℕ
  u = (ends_at g.ends e).0

  abbrev count : ℕ
  count = length l.map.web.ends

  abbrev w : ℕ → List ℕ
  w = walk_of l.walks

  abbrev cut : List ℕ → ℕ → List ℕ
  cut cuts x = cut_darts cuts (walk_of l.walks x)

  abbrev is_graph : IsGraph g
  is_graph = grown.is_graph g l is e e_low new_edge

  abbrev list : IsEdgeList (length g.ends) edges
  list = grown.list g l is e e_low new_edge

  abbrev more_edges : IsOneMore (length g.ends) edges e all
  more_edges = grown.more_edges g l is e e_low new_edge

  abbrev distinct : IsDistinct nat_eq edges
  distinct = grown.distinct g l is e e_low new_edge

  low_of : (m k : ℕ) (ds : List ℕ) → m ≤ k → AreBelow m ds → ins.Low g edges all e is_graph list more_edges e_low k ds
  low_of m k [] up below = tt
  low_of m k (d ∷ ds) up below = (let low = below.0 in omega (arith, low, up), low_of m k ds up below.1)

  module _ (m : ListedMap) (from to : ℕ) (cuts own : List ℕ) (d : ℕ) (left : List ℕ) (done : ℕ) (st : GrownTo g l e m from to cuts own (d ∷ left) done) where
    abbrev ends : List (ℕ × ℕ)
    ends = m.web.ends

    abbrev next : ℕ → ℕ
    next = at m.next

    abbrev last : ℕ
    last = length m.web.ends

    abbrev s : ℕ
    s = d / 2

    pub d_low : d < 2 * count
    d_low = st.left_in.0

    pub d_in : d < 2 * length m.web.ends
    d_in = let low = d_low in let size = st.segments in omega (arith, low, size)

    map : IsMap m.web.nodes m.web.ends next
    map = st.state.is_flat_map.is_map

    pub step_flat : MeetsEuler m.web.nodes m.web.ends next
    step_flat = st.state.is_flat_map.flat

    is_whole : st.whole (st.name st.y) ≡ true
    is_whole = st.route.0

    one_name : st.name st.y ≡ st.name d
    one_name = sym st.route.1

    -- the corner and the dart are in one face
    pub step_face : Reaches (face_step next) (next from) d
    step_face =
        let there = st.state.faces.one st.y d st.state.y_in d_in is_whole one_name in
        subst (λ k. Reaches (face_step next) k d) (sym st.to_y) there

    -- the segment isn't cut yet
    uncut : at cuts s ≡ 0
    uncut = elim (cases_eq (at cuts s) 0) [
      | inl none ↦ none
      | inr some ↦
          let far_whole : (st.whole (st.name (reverse_of d)) && not (eqb (st.name (reverse_of d)) (st.name st.y))) ≡ true = route_starts left st.route.2 in
          let parts : (st.whole (st.name (reverse_of d)) ≡ true) × (not (eqb (st.name (reverse_of d)) (st.name st.y)) ≡ true) = and_parts _ _ far_whole in
          let far = parts.0 in
          let near : st.whole (st.name d) ≡ true = ap st.whole (sym one_name) ∙ is_whole in
          let c = cases_dart d in
          let s_is : c.0 ≡ s = omega (arith, c.1) in
          let low = d_low in
          absurd (elim c.1 [
            | inl even ↦
                let first : d ≡ 2 * s = omega (arith, even, s_is) in
                let second : reverse_of d ≡ 2 * s + 1 = ap reverse_of first ∙ reverse-even s in
                elim (st.cut_sides s (omega (arith, low)) some) [
                  | inl a ↦ both_ways _ a (ap (λ k. st.whole (st.name k)) (sym first) ∙ near)
                  | inr b ↦ both_ways _ b (ap (λ k. st.whole (st.name k)) (sym second) ∙ far)
                ]
            | inr odd ↦
                let second : d ≡ 2 * s + 1 = omega (arith, odd, s_is) in
                let first : reverse_of d ≡ 2 * s = ap reverse_of second ∙ reverse-odd s in
                elim (st.cut_sides s (omega (arith, low)) some) [
                  | inl a ↦ both_ways _ a (ap (λ k. st.whole (st.name k)) (sym first) ∙ far)
                  | inr b ↦ both_ways _ b (ap (λ k. st.whole (st.name k)) (sym second) ∙ near)
                ]
          ])
    ]
      where
        route_starts : (ds : List ℕ) → RouteOf st.name (λ k. st.whole k && not (eqb k (st.name st.y))) (st.name (reverse_of d)) ds st.z →
            (st.whole (st.name (reverse_of d)) && not (eqb (st.name (reverse_of d)) (st.name st.y))) ≡ true
        route_starts [] r = r.0
        route_starts (x ∷ ds) r = r.0

    module _ (m' : ListedMap) (over : StepsOver m from d m') where
      abbrev mid : ListedMap
      mid = over.mid

      mid_nodes : mid.web.nodes ≡ suc m.web.nodes
      mid_nodes = let e = over.divides.0 in omega (arith, e)

      new_nodes : m'.web.nodes ≡ suc m.web.nodes
      new_nodes = over.inserts.0 ∙ mid_nodes

      divides : IsSubdivision m.web.nodes ends next s mid.web.ends (at mid.next)
      divides = over.divides.1

      comes : IsInsertion (suc m.web.nodes) mid.web.ends (at mid.next) (after (dart_now s last from)) (after (dart_back last d)) m'.web.ends (at m'.next)
      comes = subst (λ k. IsInsertion k mid.web.ends (at mid.next) (after (dart_now s last from)) (after (dart_back last d)) m'.web.ends (at m'.next)) mid_nodes over.inserts.1

      c_in : dart_now s last from < 2 * length mid.web.ends
      c_in = across.now_in m.web.nodes ends next st.name st.whole map step_flat st.state.faces st.y d st.state.y_in d_in is_whole one_name mid.web.ends (at mid.next) divides from st.from_in

      c_to_y : at mid.next (dart_now s last from) ≡ dart_now s last st.y
      c_to_y = across.now_turn m.web.nodes ends next st.name st.whole map step_flat st.state.faces st.y d st.state.y_in d_in is_whole one_name mid.web.ends (at mid.next) divides from st.from_in
          ∙ ap (dart_now s last) st.to_y

      abbrev names : ℕ → ℕ
      names = across.names2 m.web.nodes ends next st.name st.whole map step_flat st.state.faces st.y d st.state.y_in d_in is_whole one_name mid.web.ends (at mid.next) divides
          (dart_now s last from) c_in c_to_y m'.web.ends (at m'.next) comes

      A : IsAcross m.web.nodes ends next st.name st.whole st.y d m'.web.ends (at m'.next) names
      A = across.across m.web.nodes ends next st.name st.whole map step_flat st.state.faces st.y d st.state.y_in d_in is_whole one_name mid.web.ends (at mid.next) divides
          (dart_now s last from) c_in c_to_y m'.web.ends (at m'.next) comes

      abbrev whole' : ℕ → Bool
      whole' k = st.whole k && not (eqb k (st.name st.y))

      abbrev cuts' : List ℕ
      cuts' = set cuts (d / 2) (length m.web.ends)

      abbrev own' : List ℕ
      own' = own ++ (2 * length m.web.ends + 2) ∷ []

      abbrev four' : ℕ → Bool
      four' = also st.four g.nodes (tail_of m.web.ends st.y)

      web_is : record { nodes = suc m.web.nodes; ends = m'.web.ends } ≡ m'.web
      web_is = ap (λ k. record { nodes = k; ends = m'.web.ends }) (sym new_nodes)

      s_low : s < count
      s_low = let low = d_low in omega (arith, low)

      last_high : count ≤ last
      last_high = let size = st.segments in omega (arith, size)

      cut_is : (x : ℕ) → ex s last (cut cuts x) ≡ cut cuts' x
      cut_is x = sym (cut_more s last count cuts s_low st.cuts_size uncut st.cuts_high last_high (w x))

      walks_are : (λ x. ex (d / 2) (length m.web.ends) (cut cuts x)) ≡ cut cuts'
      walks_are = λ i x. cut_is x i

      own_is : ex (d / 2) (length m.web.ends) own ++ (2 * suc (length m.web.ends)) ∷ [] ≡ own'
      own_is =
          let two : 2 * suc last ≡ 2 * last + 2 = omega arith in
          ap (λ o. o ++ (2 * suc last) ∷ []) (ex_beyond s last own (beyond_down own (let low = s_low in omega (arith, low)) st.own_high)) ∙ ap (λ k. own ++ k ∷ []) two
        where
          beyond_down : (ds : List ℕ) → 2 * suc s ≤ 2 * count → AreBeyond (2 * count) ds → AreBeyond (2 * suc s) ds
          beyond_down [] down all = tt
          beyond_down (x ∷ ds) down all = (let high = all.0 in omega (arith, high, down), beyond_down ds down all.1)

      new_state : State g edges u m'.web (at m'.next) four' names whole' (dart_back last d) (2 * suc last + 1) (dart_on last d) (cut cuts') own'
      new_state =
          let base = stepped g edges u m.web next st.four st.name st.whole st.y st.b st.q (cut cuts) own st.state d d_in m'.web.ends (at m'.next) names A in
          let P : Graph → Type 0 = λ web. State g edges u web (at m'.next) four' names whole' (dart_back last d) (2 * suc last + 1) (dart_on last d) (λ x. ex (d / 2) (length m.web.ends) (cut cuts x))
          (ex (d / 2) (length m.web.ends) own ++ (2 * suc (length m.web.ends)) ∷ []) in
          let Q : (ℕ → List ℕ) → Type 0 = λ f. State g edges u m'.web (at m'.next) four' names whole' (dart_back last d) (2 * suc last + 1) (dart_on last d) f
          (ex (d / 2) (length m.web.ends) own ++ (2 * suc (length m.web.ends)) ∷ []) in
          let R : List ℕ → Type 0 = λ o. State g edges u m'.web (at m'.next) four' names whole' (dart_back last d) (2 * suc last + 1) (dart_on last d) (cut cuts') o in
          subst R own_is (subst Q walks_are (subst P web_is base))

      new_exact : Exact g.nodes edges m'.web four' (dart_back last d) (cut cuts') own'
      new_exact =
          let base = exact_stepped g edges u m.web next st.four st.name st.whole st.y st.b st.q (cut cuts) own st.state d d_in m'.web.ends (at m'.next) names A st.exact in
          let P : Graph → Type 0 = λ web. Exact g.nodes edges web four' (dart_back last d) (λ x. ex (d / 2) (length m.web.ends) (cut cuts x))
          (ex (d / 2) (length m.web.ends) own ++ (2 * suc (length m.web.ends)) ∷ []) in
          let Q : (ℕ → List ℕ) → Type 0 = λ f. Exact g.nodes edges m'.web four' (dart_back last d) f (ex (d / 2) (length m.web.ends) own ++ (2 * suc (length m.web.ends)) ∷ []) in
          let R : List ℕ → Type 0 = λ o. Exact g.nodes edges m'.web four' (dart_back last d) (cut cuts') o in
          subst R own_is (subst Q walks_are (subst P web_is base))

      new_single : MeetOnceIn l → Single edges m'.web names whole' (dart_back last d) (cut cuts') own'
      new_single once =
          let base = single_stepped g edges distinct u m.web next st.four st.name st.whole st.y st.b st.q (cut cuts) own st.state d d_in m'.web.ends (at m'.next) names A is_whole one_name (st.single once) in
          let P : Graph → Type 0 = λ web. Single edges web names whole' (dart_back last d) (λ x. ex (d / 2) (length m.web.ends) (cut cuts x))
          (ex (d / 2) (length m.web.ends) own ++ (2 * suc (length m.web.ends)) ∷ []) in
          let Q : (ℕ → List ℕ) → Type 0 = λ f. Single edges m'.web names whole' (dart_back last d) f (ex (d / 2) (length m.web.ends) own ++ (2 * suc (length m.web.ends)) ∷ []) in
          let R : List ℕ → Type 0 = λ o. Single edges m'.web names whole' (dart_back last d) (cut cuts') o in
          subst R own_is (subst Q walks_are (subst P web_is base))

      gone : (k : ℕ) → k ≡ st.name st.y → whole' k ≡ false
      gone k is_it = rw (eq-eqb k (st.name st.y) is_it) (falls (st.whole k))
        where
          falls : (c : Bool) → (c && false) ≡ false
          falls true = refl
          falls false = refl

      still : (k : ℕ) → st.whole k ≡ false → whole' k ≡ false
      still k fails = rw fails refl

      sides : (t : ℕ) → t < count → at cuts' t ≢ 0 → (whole' (names (2 * t)) ≡ false) ⊎ (whole' (names (2 * t + 1)) ≡ false)
      sides t t_in some =
          let kept : (x : ℕ) → x < 2 * count → names x ≡ st.name x = λ x x_in. A.names_kept x (let high = last_high in omega (arith, x_in, high)) in
          elim (cases_eq t s) [
            | inl same ↦
                let c = cases_dart d in
                elim c.1 [
                  | inl even ↦
                      let is_d : 2 * t ≡ d = omega (arith, even, same) in
                      inl (gone (names (2 * t)) (kept (2 * t) (omega (arith, t_in)) ∙ ap st.name is_d ∙ sym one_name))
                  | inr odd ↦
                      let is_d : 2 * t + 1 ≡ d = omega (arith, odd, same) in
                      inr (gone (names (2 * t + 1)) (kept (2 * t + 1) (omega (arith, t_in)) ∙ ap st.name is_d ∙ sym one_name))
                ]
            | inr other ↦
                let was : at cuts' t ≡ at cuts t = get_or-set_other cuts s t last 0 other in
                elim (st.cut_sides t t_in (λ none. some (was ∙ none))) [
                  | inl a ↦ inl (still (names (2 * t)) (ap st.whole (kept (2 * t) (omega (arith, t_in))) ∙ a))
                  | inr b ↦ inr (still (names (2 * t + 1)) (ap st.whole (kept (2 * t + 1) (omega (arith, t_in))) ∙ b))
                ]
          ]

      size' : length m'.web.ends ≡ suc (suc last)
      size' = A.size

      on_in : dart_on last d < 2 * length m'.web.ends
      on_in = let size = size' in let d_low = d_in in elim (cases_eq (d % 2) 0) [
        | inl even ↦ let is_it : dart_on last d ≡ 2 * last = cond-true _ _ _ (eq-eqb (d % 2) 0 even) in omega (arith, is_it, size)
        | inr odd ↦ let is_it : dart_on last d ≡ 2 * (d / 2) + 1 = cond-false _ _ _ (ne_eqb (d % 2) 0 odd) in omega (arith, is_it, size, d_low)
      ]

      now_low : (x : ℕ) → x < 2 * last → dart_now s last x < 2 * length m'.web.ends
      now_low x x_in = let c = now_cases s last x in let size = size' in omega (arith, c, x_in, size)

      cuts_now : (t : ℕ) → t ≡ s → at cuts' t ≡ last
      cuts_now t same = let size = st.cuts_size in let low = s_low in ap (at cuts') same ∙ get_or-set_same cuts s last 0 (omega (arith, low, size))

      pub grown_more : GrownTo g l e m' (dart_on (length m.web.ends) d) (dart_now (d / 2) (length m.web.ends) to) (set cuts (d / 2) (length m.web.ends)) (own ++ (2 * length m.web.ends + 2) ∷ []) left (done + 1)
      grown_more = record {
        four = four';
        name = names;
        whole = whole';
        y = dart_back last d;
        z = dart_now s last st.z;
        b = 2 * suc last + 1;
        q = dart_on last d;
        state = new_state;
        exact = new_exact;
        single = new_single;
        from_in = on_in;
        to_in = now_low to st.to_in;
        z_in = now_low st.z st.z_in;
        to_y = A.turns_on;
        to_z = A.turns to st.to_in (λ same. apart g l is e e_low new_edge m from to cuts own (d ∷ left) done st (sym (ap (tail_of ends) (sym st.to_z ∙ same)))) ∙ ap (dart_now s last) st.to_z;
        at_z = A.tails st.z st.z_in ∙ st.at_z;
        route =
            let kept = ins.route_kept g edges all e is_graph list more_edges e_low last st.name names whole' (st.name (reverse_of d)) left st.z (dart_now s last st.z)
            (low_of (2 * count) (2 * last) left (let high = last_high in omega (arith, high)) st.left_in.1) A.names_kept (A.names_now st.z st.z_in) st.route.2 in
            subst (λ k. RouteOf names whole' k left (dart_now s last st.z)) (sym A.name_back) kept;
        left_in = st.left_in.1;
        cuts_size = length-set cuts s last ∙ st.cuts_size;
        cuts_high = λ t. elim (cases_eq t s) [
          | inl same ↦ let now = cuts_now t same in let high = last_high in inr (omega (arith, now, high))
          | inr other ↦ elim (st.cuts_high t) [
            | inl none ↦ inl (get_or-set_other cuts s t last 0 other ∙ none)
            | inr far ↦ let was : at cuts' t ≡ at cuts t = get_or-set_other cuts s t last 0 other in inr (omega (arith, was, far))
          ]
        ];
        cuts_few = λ t. let size = size' in elim (cases_eq t s) [
          | inl same ↦ let now = cuts_now t same in omega (arith, now, size)
          | inr other ↦ let was = get_or-set_other cuts s t last 0 other in let few = st.cuts_few t in omega (arith, was, few, size)
        ];
        cut_sides = sides;
        own_high = beyond_more (2 * count) (2 * last + 2) own st.own_high (let high = last_high in omega (arith, high));
        segments = let size = size' in let was = st.segments in omega (arith, size, was);
        nodes = let size = new_nodes in let was = st.nodes in omega (arith, size, was);
      }
