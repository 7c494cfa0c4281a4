-- An edge comes into a loose drawing, with as many crossings as its route crosses segments.
use Rattle.std.proofs.Common.{◌≡◌, ◌≢◌, ℕ, ◌+◌, ◌*◌, ◌<◌, ◌≤◌, inl, inr, Bool, true, eqb, List, [], ◌∷◌, length, sym, ◌∙◌, ap, arith}
use Rattle.std.proofs.lemmas.Bool.{cases_Bool, cond-true, eq-eqb, eqb-true}
use Rattle.std.specs.List.{flat_map}
use Rattle.xn_model.specs.Graph.{Graph, IsGraph, ends_at}
use Rattle.xn_model.specs.Lists.{has}
use Rattle.xn_model.specs.Loose.{GoesStraight, IsLoose, dart_count, times_walked}
use Rattle.xn_model.specs.Map.{WalksTo, reverse_of, tail_of}
use Rattle.xn_model.specs.Permutation.{count_below}
use Rattle.xn_ring.proofs.Counting.{count-none, count-same, same_tests}
use Rattle.xn_ring.proofs.Orbits.{first_below}
use Rattle.xn_genus.proofs.Compress.{tail_in}
use Rattle.xn_loose.specs.Inserting.{EdgesComeIntoLooseDrawings}
use Rattle.xn_track.specs.Track.{GoesOn, IsGround, IsTrack, straight_on}
use Rattle.xn_loose.proofs.Growing.{Exact}
use Rattle.xn_loose.proofs.Inserted.{come_in}
use Rattle.xn_loose.proofs.MeetOnce.{distinct_if_once}
use Rattle.xn_loose.proofs.OneMore.{one_more_low}
use Rattle.xn_general.proofs.InWeb.{count_listed}
use Rattle.xn_track.proofs.Loose.{crossing_by_count, loose_drawings_are_tracks}
use Rattle.xn_track.proofs.Relink.{at_node}
use Rattle.xn_general.proofs.Fours.{four_distinct, listed_has, of_four}

-- where a number passes there is one
some_passes : (m : ℕ) (t : ℕ → Bool) → 1 ≤ count_below m t → (d : ℕ) × (d < m) × (t d ≡ true)
some_passes m t some = elim (first_below m t) [
  | inl found ↦ (found.0, found.1, found.2)
  | inr none ↦ let zero_it = count-none m t none in absurd (omega (arith, some, zero_it))
]

goes_straight : (n : ℕ) (ends : List (ℕ × ℕ)) (next : ℕ → ℕ) (four : ℕ → Bool) → ((d : ℕ) → d < 2 * length ends → n ≤ tail_of ends d → four (tail_of ends d) ≡ true) →
    (u v : ℕ) (ds : List ℕ) → WalksTo ends u ds v → GoesOn n ends (straight_on ends four next) ds → GoesStraight n ends next ds
goes_straight n ends next four crosses u v [] walk goes = tt
goes_straight n ends next four crosses u v (d ∷ []) walk goes = tt
goes_straight n ends next four crosses u v (d ∷ d' ∷ ds) walk goes =
    let here : four (tail_of ends (reverse_of d)) ≡ true = ap four (sym walk.2.1) ∙ crosses d' walk.2.0 goes.0 in
    (goes.0, sym (cond-true _ _ _ here) ∙ goes.1, goes_straight n ends next four crosses (tail_of ends (reverse_of d)) v (d' ∷ ds) walk.2 goes.2)

-- a node with a ring of four darts has four
ring_of_four : (n : ℕ) (web : Graph) (next : ℕ → ℕ) (four : ℕ → Bool) → IsGround n web next four → (d : ℕ) → d < 2 * length web.ends → four (tail_of web.ends d) ≡ true →
    dart_count web.ends (tail_of web.ends d) ≡ 4
ring_of_four n web next four ground d d_in holds =
    let map = ground.is_flat_map.is_map in
    let a = next d in
    let b = next (next d) in
    let c = next (next (next d)) in
    let facts = ground.crossing d d_in holds in
    let a_in = map.permutes.below d d_in in
    let b_in = map.permutes.below a a_in in
    let c_in = map.permutes.below b b_in in
    let ad : d ≢ a = λ same. facts.0 (ap next (sym same) ∙ sym same) in
    let bd : d ≢ b = λ same. facts.0 (sym same) in
    let ab : a ≢ b = λ same. ad (map.permutes.apart d a d_in a_in same) in
    let ac : a ≢ c = λ same. bd (map.permutes.apart d b d_in b_in same) in
    let bc : b ≢ c = λ same. ab (map.permutes.apart a b a_in b_in same) in
    let cd : d ≢ c = λ same. ad (sym facts.1 ∙ ap next (sym same)) in
    let listed = d ∷ a ∷ b ∷ c ∷ [] in
    let at_a = map.same_node d d_in in
    let at_b = map.same_node a a_in ∙ at_a in
    let at_c = map.same_node b b_in ∙ at_b in
    let same : dart_count web.ends (tail_of web.ends d) ≡ count_below (2 * length web.ends) (has listed) =
    count-same (2 * length web.ends) (λ k. eqb (tail_of web.ends k) (tail_of web.ends d)) (has listed) (λ k k_in.
    same_tests (eqb (tail_of web.ends k) (tail_of web.ends d)) (has listed k)
    (λ h. elim (at_node n web next four ground d d_in holds k k_in (eqb-true _ _ h)) [
      | inl is ↦ listed_has listed 0 k (omega arith) (sym is)
      | inr (inl is) ↦ listed_has listed 1 k (omega arith) (sym is)
      | inr (inr (inl is)) ↦ listed_has listed 2 k (omega arith) (sym is)
      | inr (inr (inr is)) ↦ listed_has listed 3 k (omega arith) (sym is)
    ])
    (λ h. eq-eqb _ _ (elim (of_four d a b c k h) [
      | inl (inl is) ↦ ap (tail_of web.ends) is
      | inl (inr is) ↦ ap (tail_of web.ends) is ∙ at_a
      | inr (inl is) ↦ ap (tail_of web.ends) is ∙ at_b
      | inr (inr is) ↦ ap (tail_of web.ends) is ∙ at_c
    ]))) in
    same ∙ count_listed (2 * length web.ends) listed (four_distinct d a b c ad bd cd ab ac bc)
    (λ k h. let is = of_four d a b c k h in omega (arith, is, d_in, a_in, b_in, c_in))

-- the further nodes have darts
darts_there : (g : Graph) (edges : List ℕ) (further : ℕ) (web : Graph) (next : ℕ → ℕ) (walks : ℕ → List ℕ) → IsLoose g edges further web next walks →
    (v : ℕ) → g.nodes ≤ v → v < web.nodes → (d : ℕ) × (d < 2 * length web.ends) × (tail_of web.ends d ≡ v)
darts_there g edges further web next walks loose v high v_in =
    let count = loose.four v high v_in in
    let found = some_passes (2 * length web.ends) (λ d. eqb (tail_of web.ends d) v) (omega (arith, count)) in
    (found.0, found.1, eqb-true _ _ found.2)

-- in a loose drawing all further nodes are crossed, and all segments are walked
pub exact_begun : (g : Graph) (edges : List ℕ) (further : ℕ) (web : Graph) (next : ℕ → ℕ) (four : ℕ → Bool) (walks : ℕ → List ℕ) → IsLoose g edges further web next walks →
    IsTrack g edges web next four walks → (y : ℕ) → Exact g.nodes edges web four y walks []
exact_begun g edges further web next four walks loose track y = record {
  all_four = λ v high v_in far. elim (cases_Bool (four v)) [
    | inl holds ↦ holds
    | inr fails ↦
        let d = darts_there g edges further web next walks loose v high v_in in
        let facts = crossing_by_count web.nodes web.ends next loose.is_flat_map.is_map d.0 d.1 (ap (dart_count web.ends) d.2 ∙ loose.four v high v_in) in
        let bend = track.ground.bend d.0 d.1 (let same = d.2 in omega (arith, same, high)) (ap four d.2 ∙ fails) in
        absurd (facts.0 bend.1)
  ];
  have_darts = darts_there g edges further web next walks loose;
  all_walked = λ s s_in. let one = loose.once s s_in in omega (arith, one);
}

-- a track in which all further nodes are crossed and all segments are walked is a loose drawing
pub loose_from_track : (g : Graph) (all : List ℕ) (further : ℕ) (web : Graph) (next : ℕ → ℕ) (four : ℕ → Bool) (walks : ℕ → List ℕ) → IsGraph g → IsTrack g all web next four walks →
    web.nodes ≡ g.nodes + further →
    ((v : ℕ) → g.nodes ≤ v → v < web.nodes → four v ≡ true) → ((v : ℕ) → g.nodes ≤ v → v < web.nodes → (d : ℕ) × (d < 2 * length web.ends) × (tail_of web.ends d ≡ v)) →
    ((t : ℕ) → t < length web.ends → 1 ≤ times_walked t (flat_map walks all)) → IsLoose g all further web next walks
loose_from_track g all further web next four walks is_graph track nodes all_four have_darts all_walked =
    let crosses : (d : ℕ) → d < 2 * length web.ends → g.nodes ≤ tail_of web.ends d → four (tail_of web.ends d) ≡ true = λ d d_in high.
    all_four (tail_of web.ends d) high (tail_in web.nodes web.ends track.ground.is_flat_map.is_map.ends_in d d_in) in
    record {
      is_graph = is_graph;
      edge_list = track.edge_list;
      nodes = nodes;
      is_flat_map = track.ground.is_flat_map;
      lead = track.lead;
      straight = λ x x_in. goes_straight g.nodes web.ends next four crosses (ends_at g.ends x).0 (ends_at g.ends x).1 (walks x) (track.lead x x_in) (track.straight x x_in);
      once = λ s s_in. let some = all_walked s s_in in let few = track.once s in omega (arith, some, few);
      four = λ v high v_in.
          let d = have_darts v high v_in in
          ap (dart_count web.ends) (sym d.2) ∙ ring_of_four g.nodes web next four track.ground d.0 d.1 (ap four d.2 ∙ all_four v high v_in);
    }

pub edges_come_into_loose_drawings : EdgesComeIntoLooseDrawings
edges_come_into_loose_drawings g edges all e further web next walks loose more_edges name faces ds r =
    let y = r.from in
    let e_low = one_more_low (length g.ends) edges all e more_edges in
    let t = loose_drawings_are_tracks g edges further web next walks loose in
    let four = t.0 in
    let track = t.1 in
    let exact = exact_begun g edges further web next four walks loose track y in
    let done = come_in g edges all e web next four walks loose.is_graph track more_edges e_low name faces y r.to ds r.from_in r.to_in r.darts_in r.at_from r.at_to r.over in
    let full = done.full exact in
    let size = done.nodes_are in
    let was = loose.nodes in
    let nodes_it : done.web.nodes ≡ g.nodes + (further + length ds) = omega (arith, size, was) in (
      done.web,
      done.next,
      done.walks,
      loose_from_track g all (further + length ds) done.web done.next done.four done.walks loose.is_graph done.track nodes_it full.all_four full.have_darts full.all_walked,
      λ once x x_in. distinct_if_once done.web.ends (done.walks x) (λ v. done.single once x v x_in),
    )
