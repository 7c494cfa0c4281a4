-- The segments that are walked, in the order of the walks, are a track whose nodes with four darts are those that are passed twice.
use Rattle.std.proofs.Common.{◌≡◌, ◌≢◌, ℕ, zero, suc, ◌+◌, ◌*◌, ◌<◌, ◌≤◌, inl, inr, Bool, true, false, eqb, List, [], ◌∷◌, length, refl, sym, ◌∙◌, ap, arith}
use Rattle.std.specs.List.{IsDistinct, flat_map}
use Rattle.std.specs.Prelude.{nat_eq}
use Rattle.std.proofs.lemmas.Bool.{both_ways, cases_Bool, cases_eq, cases_lt, cases_order, cond-true, cond-false, eq-eqb, lt-ltb, ltb-true, ne_eqb}
use Rattle.xn_model.specs.Graph.{Graph, IsGraph, ends_at}
use Rattle.xn_model.specs.Lists.{at, has, one_if, total}
use Rattle.xn_model.specs.Loose.{times_walked}
use Rattle.xn_model.specs.Map.{WalksTo, tail_of}
use Rattle.xn_model.specs.Orders.{IsEdgeList}
use Rattle.xn_genus.proofs.Compress.{tail_in}
use Rattle.xn_fewer.proofs.Rising.{distinct-rising, rising-from_increasing}
use Rattle.xn_track.specs.Track.{GoesOn, IsGround, IsTrack, passed, straight_on}
use Rattle.xn_track.proofs.Blocks.{at_place, blocks_apart, found_at, place, place-same, place_in, size_of}
use Rattle.xn_track.proofs.Loose.{loose_drawings_are_tracks}
use Rattle.xn_track.proofs.Passes.{Gap, begin, dart_gap, gap_high, gap_in, one_gap, part, part_flat, part_map, part_size, part_tails, size_is, track_first, track_last, turn, two_gaps}
use Rattle.xn_track.proofs.Simplify.{tracks_give_drawings}
use Rattle.xn_track.proofs.Tally.{times-flat_map}
use Rattle.xn_loose.specs.Parts.{PartsGiveDrawings, WalksGiveDrawings, all_passed, passed_twice}
use Rattle.xn_general.specs.Webs.{darts_from}
use Rattle.xn_general.proofs.InWeb.{at_most_once, darts-length, darts_at, goes_from, walks_from}
use Rattle.xn_loose.proofs.OneMore.{within_total}

-- ---- how often a number stands in a list

abbrev pub count_of : ℕ → List ℕ → ℕ
count_of v xs = total (λ w. one_if (eqb w v)) xs

stands_once : (v : ℕ) (xs : List ℕ) → 1 ≤ count_of v xs → (i : ℕ) × (i < length xs) × (at xs i ≡ v)
stands_once v [] some = absurd (omega (arith, some))
stands_once v (x ∷ xs) some = elim (cases_eq x v) [
  | inl here ↦ (0, omega arith, here)
  | inr other ↦
      let none : one_if (eqb x v) ≡ 0 = ap one_if (ne_eqb x v other) in
      let rest = stands_once v xs (omega (arith, some, none)) in
      (suc rest.0, omega (arith, rest.1), rest.2)
]

stands_twice : (v : ℕ) (xs : List ℕ) → 2 ≤ count_of v xs → (i : ℕ) × (j : ℕ) × (i < j) × (j < length xs) × (at xs i ≡ v) × (at xs j ≡ v)
stands_twice v [] two = absurd (omega (arith, two))
stands_twice v (x ∷ xs) two = elim (cases_eq x v) [
  | inl here ↦
      let one : one_if (eqb x v) ≡ 1 = ap one_if (eq-eqb x v here) in
      let rest = stands_once v xs (omega (arith, two, one)) in
      (0, suc rest.0, omega arith, omega (arith, rest.1), here, rest.2)
  | inr other ↦
      let none : one_if (eqb x v) ≡ 0 = ap one_if (ne_eqb x v other) in
      let rest = stands_twice v xs (omega (arith, two, none)) in
      (suc rest.0, suc rest.1, omega (arith, rest.2), omega (arith, rest.3), rest.4, rest.5)
]

stands_thrice : (v : ℕ) (xs : List ℕ) → 3 ≤ count_of v xs → (i : ℕ) × (j : ℕ) × (k : ℕ) × (i < j) × (j < k) × (k < length xs) × (at xs i ≡ v) × (at xs j ≡ v) × (at xs k ≡ v)
stands_thrice v [] three = absurd (omega (arith, three))
stands_thrice v (x ∷ xs) three = elim (cases_eq x v) [
  | inl here ↦
      let one : one_if (eqb x v) ≡ 1 = ap one_if (eq-eqb x v here) in
      let rest = stands_twice v xs (omega (arith, three, one)) in
      (0, suc rest.0, suc rest.1, omega arith, omega (arith, rest.2), omega (arith, rest.3), here, rest.4, rest.5)
  | inr other ↦
      let none : one_if (eqb x v) ≡ 0 = ap one_if (ne_eqb x v other) in
      let rest = stands_thrice v xs (omega (arith, three, none)) in
      (suc rest.0, suc rest.1, suc rest.2, omega (arith, rest.3), omega (arith, rest.4), omega (arith, rest.5), rest.6, rest.7, rest.8)
]

count_one : (v : ℕ) (xs : List ℕ) (j : ℕ) → j < length xs → at xs j ≡ v → 1 ≤ count_of v xs
count_one v [] j j_in same = absurd (omega arith)
count_one v (x ∷ xs) zero j_in same = let one : one_if (eqb x v) ≡ 1 = ap one_if (eq-eqb x v same) in omega (arith, one)
count_one v (x ∷ xs) (suc j) j_in same = let rest = count_one v xs j (omega arith) same in omega (arith, rest)

count_two : (v : ℕ) (xs : List ℕ) (i j : ℕ) → i < j → j < length xs → at xs i ≡ v → at xs j ≡ v → 2 ≤ count_of v xs
count_two v [] i j low j_in one two = absurd (omega arith)
count_two v (x ∷ xs) i zero low j_in one two = absurd (omega arith)
count_two v (x ∷ xs) zero (suc j) low j_in one two =
    let here : one_if (eqb x v) ≡ 1 = ap one_if (eq-eqb x v one) in
    let rest = count_one v xs j (omega arith) two in
    omega (arith, here, rest)
count_two v (x ∷ xs) (suc i) (suc j) low j_in one two = let rest = count_two v xs i j (omega arith) (omega arith) one two in omega (arith, rest)

module _ (g : Graph) (edges : List ℕ) (web : Graph) (next : ℕ → ℕ) (four : ℕ → Bool) (walks : ℕ → List ℕ) (is_graph : IsGraph g)
    (track : IsTrack g edges web next four walks) where
  abbrev segs : List (ℕ × ℕ)
  segs = part g edges web next four walks is_graph track

  abbrev turns : ℕ → ℕ
  turns = turn g edges web next four walks is_graph track

  abbrev start : ℕ → ℕ
  start = begin g edges web next four walks is_graph track

  abbrev inner : ℕ → List ℕ
  inner e = passed web.ends (walks e)

  abbrev G : ℕ → ℕ → Type 0
  G = Gap g edges web next four walks is_graph track

  abbrev twice : ℕ → Bool
  twice = passed_twice edges web.ends walks

  abbrev spots : ℕ → ℕ
  spots = place (size_of inner) edges

  distinct : IsDistinct nat_eq edges
  distinct = distinct-rising edges (rising-from_increasing edges track.edge_list.rise)

  length_is : (e : ℕ) → has edges e ≡ true → length (walks e) ≡ suc (length (inner e))
  length_is = size_is g edges web next four walks is_graph track

  -- ---- the passes of a node

  gap_of : (e i v : ℕ) → has edges e ≡ true → i < length (inner e) → at (inner e) i ≡ v → G (start e + i) v
  gap_of e i v e_in i_in same = record { edge = e; edge_is = e_in; i = i; i_in = i_in; x_is = refl; node = same }

  -- two passes begin at different segments where they stand at different places
  apart : (e f i j : ℕ) → has edges e ≡ true → has edges f ≡ true → i < length (inner e) → j < length (inner f) → spots e + i ≢ spots f + j → start e + i ≢ start f + j
  apart e f i j e_in f_in i_in j_in differ same =
      let eq = blocks_apart walks edges e f i j e_in f_in (omega (arith, i_in, length_is e e_in)) (omega (arith, j_in, length_is f f_in)) same in
      let at_start : start e ≡ start f = ap start eq in
      let at_spot : spots e ≡ spots f = ap spots eq in
      differ (omega (arith, same, at_start, at_spot))

  spots_apart : (e f i j : ℕ) → has edges e ≡ true → has edges f ≡ true → i < length (inner e) → j < length (inner f) → start e + i ≢ start f + j → spots e + i ≢ spots f + j
  spots_apart e f i j e_in f_in i_in j_in differ same =
      let eq = blocks_apart inner edges e f i j e_in f_in i_in j_in same in
      let at_start : start e ≡ start f = ap start eq in
      let at_spot : spots e ≡ spots f = ap spots eq in
      differ (omega (arith, same, at_start, at_spot))

  abbrev passes : List ℕ
  passes = all_passed edges web.ends walks

  -- the pass at a place of the list
  record At (v p : ℕ) : Type 0 where
    pub edge : ℕ
    pub edge_in : has edges edge ≡ true
    pub i : ℕ
    pub i_in : i < length (inner edge)
    pub is : p ≡ spots edge + i
    pub node : at (inner edge) i ≡ v

  pass_at : (v p : ℕ) → p < length passes → at passes p ≡ v → At v p
  pass_at v p p_in same =
      let f = found_at inner edges distinct p p_in in
      record { edge = f.0; edge_in = f.1; i = f.2; i_in = f.3; is = f.4; node = sym (at_place inner edges f.0 f.2 0 f.1 f.3) ∙ ap (at passes) (sym f.4) ∙ same }

  gap_at : (v p : ℕ) (a : At v p) → G (start a.edge + a.i) v
  gap_at v p a = gap_of a.edge a.i v a.edge_in a.i_in a.node

  two_at : (v p q : ℕ) (a : At v p) (b : At v q) → p ≢ q → start a.edge + a.i ≢ start b.edge + b.i
  two_at v p q a b differ = apart a.edge b.edge a.i b.i a.edge_in b.edge_in a.i_in b.i_in (λ same. differ (a.is ∙ same ∙ sym b.is))

  two_of : (v : ℕ) → twice v ≡ true → (x : ℕ) × (y : ℕ) × G x v × G y v × (x ≢ y)
  two_of v h =
      let two = stands_twice v passes (ltb-true _ _ h) in
      let a = pass_at v two.0 (omega (arith, two.2, two.3)) two.4 in
      let b = pass_at v two.1 two.3 two.5 in
      (start a.edge + a.i, start b.edge + b.i, gap_at v two.0 a, gap_at v two.1 b, two_at v two.0 two.1 a b (λ same. omega (arith, same, two.2)))

  -- no node is passed three times
  pub at_most_two : (v : ℕ) → count_of v passes ≤ 2
  at_most_two v = elim (cases_lt 2 (count_of v passes)) [
    | inr few ↦ few
    | inl many ↦
        let three = stands_thrice v passes many in
        let low = three.3 in
        let high = three.4 in
        let a = pass_at v three.0 (omega (arith, low, high, three.5)) three.6 in
        let b = pass_at v three.1 (omega (arith, high, three.5)) three.7 in
        let c = pass_at v three.2 three.5 three.8 in
        let ab = two_at v three.0 three.1 a b (λ same. omega (arith, same, low)) in
        let ac = two_at v three.0 three.2 a c (λ same. omega (arith, same, low, high)) in
        let bc = two_at v three.1 three.2 b c (λ same. omega (arith, same, high)) in
        let two = two_gaps g edges web next four walks is_graph track _ _ v (gap_at v three.0 a) (gap_at v three.1 b) ab in
        absurd (elim (two.only _ (gap_at v three.2 c)) [ inl same ↦ ac (sym same) | inr same ↦ bc (sym same) ])
  ]

  -- and no node of the graph is passed
  pub none_low : (v : ℕ) → v < g.nodes → count_of v passes ≡ 0
  none_low v low = elim (cases_eq (count_of v passes) 0) [
    | inl none ↦ none
    | inr some ↦
        let one = stands_once v passes (omega (arith, some)) in
        let high = gap_high g edges web next four walks is_graph track _ v (gap_at v one.0 (pass_at v one.0 one.1 one.2)) in
        absurd (omega (arith, high, low))
  ]

  only_of : (v : ℕ) → twice v ≡ false → (x y : ℕ) → G x v → G y v → y ≡ x
  only_of v fails x y gap hap = elim (cases_eq y x) [
    | inl same ↦ same
    | inr other ↦
        let p = spots gap.edge + gap.i in
        let q = spots hap.edge + hap.i in
        let p_in : p < length passes = place_in inner edges gap.edge gap.i gap.edge_is gap.i_in in
        let q_in : q < length passes = place_in inner edges hap.edge hap.i hap.edge_is hap.i_in in
        let p_at : at passes p ≡ v = at_place inner edges gap.edge gap.i 0 gap.edge_is gap.i_in ∙ gap.node in
        let q_at : at passes q ≡ v = at_place inner edges hap.edge hap.i 0 hap.edge_is hap.i_in ∙ hap.node in
        let differ = spots_apart gap.edge hap.edge gap.i hap.i gap.edge_is hap.edge_is gap.i_in hap.i_in (λ same. other (hap.x_is ∙ sym same ∙ sym gap.x_is)) in
        let two : 2 ≤ count_of v passes = elim (cases_order p q) [
          | inl same ↦ absurd (differ same)
          | inr (inl low) ↦ count_two v passes p q low q_in p_at q_at
          | inr (inr high) ↦ count_two v passes q p high p_in q_at p_at
        ] in
        absurd (both_ways _ fails (lt-ltb 1 (count_of v passes) two))
  ]

  other_of : (x v : ℕ) → G x v → twice v ≡ true → (y : ℕ) × G y v × (x ≢ y)
  other_of x v gap h =
      let two = two_of v h in
      elim (cases_eq x two.0) [
        | inr other ↦ (two.0, two.2, other)
        | inl same ↦ (two.1, two.3, λ eq. two.4 (sym same ∙ eq))
      ]

  -- ---- the ground

  abbrev less : Graph
  less = record { nodes = web.nodes; ends = segs }

  gap_node : (x v : ℕ) → G x v → (g.nodes ≤ v) × (v < web.nodes)
  gap_node x v gap =
      let tails = part_tails g edges web next four walks is_graph track x v gap in
      let in_range = gap_in g edges web next four walks is_graph track x v gap in
      let size = part_size g edges web next four walks is_graph track in
      let low = tail_in web.nodes segs (part_map g edges web next four walks is_graph track).ends_in (2 * x + 1) (omega (arith, in_range, size)) in
      (gap_high g edges web next four walks is_graph track x v gap, omega (arith, low, tails.0))

  crosses : (x v : ℕ) → G x v → twice v ≡ true → (turns (turns (2 * x + 1)) ≡ 2 * suc x) × (turns (turns (2 * suc x)) ≡ 2 * x + 1)
  crosses x v gap h =
      let other = other_of x v gap h in
      let two = two_gaps g edges web next four walks is_graph track x other.0 v gap other.1 other.2 in
      (two.cross, two.back)

  bends : (x v : ℕ) → G x v → twice v ≡ false → (turns (2 * x + 1) ≡ 2 * suc x) × (turns (2 * suc x) ≡ 2 * x + 1)
  bends x v gap fails = one_gap g edges web next four walks is_graph track x v gap (λ y hap. only_of v fails x y gap hap)

  ground : IsGround g.nodes less turns twice
  ground = record {
    nodes_in = track.ground.nodes_in;
    is_flat_map = record { is_map = part_map g edges web next four walks is_graph track; flat = part_flat g edges web next four walks is_graph track };
    further = λ v h. let two = two_of v h in gap_node two.0 v two.2;
    crossing = λ d d_in h.
        let v = tail_of segs d in
        let some = two_of v h in
        let at = dart_gap g edges web next four walks is_graph track d d_in (gap_node some.0 v some.2).0 in
        let x = at.0 in
        let c = crosses x v at.1 h in
        elim at.2 [
          | inl odd ↦ (λ same. omega (arith, ap (λ k. turns (turns k)) (sym odd), same, odd, c.0), ap (λ k. turns (turns (turns (turns k)))) odd ∙ ap (λ k. turns (turns k)) c.0 ∙ c.1 ∙ sym odd)
          | inr even ↦ (λ same. omega (arith, ap (λ k. turns (turns k)) (sym even), same, even, c.1), ap (λ k. turns (turns (turns (turns k)))) even ∙ ap (λ k. turns (turns k)) c.1 ∙ c.0 ∙ sym even)
        ];
    bend = λ d d_in high fails.
        let v = tail_of segs d in
        let at = dart_gap g edges web next four walks is_graph track d d_in high in
        let x = at.0 in
        let c = bends x v at.1 fails in
        elim at.2 [
          | inl odd ↦ (λ same. omega (arith, ap turns (sym odd), same, odd, c.0), ap (λ k. turns (turns k)) odd ∙ ap turns c.0 ∙ c.1 ∙ sym odd)
          | inr even ↦ (λ same. omega (arith, ap turns (sym even), same, even, c.1), ap (λ k. turns (turns k)) even ∙ ap turns c.1 ∙ c.0 ∙ sym even)
        ];
  }

  -- ---- the walks

  abbrev W : ℕ → List ℕ
  W e = darts_from (start e) (length (inner e))

  lead : (e : ℕ) → has edges e ≡ true → WalksTo segs (ends_at g.ends e).0 (W e) (ends_at g.ends e).1
  lead e e_in =
      let size = length_is e e_in in
      let all = part_size g edges web next four walks is_graph track in
      let low = place_in walks edges e (length (inner e)) e_in (omega (arith, size)) in
      walks_from segs (ends_at g.ends e).1 (length (inner e)) (start e) (ends_at g.ends e).0 (track_first g edges web next four walks is_graph track e e_in)
      (λ i i_in.
      let tails = part_tails g edges web next four walks is_graph track (start e + i) (at (inner e) i) (gap_of e i (at (inner e) i) e_in i_in refl) in
      tails.0 ∙ sym tails.1)
      (track_last g edges web next four walks is_graph track e e_in (length (inner e)) size) (omega (arith, low, all))

  straight : (e : ℕ) → has edges e ≡ true → GoesOn g.nodes segs (straight_on segs twice turns) (W e)
  straight e e_in = goes_from segs (ends_at g.ends e).1 g.nodes (straight_on segs twice turns) (length (inner e)) (start e) (λ i i_in.
      let x = start e + i in
      let v = at (inner e) i in
      let gap = gap_of e i v e_in i_in refl in
      let tails = part_tails g edges web next four walks is_graph track x v gap in (
        omega (arith, (gap_node x v gap).0, tails.1),
        elim (cases_Bool (twice v)) [
          | inl h ↦ cond-true _ _ _ (ap twice tails.0 ∙ h) ∙ (crosses x v gap h).0
          | inr fails ↦ cond-false _ _ _ (ap twice tails.0 ∙ fails) ∙ (bends x v gap fails).0
        ],
      ))

  all_at : (p : ℕ) → p < length (flat_map W edges) → at (flat_map W edges) p ≡ 2 * p
  all_at p p_in =
      let f = found_at W edges distinct p p_in in
      let size = darts-length (start f.0) (length (inner f.0)) in
      let begins : place (size_of W) edges f.0 ≡ start f.0 = place-same (size_of W) (size_of walks) edges f.0 (λ e e_in. darts-length (start e) (length (inner e)) ∙ sym (length_is e e_in)) in
      let is : 2 * (start f.0 + f.2) ≡ 2 * p = omega (arith, begins, f.4) in
      ap (at (flat_map W edges)) f.4 ∙ at_place W edges f.0 f.2 0 f.1 f.3 ∙ darts_at (start f.0) (length (inner f.0)) f.2 (omega (arith, f.3, size)) ∙ is

  pub walked : IsTrack g edges less turns twice W
  walked = record {
    edge_list = track.edge_list;
    ground = ground;
    lead = lead;
    straight = straight;
    once = λ s. at_most_once s (flat_map W edges) (λ i j i_in j_in same. let a = all_at i i_in in let b = all_at j j_in in omega (arith, a, b, same));
  }

pub walks_give_drawings : WalksGiveDrawings
walks_give_drawings g edges web next four walks is_graph track =
    tracks_give_drawings g edges _ _ _ _ is_graph (walked g edges web next four walks is_graph track)

-- the walks of some of the edges are a track
pub fewer_walks : (g : Graph) (all part : List ℕ) (web : Graph) (next : ℕ → ℕ) (four : ℕ → Bool) (walks : ℕ → List ℕ) → IsTrack g all web next four walks →
    IsEdgeList (length g.ends) part → ((e : ℕ) → has part e ≡ true → has all e ≡ true) → IsTrack g part web next four walks
fewer_walks g all part web next four walks track list within = record {
  edge_list = list;
  ground = track.ground;
  lead = λ e e_in. track.lead e (within e e_in);
  straight = λ e e_in. track.straight e (within e e_in);
  once = λ s.
      let distinct = λ (edges : List ℕ) (its : IsEdgeList (length g.ends) edges). distinct-rising edges (rising-from_increasing edges its.rise) in
      let few = within_total part (λ e. times_walked s (walks e)) all (distinct part list) (distinct all track.edge_list) (λ e e_in. inr (within e e_in)) in
      let one = times-flat_map s walks part in
      let two = times-flat_map s walks all in
      let once = track.once s in
      omega (arith, few, one, two, once);
}

pub parts_give_drawings : PartsGiveDrawings
parts_give_drawings g all part further web next walks loose list within =
    let t = loose_drawings_are_tracks g all further web next walks loose in
    walks_give_drawings g part web next t.0 walks loose.is_graph (fewer_walks g all part web next t.0 walks t.1 list within)
