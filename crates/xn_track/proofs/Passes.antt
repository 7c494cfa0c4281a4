-- The walked segments of a track in the order of the walks, and the passes of walks over further nodes.
use Rattle.std.proofs.Common.{◌≡◌, ◌≢◌, ℕ, zero, suc, ◌+◌, ◌*◌, ◌/◌, ◌%◌, ◌<◌, ◌≤◌, ◌⊎◌, inl, inr, Bool, true, false, eqb, List, [], ◌∷◌, length, map, refl, sym, ◌∙◌, ap, subst, arith}
use Rattle.std.specs.List.{IsDistinct, flat_map}
use Rattle.std.specs.Prelude.{nat_eq}
use Rattle.std.proofs.lemmas.Bool.{cases_Bool, cases_eq, cases_order, cond-true, cond-false, eq-eqb, ne_eqb}
use Rattle.std.proofs.lemmas.List.{get_or_default, length-map}
use Rattle.std.proofs.Math.ListN.{get_or-map}
use Rattle.xn_model.specs.Graph.{Graph, IsGraph, ends_at}
use Rattle.xn_model.specs.Lists.{at, has, one_if}
use Rattle.xn_model.specs.Loose.{times_walked}
use Rattle.xn_model.specs.Map.{MeetsEuler, IsMap, WalksTo, reverse_of, tail_of}
use Rattle.xn_model.specs.Permutation.{iterate}
use Rattle.xn_genus.specs.Part.{AreDartsApart, IsPart, PassesOver, dart_along, ends_along}
use Rattle.xn_model.proofs.Darts.{cases_dart}
use Rattle.xn_genus.proofs.Counts.{stays_alone}
use Rattle.xn_genus.proofs.Kept.{EndsIn_at}
use Rattle.xn_genus.proofs.Listed.{part_along}
use Rattle.xn_genus.proofs.Part.{flat_of_part, map_of_part, passes_over}
use Rattle.xn_fewer.proofs.Rising.{distinct-rising, rising-from_increasing}
use Rattle.xn_model.proofs.Has.{has-all}
use Rattle.xn_track.specs.Track.{GoesOn, IsTrack, passed, straight_on}
use Rattle.xn_track.proofs.Blocks.{at_place, found_at, place, place_in, size_of}

-- ---- walks by their positions

pub walk_in : (ends : List (ℕ × ℕ)) (u v : ℕ) (ds : List ℕ) → WalksTo ends u ds v → (i : ℕ) → i < length ds → at ds i < 2 * length ends
walk_in ends u v [] walk i i_in = absurd (omega arith)
walk_in ends u v (d ∷ ds) walk zero i_in = walk.0
walk_in ends u v (d ∷ ds) walk (suc i) i_in = walk_in ends (tail_of ends (reverse_of d)) v ds walk.2 i (omega arith)

pub walk_first : (ends : List (ℕ × ℕ)) (u v : ℕ) (ds : List ℕ) → WalksTo ends u ds v → 0 < length ds → tail_of ends (at ds 0) ≡ u
walk_first ends u v [] walk some = absurd (omega arith)
walk_first ends u v (d ∷ ds) walk some = walk.1

pub walk_last : (ends : List (ℕ × ℕ)) (u v : ℕ) (ds : List ℕ) → WalksTo ends u ds v → (i : ℕ) → suc i ≡ length ds → tail_of ends (reverse_of (at ds i)) ≡ v
walk_last ends u v [] walk i last = absurd (omega arith)
walk_last ends u v (d ∷ []) walk zero last = walk.2
walk_last ends u v (d ∷ d' ∷ ds) walk zero last = absurd (omega arith)
walk_last ends u v (d ∷ ds) walk (suc i) last = walk_last ends (tail_of ends (reverse_of d)) v ds walk.2 i (omega arith)

pub walk_seam : (ends : List (ℕ × ℕ)) (u v : ℕ) (ds : List ℕ) → WalksTo ends u ds v → (i : ℕ) → suc i < length ds → tail_of ends (reverse_of (at ds i)) ≡ tail_of ends (at ds (suc i))
walk_seam ends u v [] walk i i_in = absurd (omega arith)
walk_seam ends u v (d ∷ []) walk i i_in = absurd (omega arith)
walk_seam ends u v (d ∷ e ∷ ds) walk zero i_in = sym walk.2.1
walk_seam ends u v (d ∷ e ∷ ds) walk (suc i) i_in = walk_seam ends (tail_of ends (reverse_of d)) v (e ∷ ds) walk.2 i (omega arith)

pub goes_at : (n : ℕ) (ends : List (ℕ × ℕ)) (leave : ℕ → ℕ) (ds : List ℕ) → GoesOn n ends leave ds → (i : ℕ) → suc i < length ds →
    (n ≤ tail_of ends (at ds (suc i))) × (leave (reverse_of (at ds i)) ≡ at ds (suc i))
goes_at n ends leave [] goes i i_in = absurd (omega arith)
goes_at n ends leave (d ∷ []) goes i i_in = absurd (omega arith)
goes_at n ends leave (d ∷ e ∷ ds) goes zero i_in = (goes.0, goes.1)
goes_at n ends leave (d ∷ e ∷ ds) goes (suc i) i_in = goes_at n ends leave (e ∷ ds) goes.2 i (omega arith)

pub passed-length : (ends : List (ℕ × ℕ)) (ds : List ℕ) → 0 < length ds → length ds ≡ suc (length (passed ends ds))
passed-length ends [] some = absurd (omega arith)
passed-length ends (d ∷ ds) some = ap suc (sym (length-map ds (tail_of ends)))

pub passed_at : (ends : List (ℕ × ℕ)) (ds : List ℕ) (i : ℕ) → suc i < length ds → at (passed ends ds) i ≡ tail_of ends (at ds (suc i))
passed_at ends [] i i_in = absurd (omega arith)
passed_at ends (d ∷ ds) i i_in =
    get_or_default (map (tail_of ends) ds) i 0 (tail_of ends 0) (omega (arith, i_in, length-map ds (tail_of ends))) ∙ get_or-map (tail_of ends) ds i 0

-- ---- segments that are walked once

pub one_walked : (s : ℕ) (ds : List ℕ) (j : ℕ) → j < length ds → at ds j / 2 ≡ s → 1 ≤ times_walked s ds
one_walked s [] j j_in same = absurd (omega arith)
one_walked s (d ∷ ds) zero j_in same = let here : one_if (eqb (d / 2) s) ≡ 1 = ap one_if (eq-eqb _ _ same) in omega (arith, here)
one_walked s (d ∷ ds) (suc j) j_in same = let rest = one_walked s ds j (omega arith) same in omega (arith, rest)

two_walked : (s : ℕ) (ds : List ℕ) (i j : ℕ) → i < j → j < length ds → at ds i / 2 ≡ s → at ds j / 2 ≡ s → 2 ≤ times_walked s ds
two_walked s [] i j low j_in one two = absurd (omega arith)
two_walked s (d ∷ ds) i zero low j_in one two = absurd (omega arith)
two_walked s (d ∷ ds) zero (suc j) low j_in one two =
    let here : one_if (eqb (d / 2) s) ≡ 1 = ap one_if (eq-eqb _ _ one) in
    let rest = one_walked s ds j (omega arith) two in omega (arith, here, rest)
two_walked s (d ∷ ds) (suc i) (suc j) low j_in one two = let rest = two_walked s ds i j (omega arith) (omega arith) one two in omega (arith, rest)

pub walked_apart : (ds : List ℕ) → ((s : ℕ) → times_walked s ds ≤ 1) → (i j : ℕ) → i < length ds → j < length ds → at ds i / 2 ≡ at ds j / 2 → i ≡ j
walked_apart ds once i j i_in j_in same = elim (cases_order i j) [
  | inl one ↦ one
  | inr (inl low) ↦ let two = two_walked (at ds j / 2) ds i j low j_in same refl in let few = once (at ds j / 2) in absurd (omega (arith, two, few))
  | inr (inr high) ↦ let two = two_walked (at ds j / 2) ds j i high i_in refl same in let few = once (at ds j / 2) in absurd (omega (arith, two, few))
]

-- ---- the darts of listed segments

pub along_even : (ds : List ℕ) (i : ℕ) → dart_along ds (2 * i) ≡ at ds i
along_even ds i =
    let bit : (2 * i) % 2 ≡ 0 = omega arith in
    let half : (2 * i) / 2 ≡ i = omega arith in
    cond-true _ _ _ (eq-eqb _ _ bit) ∙ ap (at ds) half

pub along_odd : (ds : List ℕ) (i : ℕ) → dart_along ds (2 * i + 1) ≡ reverse_of (at ds i)
along_odd ds i =
    let bit : (2 * i + 1) % 2 ≢ 0 = λ same. omega (arith, same) in
    let half : (2 * i + 1) / 2 ≡ i = omega arith in
    cond-false _ _ _ (ne_eqb _ _ bit) ∙ ap (λ k. reverse_of (at ds k)) half

-- a dart of the part that next leads to another one of it
pub over_step : (count : ℕ) (e next after : ℕ → ℕ) → PassesOver count e next after → ((i j : ℕ) → i < count → j < count → e i ≡ e j → i ≡ j) →
    (j i : ℕ) → j < count → i < count → next (e j) ≡ e i → after j ≡ i
over_step count e next after over apart j i j_in i_in goes =
    let one = over.first j j_in in
    elim (cases_eq one.steps 0) [
      | inl now ↦ apart (after j) i (over.below j j_in) i_in (sym one.there ∙ ap (λ k. iterate next (suc k) (e j)) now ∙ goes)
      | inr later ↦ absurd (one.between 0 i (omega (arith, later)) i_in goes)
    ]

module _ (g : Graph) (edges : List ℕ) (web : Graph) (next : ℕ → ℕ) (four : ℕ → Bool) (walks : ℕ → List ℕ) (is_graph : IsGraph g)
    (track : IsTrack g edges web next four walks) where
  abbrev pub ends : List (ℕ × ℕ)
  ends = web.ends

  abbrev pub all : List ℕ
  all = flat_map walks edges

  abbrev pub part : List (ℕ × ℕ)
  part = ends_along web.ends (flat_map walks edges)

  abbrev pub spot : ℕ → ℕ
  spot = dart_along (flat_map walks edges)

  abbrev pub vs : ℕ → List ℕ
  vs e = passed web.ends (walks e)

  -- where the walk of e begins
  abbrev pub begin : ℕ → ℕ
  begin = place (size_of walks) edges

  abbrev web_map : IsMap web.nodes web.ends next
  web_map = track.ground.is_flat_map.is_map

  pub distinct_edges : IsDistinct nat_eq edges
  distinct_edges = distinct-rising edges (rising-from_increasing edges track.edge_list.rise)

  pub edge_in : (e : ℕ) → has edges e ≡ true → e < length g.ends
  edge_in = has-all (λ e. e < length g.ends) edges track.edge_list.below

  pub ends_below : (e : ℕ) → has edges e ≡ true → ((ends_at g.ends e).0 < g.nodes) × ((ends_at g.ends e).1 < g.nodes)
  ends_below e e_in = EndsIn_at g.nodes g.ends is_graph.ends_in e (edge_in e e_in)

  pub some_darts : (e : ℕ) → has edges e ≡ true → 0 < length (walks e)
  some_darts e e_in = go (walks e) (track.lead e e_in)
    where
      go : (ds : List ℕ) → WalksTo web.ends (ends_at g.ends e).0 ds (ends_at g.ends e).1 → 0 < length ds
      go [] walk = absurd (is_graph.no_loop e (edge_in e e_in) walk)
      go (d ∷ ds) walk = omega arith

  pub size_is : (e : ℕ) → has edges e ≡ true → length (walks e) ≡ suc (length (vs e))
  size_is e e_in = passed-length web.ends (walks e) (some_darts e e_in)

  all_at : (e i : ℕ) → has edges e ≡ true → i < length (walks e) → at all (begin e + i) ≡ at (walks e) i
  all_at e i e_in i_in = at_place walks edges e i 0 e_in i_in

  all_in : (e i : ℕ) → has edges e ≡ true → i < length (walks e) → begin e + i < length all
  all_in e i e_in i_in = place_in walks edges e i e_in i_in

  darts_apart : AreDartsApart web.ends all
  darts_apart = record {
    darts_in = λ s s_in.
        let f = found_at walks edges distinct_edges s s_in in
        let low = walk_in web.ends _ _ (walks f.0) (track.lead f.0 f.1) f.2 f.3 in
        let same : at all s ≡ at (walks f.0) f.2 = ap (at all) f.4 ∙ all_at f.0 f.2 f.1 f.3 in
        omega (arith, low, same);
    segments_apart = walked_apart all track.once;
  }

  pub is_part : IsPart web.ends part spot
  is_part = part_along web.ends all darts_apart

  abbrev over : (after : ℕ → ℕ) × PassesOver (2 * length part) spot next after
  over = passes_over web.nodes web.ends part spot next web_map is_part

  abbrev pub turn : ℕ → ℕ
  turn = over.0

  pub part_map : IsMap web.nodes part turn
  part_map = map_of_part web.nodes web.ends part spot next web_map is_part over.0 over.1

  pub part_flat : MeetsEuler web.nodes part turn
  part_flat = flat_of_part web.nodes web.ends part spot next web_map is_part over.0 over.1 track.ground.is_flat_map.flat

  pub part_size : length part ≡ length all
  part_size = length-map all (λ d. (tail_of web.ends d, tail_of web.ends (reverse_of d)))

  -- ---- passes

  -- between the segments x and x + 1 a walk passes the node v
  pub record Gap (x v : ℕ) : Type 0 where
    pub edge : ℕ
    pub edge_is : has edges edge ≡ true
    pub i : ℕ
    pub i_in : i < length (vs edge)
    pub x_is : x ≡ begin edge + i
    pub node : at (vs edge) i ≡ v

  inner_in : (x v : ℕ) (gap : Gap x v) → suc gap.i < length (walks gap.edge)
  inner_in x v gap = omega (arith, gap.i_in, size_is gap.edge gap.edge_is)

  pub gap_in : (x v : ℕ) → Gap x v → suc x < length all
  gap_in x v gap =
      let low = all_in gap.edge (suc gap.i) gap.edge_is (inner_in x v gap) in
      omega (arith, low, gap.x_is)

  arrive : (x v : ℕ) (gap : Gap x v) → spot (2 * x + 1) ≡ reverse_of (at (walks gap.edge) gap.i)
  arrive x v gap = along_odd all x ∙ ap (λ y. reverse_of (at all y)) gap.x_is ∙ ap reverse_of (all_at gap.edge gap.i gap.edge_is (let low = inner_in x v gap in omega (arith, low)))

  leave : (x v : ℕ) (gap : Gap x v) → spot (2 * suc x) ≡ at (walks gap.edge) (suc gap.i)
  leave x v gap =
      let on : suc x ≡ begin gap.edge + suc gap.i = omega (arith, gap.x_is) in
      along_even all (suc x) ∙ ap (at all) on ∙ all_at gap.edge (suc gap.i) gap.edge_is (inner_in x v gap)

  leave_tail : (x v : ℕ) → Gap x v → tail_of web.ends (spot (2 * suc x)) ≡ v
  leave_tail x v gap = ap (tail_of web.ends) (leave x v gap) ∙ sym (passed_at web.ends (walks gap.edge) gap.i (inner_in x v gap)) ∙ gap.node

  arrive_tail : (x v : ℕ) → Gap x v → tail_of web.ends (spot (2 * x + 1)) ≡ v
  arrive_tail x v gap =
      ap (tail_of web.ends) (arrive x v gap) ∙ walk_seam web.ends _ _ (walks gap.edge) (track.lead gap.edge gap.edge_is) gap.i (inner_in x v gap)
      ∙ sym (ap (tail_of web.ends) (leave x v gap)) ∙ leave_tail x v gap

  pub gap_high : (x v : ℕ) → Gap x v → g.nodes ≤ v
  gap_high x v gap =
      let goes = goes_at g.nodes web.ends (straight_on web.ends four next) (walks gap.edge) (track.straight gap.edge gap.edge_is) gap.i (inner_in x v gap) in
      let same : tail_of web.ends (at (walks gap.edge) (suc gap.i)) ≡ v = sym (ap (tail_of web.ends) (leave x v gap)) ∙ leave_tail x v gap in
      omega (arith, goes.0, same)

  goes_straight : (x v : ℕ) → Gap x v → straight_on web.ends four next (spot (2 * x + 1)) ≡ spot (2 * suc x)
  goes_straight x v gap =
      let goes = goes_at g.nodes web.ends (straight_on web.ends four next) (walks gap.edge) (track.straight gap.edge gap.edge_is) gap.i (inner_in x v gap) in
      ap (straight_on web.ends four next) (arrive x v gap) ∙ goes.1 ∙ sym (leave x v gap)

  arrive_in : (x v : ℕ) → Gap x v → 2 * x + 1 < 2 * length part
  arrive_in x v gap = let low = gap_in x v gap in omega (arith, low, part_size)

  leave_in : (x v : ℕ) → Gap x v → 2 * suc x < 2 * length part
  leave_in x v gap = let low = gap_in x v gap in omega (arith, low, part_size)

  -- both darts of a pass in the part
  pub part_tails : (x v : ℕ) → Gap x v → (tail_of part (2 * x + 1) ≡ v) × (tail_of part (2 * suc x) ≡ v)
  part_tails x v gap = (is_part.tails _ (arrive_in x v gap) ∙ arrive_tail x v gap, is_part.tails _ (leave_in x v gap) ∙ leave_tail x v gap)

  -- the ends of a walk
  pub track_first : (e : ℕ) → has edges e ≡ true → tail_of part (2 * begin e) ≡ (ends_at g.ends e).0
  track_first e e_in =
      let some = some_darts e e_in in
      let here : begin e + 0 ≡ begin e = omega arith in
      let low = all_in e 0 e_in some in
      is_part.tails (2 * begin e) (omega (arith, low, part_size))
      ∙ ap (tail_of web.ends) (along_even all (begin e) ∙ ap (at all) (sym here) ∙ all_at e 0 e_in some) ∙ walk_first web.ends _ _ (walks e) (track.lead e e_in) some

  pub track_last : (e : ℕ) → has edges e ≡ true → (i : ℕ) → length (walks e) ≡ suc i → tail_of part (2 * (begin e + i) + 1) ≡ (ends_at g.ends e).1
  track_last e e_in i last =
      let i_in : i < length (walks e) = omega (arith, last) in
      let low = all_in e i e_in i_in in
      is_part.tails (2 * (begin e + i) + 1) (omega (arith, low, part_size))
      ∙ ap (tail_of web.ends) (along_odd all (begin e + i) ∙ ap reverse_of (all_at e i e_in i_in)) ∙ walk_last web.ends _ _ (walks e) (track.lead e e_in) i (sym last)

  -- a dart of the part at a further node is one of a pass
  pub dart_gap : (j : ℕ) → j < 2 * length part → g.nodes ≤ tail_of part j → (x : ℕ) × Gap x (tail_of part j) × ((j ≡ 2 * x + 1) ⊎ (j ≡ 2 * suc x))
  dart_gap j j_in high =
      let c = cases_dart j in
      let f = found_at walks edges distinct_edges c.0 (omega (arith, j_in, c.1, part_size)) in
      elim c.1 [ inl even ↦ forth c.0 even f.0 f.1 f.2 f.3 f.4 | inr odd ↦ back c.0 odd f.0 f.1 f.2 f.3 f.4 ]
    where
      forth : (s : ℕ) → j ≡ 2 * s → (e : ℕ) → has edges e ≡ true → (i : ℕ) → i < length (walks e) → s ≡ begin e + i →
          (x : ℕ) × Gap x (tail_of part j) × ((j ≡ 2 * x + 1) ⊎ (j ≡ 2 * suc x))
      forth s even e e_in zero i_in s_is =
          let dart : spot j ≡ at (walks e) 0 = ap spot even ∙ along_even all s ∙ ap (at all) s_is ∙ all_at e 0 e_in i_in in
          let low : tail_of part j ≡ (ends_at g.ends e).0 = is_part.tails j j_in ∙ ap (tail_of web.ends) dart ∙ walk_first web.ends _ _ (walks e) (track.lead e e_in) i_in in
          absurd (omega (arith, low, ends_below e e_in, high))
      forth s even e e_in (suc i) i_in s_is =
          let dart : spot j ≡ at (walks e) (suc i) = ap spot even ∙ along_even all s ∙ ap (at all) s_is ∙ all_at e (suc i) e_in i_in in
          let tail : tail_of part j ≡ at (vs e) i = is_part.tails j j_in ∙ ap (tail_of web.ends) dart ∙ sym (passed_at web.ends (walks e) i i_in) in (
            begin e + i,
            record { edge = e; edge_is = e_in; i = i; i_in = omega (arith, i_in, size_is e e_in); x_is = refl; node = sym tail },
            inr (omega (arith, even, s_is)),
          )

      back : (s : ℕ) → j ≡ 2 * s + 1 → (e : ℕ) → has edges e ≡ true → (i : ℕ) → i < length (walks e) → s ≡ begin e + i →
          (x : ℕ) × Gap x (tail_of part j) × ((j ≡ 2 * x + 1) ⊎ (j ≡ 2 * suc x))
      back s odd e e_in i i_in s_is =
          let dart : spot j ≡ reverse_of (at (walks e) i) = ap spot odd ∙ along_odd all s ∙ ap (λ y. reverse_of (at all y)) s_is ∙ ap reverse_of (all_at e i e_in i_in) in
          elim (cases_eq (suc i) (length (walks e))) [
            | inl last ↦
                let low : tail_of part j ≡ (ends_at g.ends e).1 = is_part.tails j j_in ∙ ap (tail_of web.ends) dart ∙ walk_last web.ends _ _ (walks e) (track.lead e e_in) i last in
                absurd (omega (arith, low, ends_below e e_in, high))
            | inr on ↦
                let more : suc i < length (walks e) = omega (arith, on, i_in) in
                let tail : tail_of part j ≡ at (vs e) i = is_part.tails j j_in ∙ ap (tail_of web.ends) dart ∙ walk_seam web.ends _ _ (walks e) (track.lead e e_in) i more ∙ sym (passed_at web.ends (walks e) i more) in (
                  begin e + i,
                  record { edge = e; edge_is = e_in; i = i; i_in = omega (arith, more, size_is e e_in); x_is = refl; node = sym tail },
                  inl (omega (arith, odd, s_is)),
                )
          ]

  -- ---- two passes of one node

  pub record TwoGaps (x y v : ℕ) : Type 0 where
    pub four_is : four v ≡ true
    pub cross : turn (turn (2 * x + 1)) ≡ 2 * suc x
    pub back : turn (turn (2 * suc x)) ≡ 2 * x + 1
    pub only : (z : ℕ) → Gap z v → (z ≡ x) ⊎ (z ≡ y)

  bend_orbit : (a b : ℕ) → next a ≡ b → next b ≡ a → (k : ℕ) → (iterate next k a ≡ a) ⊎ (iterate next k a ≡ b)
  bend_orbit a b one two zero = inl refl
  bend_orbit a b one two (suc k) = elim (bend_orbit a b one two k) [ inl at ↦ inr (ap next at ∙ one) | inr at ↦ inl (ap next at ∙ two) ]

  cross_orbit : (a b : ℕ) → next (next a) ≡ b → next (next b) ≡ a → (k : ℕ) →
      (iterate next k a ≡ a) ⊎ ((iterate next k a ≡ next a) ⊎ ((iterate next k a ≡ b) ⊎ (iterate next k a ≡ next b)))
  cross_orbit a b one two zero = inl refl
  cross_orbit a b one two (suc k) = elim (cross_orbit a b one two k) [
    | inl at ↦ inr (inl (ap next at))
    | inr (inl at) ↦ inr (inr (inl (ap next at ∙ one)))
    | inr (inr (inl at)) ↦ inr (inr (inr (ap next at)))
    | inr (inr (inr at)) ↦ inl (ap next at ∙ two)
  ]

  pub two_gaps : (x y v : ℕ) → Gap x v → Gap y v → x ≢ y → TwoGaps x y v
  two_gaps x y v gap hap differ =
      let a = spot (2 * x + 1) in
      let b = spot (2 * suc x) in
      let c = spot (2 * y + 1) in
      let d = spot (2 * suc y) in
      let a_in = arrive_in x v gap in
      let b_in = leave_in x v gap in
      let c_in = arrive_in y v hap in
      let d_in = leave_in y v hap in
      let a_low = is_part.below _ a_in in
      let c_low = is_part.below _ c_in in
      let not_ac : a ≢ c = λ same. let e = is_part.apart _ _ a_in c_in same in differ (omega (arith, e)) in
      let not_bc : b ≢ c = λ same. let e = is_part.apart _ _ b_in c_in same in omega (arith, e) in
      let at_a = arrive_tail x v gap in
      let at_c = arrive_tail y v hap in
      let reach = web_map.one_ring a c a_low c_low (at_a ∙ sym at_c) in
      elim (cases_Bool (four v)) [
        | inr bends ↦
            let fails : four (tail_of web.ends a) ≡ false = ap four at_a ∙ bends in
            let on : next a ≡ b = sym (cond-false _ _ _ fails) ∙ goes_straight x v gap in
            let bend = track.ground.bend a a_low (let high = gap_high x v gap in omega (arith, high, at_a)) fails in
            let back : next b ≡ a = ap next (sym on) ∙ bend.1 in
            absurd (elim (bend_orbit a b on back reach.0) [ inl at ↦ not_ac (sym at ∙ reach.1) | inr at ↦ not_bc (sym at ∙ reach.1) ])
        | inl crosses ↦
            let holds : four (tail_of web.ends a) ≡ true = ap four at_a ∙ crosses in
            let c_holds : four (tail_of web.ends c) ≡ true = ap four at_c ∙ crosses in
            let on : next (next a) ≡ b = sym (cond-true _ _ _ holds) ∙ goes_straight x v gap in
            let c_on : next (next c) ≡ d = sym (cond-true _ _ _ c_holds) ∙ goes_straight y v hap in
            let b_on : next (next b) ≡ a = ap (λ z. next (next z)) (sym on) ∙ (track.ground.crossing a a_low holds).1 in
            let d_on : next (next d) ≡ c = ap (λ z. next (next z)) (sym c_on) ∙ (track.ground.crossing c c_low c_holds).1 in
            let sides : ((next a ≡ c) × (next b ≡ d)) ⊎ ((next a ≡ d) × (next b ≡ c)) = elim (cross_orbit a b on b_on reach.0) [
              | inl at ↦ absurd (not_ac (sym at ∙ reach.1))
              | inr (inl at) ↦ let here : next a ≡ c = sym at ∙ reach.1 in inl (here, ap next (sym on) ∙ ap (λ z. next (next z)) here ∙ c_on)
              | inr (inr (inl at)) ↦ absurd (not_bc (sym at ∙ reach.1))
              | inr (inr (inr at)) ↦
                  let there : next b ≡ c = sym at ∙ reach.1 in
                  inr (ap next (sym b_on) ∙ ap (λ z. next (next z)) there ∙ c_on, there)
            ] in
            record {
              four_is = crosses;
              cross = elim sides [
                | inl s ↦
                    let one = step (2 * x + 1) (2 * y + 1) a_in c_in s.0 in
                    let two = step (2 * y + 1) (2 * suc x) c_in b_in (ap next (sym s.0) ∙ on) in
                    ap turn one ∙ two
                | inr s ↦
                    let one = step (2 * x + 1) (2 * suc y) a_in d_in s.0 in
                    let two = step (2 * suc y) (2 * suc x) d_in b_in (ap next (sym s.0) ∙ on) in
                    ap turn one ∙ two
              ];
              back = elim sides [
                | inl s ↦
                    let one = step (2 * suc x) (2 * suc y) b_in d_in s.1 in
                    let two = step (2 * suc y) (2 * x + 1) d_in a_in (ap next (sym s.1) ∙ b_on) in
                    ap turn one ∙ two
                | inr s ↦
                    let one = step (2 * suc x) (2 * y + 1) b_in c_in s.1 in
                    let two = step (2 * y + 1) (2 * x + 1) c_in a_in (ap next (sym s.1) ∙ b_on) in
                    ap turn one ∙ two
              ];
              only = λ z zap.
                  let e = spot (2 * z + 1) in
                  let e_in = arrive_in z v zap in
                  let to = web_map.one_ring a e a_low (is_part.below _ e_in) (at_a ∙ sym (arrive_tail z v zap)) in
                  let is_a : e ≡ a → (z ≡ x) ⊎ (z ≡ y) = λ same. let i = is_part.apart _ _ e_in a_in same in inl (omega (arith, i)) in
                  let is_b : e ≡ b → (z ≡ x) ⊎ (z ≡ y) = λ same. let i = is_part.apart _ _ e_in b_in same in absurd (omega (arith, i)) in
                  let is_c : e ≡ c → (z ≡ x) ⊎ (z ≡ y) = λ same. let i = is_part.apart _ _ e_in c_in same in inr (omega (arith, i)) in
                  let is_d : e ≡ d → (z ≡ x) ⊎ (z ≡ y) = λ same. let i = is_part.apart _ _ e_in d_in same in absurd (omega (arith, i)) in
                  elim (cross_orbit a b on b_on to.0) [
                    | inl at ↦ is_a (sym to.1 ∙ at)
                    | inr (inl at) ↦ elim sides [ inl s ↦ is_c (sym to.1 ∙ at ∙ s.0) | inr s ↦ is_d (sym to.1 ∙ at ∙ s.0) ]
                    | inr (inr (inl at)) ↦ is_b (sym to.1 ∙ at)
                    | inr (inr (inr at)) ↦ elim sides [ inl s ↦ is_d (sym to.1 ∙ at ∙ s.1) | inr s ↦ is_c (sym to.1 ∙ at ∙ s.1) ]
                  ];
            }
      ]
    where
      step : (j i : ℕ) → j < 2 * length part → i < 2 * length part → next (spot j) ≡ spot i → turn j ≡ i
      step = over_step (2 * length part) spot next turn over.1 is_part.apart

  -- the only pass of a node
  pub one_gap : (x v : ℕ) → Gap x v → ((y : ℕ) → Gap y v → y ≡ x) → (turn (2 * x + 1) ≡ 2 * suc x) × (turn (2 * suc x) ≡ 2 * x + 1)
  one_gap x v gap only =
      let a_in = arrive_in x v gap in
      let b_in = leave_in x v gap in
      let tails = part_tails x v gap in
      let here : (j : ℕ) → j < 2 * length part → tail_of part j ≡ v → (turn j ≡ 2 * x + 1) ⊎ (turn j ≡ 2 * suc x) = λ j j_in at.
      let on = part_map.same_node j j_in ∙ at in
      let high = gap_high x v gap in
      let found = dart_gap (turn j) (part_map.permutes.below j j_in) (omega (arith, on, high)) in
      let same = only found.0 (subst (Gap found.0) on found.1) in
      elim found.2 [ inl odd ↦ inl (omega (arith, odd, same)) | inr even ↦ inr (omega (arith, even, same)) ] in (
        elim (here (2 * x + 1) a_in tails.0) [
          | inr on ↦ on
          | inl alone ↦
              let reach = part_map.one_ring _ _ a_in b_in (tails.0 ∙ sym tails.1) in
              let e = sym (stays_alone turn (2 * x + 1) alone reach.0) ∙ reach.1 in
              absurd (omega (arith, e))
        ],
        elim (here (2 * suc x) b_in tails.1) [
          | inl on ↦ on
          | inr alone ↦
              let reach = part_map.one_ring _ _ b_in a_in (tails.1 ∙ sym tails.0) in
              let e = sym (stays_alone turn (2 * suc x) alone reach.0) ∙ reach.1 in
              absurd (omega (arith, e))
        ],
      )
