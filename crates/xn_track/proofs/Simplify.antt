-- A track that doesn't meet simply has a step, so every track gives a drawing.
use Rattle.std.proofs.Common.{◌≡◌, ◌≢◌, ℕ, zero, suc, ◌+◌, ◌-◌, ◌<◌, ◌≤◌, ◌⊎◌, inl, inr, Bool, true, false, not, ◌&&◌, ◌||◌, eqb, List, [], ◌∷◌, length, refl, sym, ◌∙◌, ap, subst, arith}
use Rattle.std.specs.List.{IsDistinct}
use Rattle.std.specs.Prelude.{nat_eq}
use Rattle.std.proofs.lemmas.Bool.{both_ways, cases_Bool, cases_eq, cases_order, eqb-true, ne_eqb, or_cases}
use Rattle.xn_model.specs.Drawing.{IsSimplyAtMost}
use Rattle.xn_model.specs.Graph.{Graph, Independent, IsGraph, edges_of, ends_at, independent}
use Rattle.xn_model.specs.Lists.{at, has}
use Rattle.xn_model.specs.Map.{tail_of}
use Rattle.xn_model.specs.Orders.{crossing_count}
use Rattle.xn_model.specs.Permutation.{count_below}
use Rattle.xn_fewer.proofs.Rising.{all_made}
use Rattle.xn_model.proofs.Has.{has-first, has-later, place_of}
use Rattle.xn_track.specs.Relinking.{PassesTo}
use Rattle.xn_track.specs.Simplifying.{LooseDrawingsGiveDrawings, LooseDrawingsGiveSimpleOnes, TracksGiveDrawings}
use Rattle.xn_track.specs.Steps.{IsDoubleStep, IsStep, end_from, node_after, turned_walk}
use Rattle.xn_track.specs.Tidying.{HasDrawingOf, order_along}
use Rattle.xn_track.specs.Track.{IsGround, IsTrack, MeetSimply, passed}
use Rattle.xn_track.proofs.Loose.{loose_drawings_are_tracks}
use Rattle.xn_track.proofs.Passes.{passed_at, size_is}
use Rattle.xn_track.proofs.Paths.{at-reverse_walk, length-reverse_walk, path_seam}
use Rattle.xn_track.proofs.Relink.{passes_can_be_relinked}
use Rattle.xn_track.proofs.Steps.{EdgePath, beginnings_are_exchanged, closed_parts_are_cut_off, edge_path, middles_are_exchanged}
use Rattle.xn_track.proofs.Tidy.{tracks_that_meet_simply_are_drawings}

-- ---- searching lists

pub all_or : (A : ℕ → Type 0) (B : Type 0) (xs : List ℕ) → ((x : ℕ) → has xs x ≡ true → A x ⊎ B) → ((x : ℕ) → has xs x ≡ true → A x) ⊎ B
all_or A B [] each = inl (λ x h. absurd (both_ways false refl h))
all_or A B (y ∷ ys) each = elim (each y (has-first y ys)) [
  | inr b ↦ inr b
  | inl a ↦ elim (all_or A B ys (λ x h. each x (has-later y ys x h))) [
    | inr b ↦ inr b
    | inl all ↦ inl (λ x h. elim (or_cases (eqb y x) (has ys x) h) [ inl here ↦ subst A (eqb-true y x here) a | inr later ↦ all x later ])
  ]
]

-- a list has no repeats, or some number twice
distinct_or_twice : (xs : List ℕ) → IsDistinct nat_eq xs ⊎ ((i : ℕ) × (j : ℕ) × (i < j) × (j < length xs) × (at xs i ≡ at xs j))
unfolding IsDistinct
distinct_or_twice [] = inl tt
distinct_or_twice (x ∷ xs) = elim (cases_Bool (has xs x)) [
  | inl again ↦ let k = place_of xs x again in inr (0, suc k.0, omega arith, omega (arith, k.1), sym k.2)
  | inr never ↦ elim (distinct_or_twice xs) [
    | inr two ↦ inr (suc two.0, suc two.1, omega (arith, two.2), omega (arith, two.3), two.4)
    | inl rest ↦ inl (all_made (λ y. nat_eq x y ≡ false) xs (λ y y_in. ne_eqb x y (λ same. both_ways _ never (ap (has xs) same ∙ y_in))), rest)
  ]
]

-- edges that aren't independent have a common end
common_end : (ends : List (ℕ × ℕ)) (e f : ℕ) → independent ends e f ≡ false → (s : Bool) × (t : Bool) × (end_from ends e s ≡ end_from ends f t)
common_end ends e f bound = go (eqb (ends_at ends e).0 (ends_at ends f).0) (eqb (ends_at ends e).1 (ends_at ends f).0) (eqb (ends_at ends e).0 (ends_at ends f).1) (eqb (ends_at ends e).1 (ends_at ends f).1) refl refl refl refl bound
  where
    go : (a b c d : Bool) → eqb (ends_at ends e).0 (ends_at ends f).0 ≡ a → eqb (ends_at ends e).1 (ends_at ends f).0 ≡ b → eqb (ends_at ends e).0 (ends_at ends f).1 ≡ c → eqb (ends_at ends e).1 (ends_at ends f).1 ≡ d →
        (not (eqb (ends_at ends e).0 (ends_at ends f).0 || eqb (ends_at ends e).1 (ends_at ends f).0) && not (eqb (ends_at ends e).0 (ends_at ends f).1 || eqb (ends_at ends e).1 (ends_at ends f).1)) ≡ false →
        (s : Bool) × (t : Bool) × (end_from ends e s ≡ end_from ends f t)
    go true b c d one two three four none = (false, false, eqb-true _ _ one)
    go false true c d one two three four none = (true, false, eqb-true _ _ two)
    go false false true d one two three four none = (false, true, eqb-true _ _ three)
    go false false false true one two three four none = (true, true, eqb-true _ _ four)
    go false false false false one two three four none = absurd (both_ways _ none (rw (one, two, three, four) refl))

module _ (g : Graph) (edges : List ℕ) (is_graph : IsGraph g) where
  -- a track of the same edges with fewer nodes that have four darts
  pub record Better (count : ℕ) : Type 0 where
    pub web : Graph
    pub next : ℕ → ℕ
    pub four : ℕ → Bool
    pub walks : ℕ → List ℕ
    pub track : IsTrack g edges web next four walks
    pub less : count_below web.nodes four < count

  better_step : (web : Graph) (next : ℕ → ℕ) (four : ℕ → Bool) → IsGround g.nodes web next four → (a b : ℕ) (walks : ℕ → List ℕ) → IsStep g edges web next four a b walks → Better (count_below web.nodes four)
  better_step web next four ground a b walks step =
      let r = passes_can_be_relinked g.nodes web next four ground a b step.may in
      record { web = r.0; next = r.1; four = r.2; walks = walks; track = step.leaves r.0 r.1 r.2 r.3; less = let c = r.3.count in omega (arith, c) }

  better_double : (web : Graph) (next : ℕ → ℕ) (four : ℕ → Bool) → IsGround g.nodes web next four → (a b c d : ℕ) (walks : ℕ → List ℕ) → IsDoubleStep g edges web next four a b c d walks →
      Better (count_below web.nodes four)
  better_double web next four ground a b c d walks step =
      let r = passes_can_be_relinked g.nodes web next four ground a b step.may in
      let q = passes_can_be_relinked g.nodes r.0 r.1 r.2 r.3.ground c d (step.may_then r.0 r.1 r.2 r.3) in
      record {
        web = q.0;
        next = q.1;
        four = q.2;
        walks = walks;
        track = step.leaves r.0 q.0 r.1 q.1 r.2 q.2 r.3 q.3;
        less = let one = r.3.count in let two = q.3.count in omega (arith, one, two);
      }

  module _ (web : Graph) (next : ℕ → ℕ) (four : ℕ → Bool) (walks : ℕ → List ℕ) (track : IsTrack g edges web next four walks) where
    abbrev inner : ℕ → List ℕ
    inner e = passed web.ends (walks e)

    abbrev better : Type 0
    better = Better (count_below web.nodes four)

    long : (e : ℕ) → has edges e ≡ true → length (walks e) ≡ suc (length (inner e))
    long e e_in = size_is g edges web next four walks is_graph track e e_in

    node_is : (e : ℕ) → has edges e ≡ true → (i : ℕ) → i < length (inner e) → (suc i < length (walks e)) × (node_after web.ends (walks e) i ≡ at (inner e) i)
    node_is e e_in i i_in =
        let size = long e e_in in
        let more : suc i < length (walks e) = omega (arith, i_in, size) in
        (more, sym (passed_at web.ends (walks e) i more))

    itself_or : (e : ℕ) → has edges e ≡ true → IsDistinct nat_eq (inner e) ⊎ better
    itself_or e e_in = elim (distinct_or_twice (inner e)) [
      | inl distinct ↦ inl distinct
      | inr two ↦
          let first = node_is e e_in two.0 (omega (arith, two.2, two.3)) in
          let second = node_is e e_in two.1 two.3 in
          inr (better_step web next four track.ground _ _ _
          (closed_parts_are_cut_off g edges web next four walks is_graph track e two.0 two.1 e_in two.2 second.0 (first.1 ∙ two.4 ∙ sym second.1)))
    ]

    -- the position in the turned walk
    turned_at : (f : ℕ) (f_in : has edges f ≡ true) (t : Bool) (i : ℕ) → suc i < length (walks f) →
        (j : ℕ) × (suc j < length (turned_walk t (walks f))) × (node_after web.ends (turned_walk t (walks f)) j ≡ node_after web.ends (walks f) i) × ((t ≡ true → j + suc (suc i) ≡ length (walks f)) × (t ≡ false → j ≡ i))
    turned_at f f_in false i i_in = (i, i_in, refl, (λ h. absurd (both_ways false refl h), λ h. refl))
    turned_at f f_in true i i_in =
        let ds = walks f in
        let j = length ds - suc (suc i) in
        let sum : suc j + suc i ≡ length ds = omega (arith, i_in) in
        let size = length-reverse_walk ds in
        let p : EdgePath g web next four f false ds = edge_path g edges web next four walks is_graph track f f_in false in
        let seam = path_seam (length web.ends) (PassesTo g.nodes web next four) p.from p.to ds p.path i i_in in (
          j,
          omega (arith, sum, size),
          ap (tail_of web.ends) (at-reverse_walk ds (suc j) i sum) ∙ sym seam.one_node,
          (λ h. omega (arith, sum), λ h. absurd (both_ways _ h refl)),
        )

    apart_or : (e f : ℕ) → has edges e ≡ true → has edges f ≡ true →
        ((v : ℕ) → has (inner e) v ≡ true → e ≢ f → has (inner f) v ≡ true → Independent g.ends e f) ⊎ better
    apart_or e f e_in f_in = elim (cases_eq e f) [
      | inl same ↦ inl (λ v one differ two. absurd (differ same))
      | inr differ ↦ elim (cases_Bool (independent g.ends e f)) [
        | inl free ↦ inl (λ v one other two. free)
        | inr bound ↦ all_or (λ v. e ≢ f → has (inner f) v ≡ true → Independent g.ends e f) better (inner e) (λ v one. elim (cases_Bool (has (inner f) v)) [
          | inr never ↦ inl (λ other two. absurd (both_ways _ never two))
          | inl two ↦
              let c = common_end g.ends e f bound in
              let i = place_of (inner e) v one in
              let j = place_of (inner f) v two in
              let first = node_is e e_in i.0 i.1 in
              let second = node_is f f_in j.0 j.1 in
              let x = turned_at e e_in c.0 i.0 first.0 in
              let y = turned_at f f_in c.1 j.0 second.0 in
              inr (better_step web next four track.ground _ _ _
              (beginnings_are_exchanged g edges web next four walks is_graph track e f x.0 y.0 c.0 c.1 e_in f_in differ c.2 x.1 y.1
              (x.2 ∙ first.1 ∙ i.2 ∙ sym j.2 ∙ sym second.1 ∙ sym y.2)))
        ])
      ]
    ]

    -- two nodes that both walks pass, the first earlier on the first walk
    middles : (e f : ℕ) → has edges e ≡ true → has edges f ≡ true → e ≢ f → (i k j l : ℕ) → i < k → suc k < length (walks e) → suc j < length (walks f) → suc l < length (walks f) →
        node_after web.ends (walks e) i ≡ node_after web.ends (walks f) j → node_after web.ends (walks e) k ≡ node_after web.ends (walks f) l →
        node_after web.ends (walks e) i ≢ node_after web.ends (walks e) k → better
    middles e f e_in f_in differ i k j l low k_in j_in l_in one two apart = elim (cases_order j l) [
      | inl same ↦ absurd (apart (one ∙ ap (node_after web.ends (walks f)) same ∙ sym two))
      | inr (inl before) ↦ better_double web next four track.ground _ _ _ _ _
          (middles_are_exchanged g edges web next four walks is_graph track e f i j k l false e_in f_in differ low k_in before l_in one two apart)
      | inr (inr past) ↦
          let x = turned_at f f_in true j j_in in
          let y = turned_at f f_in true l l_in in
          let x_sum = x.3.0 refl in
          let y_sum = y.3.0 refl in
          better_double web next four track.ground _ _ _ _ _
          (middles_are_exchanged g edges web next four walks is_graph track e f i x.0 k y.0 true e_in f_in differ low k_in (omega (arith, x_sum, y_sum, past)) y.1 (one ∙ sym x.2) (two ∙ sym y.2) apart)
    ]

    one_or : (e f : ℕ) → has edges e ≡ true → has edges f ≡ true →
        ((u : ℕ) → has (inner e) u ≡ true → (v : ℕ) → has (inner e) v ≡ true → e ≢ f → has (inner f) u ≡ true → has (inner f) v ≡ true → u ≡ v) ⊎ better
    one_or e f e_in f_in = elim (cases_eq e f) [
      | inl same ↦ inl (λ u u_in v v_in differ a b. absurd (differ same))
      | inr differ ↦ all_or (λ u. (v : ℕ) → has (inner e) v ≡ true → e ≢ f → has (inner f) u ≡ true → has (inner f) v ≡ true → u ≡ v) better (inner e) (λ u u_in.
          all_or (λ v. e ≢ f → has (inner f) u ≡ true → has (inner f) v ≡ true → u ≡ v) better (inner e) (λ v v_in. elim (cases_eq u v) [
            | inl same ↦ inl (λ other a b. same)
            | inr apart ↦ elim (cases_Bool (has (inner f) u)) [
              | inr never ↦ inl (λ other a b. absurd (both_ways _ never a))
              | inl u_too ↦ elim (cases_Bool (has (inner f) v)) [
                | inr never ↦ inl (λ other a b. absurd (both_ways _ never b))
                | inl v_too ↦
                    let i = place_of (inner e) u u_in in
                    let k = place_of (inner e) v v_in in
                    let j = place_of (inner f) u u_too in
                    let l = place_of (inner f) v v_too in
                    let i_node = node_is e e_in i.0 i.1 in
                    let k_node = node_is e e_in k.0 k.1 in
                    let j_node = node_is f f_in j.0 j.1 in
                    let l_node = node_is f f_in l.0 l.1 in
                    let at_u : node_after web.ends (walks e) i.0 ≡ node_after web.ends (walks f) j.0 = i_node.1 ∙ i.2 ∙ sym j.2 ∙ sym j_node.1 in
                    let at_v : node_after web.ends (walks e) k.0 ≡ node_after web.ends (walks f) l.0 = k_node.1 ∙ k.2 ∙ sym l.2 ∙ sym l_node.1 in
                    let two : node_after web.ends (walks e) i.0 ≢ node_after web.ends (walks e) k.0 = λ same. apart (sym i.2 ∙ sym i_node.1 ∙ same ∙ k_node.1 ∙ k.2) in
                    inr (elim (cases_order i.0 k.0) [
                      | inl same ↦ absurd (two (ap (node_after web.ends (walks e)) same))
                      | inr (inl before) ↦ middles e f e_in f_in differ i.0 k.0 j.0 l.0 before k_node.0 j_node.0 l_node.0 at_u at_v two
                      | inr (inr past) ↦ middles e f e_in f_in differ k.0 i.0 l.0 j.0 past i_node.0 l_node.0 j_node.0 at_v at_u (λ same. two (sym same))
                    ])
              ]
            ]
          ]))
    ]

    -- the walks meet simply, or there is a step
    pub simple_or_better : MeetSimply g edges web.ends walks ⊎ better
    simple_or_better = elim (all_or (λ e. IsDistinct nat_eq (inner e)) better edges itself_or) [
      | inr b ↦ inr b
      | inl itself ↦ elim (all_or (λ e. (f : ℕ) → has edges f ≡ true → (v : ℕ) → has (inner e) v ≡ true → e ≢ f → has (inner f) v ≡ true → Independent g.ends e f) better edges
          (λ e e_in. all_or (λ f. (v : ℕ) → has (inner e) v ≡ true → e ≢ f → has (inner f) v ≡ true → Independent g.ends e f) better edges (λ f f_in. apart_or e f e_in f_in))) [
            | inr b ↦ inr b
            | inl apart ↦ elim (all_or (λ e. (f : ℕ) → has edges f ≡ true → (u : ℕ) → has (inner e) u ≡ true → (v : ℕ) → has (inner e) v ≡ true → e ≢ f → has (inner f) u ≡ true → has (inner f) v ≡ true → u ≡ v) better edges
                (λ e e_in. all_or (λ f. (u : ℕ) → has (inner e) u ≡ true → (v : ℕ) → has (inner e) v ≡ true → e ≢ f → has (inner f) u ≡ true → has (inner f) v ≡ true → u ≡ v) better edges (λ f f_in. one_or e f e_in f_in))) [
                  | inr b ↦ inr b
                  | inl one ↦ inl (record {
                    itself = itself;
                    apart = λ e f v e_in f_in differ a b. apart e e_in f f_in v a differ b;
                    one = λ e f u v e_in f_in differ a b c d. one e e_in f f_in u a v c differ b d;
                  })
                ]
          ]
    ]

  drawn_simply : (count : ℕ) (web : Graph) (next : ℕ → ℕ) (four : ℕ → Bool) (walks : ℕ → List ℕ) → IsTrack g edges web next four walks → MeetSimply g edges web.ends walks →
      count_below web.nodes four ≤ count → HasDrawingOf g edges count
  drawn_simply count web next four walks track meet low =
      let d = tracks_that_meet_simply_are_drawings g edges web next four walks is_graph track meet in
      (order_along edges web.ends walks, d.0, d.1, omega (arith, d.2, low))

  pub drawn_within : (count : ℕ) (web : Graph) (next : ℕ → ℕ) (four : ℕ → Bool) (walks : ℕ → List ℕ) → IsTrack g edges web next four walks →
      count_below web.nodes four ≤ count → HasDrawingOf g edges count
  drawn_within zero web next four walks track low = elim (simple_or_better web next four walks track) [
    | inl meet ↦ drawn_simply zero web next four walks track meet low
    | inr b ↦ let less = b.less in absurd (omega (arith, less, low))
  ]
  drawn_within (suc count) web next four walks track low = elim (simple_or_better web next four walks track) [
    | inl meet ↦ drawn_simply (suc count) web next four walks track meet low
    | inr b ↦
        let less = b.less in
        let d = drawn_within count b.web b.next b.four b.walks b.track (omega (arith, less, low)) in
        (d.0, d.1, d.2, let few = d.3 in omega (arith, few))
  ]

pub tracks_give_drawings : TracksGiveDrawings
tracks_give_drawings g edges web next four walks is_graph track = drawn_within g edges is_graph (count_below web.nodes four) web next four walks track (omega arith)

pub loose_drawings_give_drawings : LooseDrawingsGiveDrawings
loose_drawings_give_drawings g edges further web next walks loose =
    let t = loose_drawings_are_tracks g edges further web next walks loose in
    let d = tracks_give_drawings g edges web next t.0 walks loose.is_graph t.1 in
    (d.0, d.1, d.2, let few = t.2 in let less = d.3 in omega (arith, few, less))

-- a drawing of all edges is one of the graph
pub all_edges_drawn : (g : Graph) (most : ℕ) → HasDrawingOf g (edges_of g) most → IsSimplyAtMost g most
all_edges_drawn g most d = (
  crossing_count g d.0,
  (d.0, d.1, record { orders = d.2.orders; is_flat_map = d.2.is_flat_map; crosses = d.2.crosses }, refl),
  d.3,
)

pub loose_drawings_give_simple_ones : LooseDrawingsGiveSimpleOnes
loose_drawings_give_simple_ones g further web next walks loose =
    all_edges_drawn g further (loose_drawings_give_drawings g (edges_of g) further web next walks loose)
