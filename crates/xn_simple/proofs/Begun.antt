-- The tangle of a loose drawing, and how many nodes of a tangle are named.
use Rattle.std.proofs.Common.{◌≡◌, ℕ, zero, suc, ◌+◌, ◌-◌, ◌*◌, ◌<◌, ◌≤◌, ◌⊎◌, inl, inr, Bool, true, false, eqb, List, [], ◌∷◌, length, refl, ◌∙◌, ap, subst, arith}
use Rattle.std.specs.List.{range_with_len}
use Rattle.std.proofs.lemmas.Bool.{and_from, both_ways, cases_Bool, cases_lt, eqb-true}
use Rattle.xn_model.specs.Graph.{Graph}
use Rattle.xn_model.specs.Lists.{at, has, one_if}
use Rattle.xn_model.specs.Loose.{WalksOnly}
use Rattle.xn_model.specs.Map.{tail_of}
use Rattle.xn_model.specs.Permutation.{count_below}
use Rattle.xn_model.proofs.Has.{has-filter, has-range}
use Rattle.xn_model.proofs.Tests.{same_tests}
use Rattle.xn_map.specs.Listed.{IsListedMap}
use Rattle.xn_map.specs.Marks.{is_marked}
use Rattle.xn_track.specs.Track.{IsTrack}
use Rattle.xn_track.proofs.Loose.{crossing_by_count, loose_drawings_are_tracks, none_below}
use Rattle.xn_track.proofs.Passes.{walk_in as dart_of_walk}
use Rattle.xn_insert.specs.ListedLoose.{IsLooseOf, ListedLoose, edges_in, has_dart, walk_of}
use Rattle.xn_simple.specs.Loosened.{ComesFrom}
use Rattle.xn_simple.specs.Tangle.{AreFurther, AreNotesOf, IsTangle, ListedTangle, WalksAreApart, named}
use Rattle.xn_simple.specs.Untangling.{named_count}
use Rattle.xn_simple.proofs.Tangled.{once_apart, walked_in}

-- what is counted is there
dart_there : (n : ℕ) (p : ℕ → Bool) → 0 < count_below n p → (d : ℕ) × (d < n) × (p d ≡ true)
dart_there zero p some = absurd (omega (arith, some))
dart_there (suc n) p some = elim (cases_Bool (p n)) [
  | inl here ↦ (n, omega arith, here)
  | inr fails ↦
      let last : one_if (p n) ≡ 0 = ap one_if fails in
      let rest = dart_there n p (omega (arith, some, last)) in
      (rest.0, omega (arith, rest.1), rest.2)
]

past_marked : (four : List Bool) (v : ℕ) → length four ≤ v → is_marked four v ≡ false
past_marked [] v past = refl
past_marked (x ∷ xs) zero past = absurd (omega (arith, past))
past_marked (x ∷ xs) (suc v) past = past_marked xs v (omega (arith, past))

past_walk : (walks : List (List ℕ)) (e : ℕ) → length walks ≤ e → walk_of walks e ≡ []
past_walk [] e past = refl
past_walk (w ∷ ws) zero past = absurd (omega (arith, past))
past_walk (w ∷ ws) (suc e) past = past_walk ws e (omega (arith, past))

no_dart : (ds : List ℕ) → has_dart ds ≡ false → ds ≡ []
no_dart [] none = refl
no_dart (d ∷ ds) none = absurd (both_ways true none refl)

-- an edge that isn't in has no walk
pub none_out : (l : ListedLoose) → WalksOnly (edges_in l) (walk_of l.walks)
none_out l e out = elim (cases_lt e (length l.walks)) [
  | inr past ↦ past_walk l.walks e past
  | inl low ↦ elim (cases_Bool (has_dart (walk_of l.walks e))) [
    | inr none ↦ no_dart (walk_of l.walks e) none
    | inl some ↦
        let is = has-filter (λ x. has_dart (walk_of l.walks x)) (range_with_len 0 (length l.walks)) e in
        absurd (both_ways _ out (is ∙ and_from (has_dart (walk_of l.walks e)) (has (range_with_len 0 (length l.walks)) e) some (has-range 0 (length l.walks) e (omega arith) (omega (arith, low)))))
  ]
]

module _ (g : Graph) (l : ListedLoose) (loose : IsLooseOf g l) (four : List Bool) (further : AreFurther g.nodes l.map.web.nodes four) where
  abbrev edges : List ℕ
  edges = edges_in l

  abbrev next : ℕ → ℕ
  next = at l.map.next

  abbrev walks : ℕ → List ℕ
  walks = walk_of l.walks

  abbrev first : ℕ → Bool
  first = (loose_drawings_are_tracks g edges loose.further l.map.web next walks loose.loose).0

  first_track : IsTrack g edges l.map.web next first walks
  first_track = (loose_drawings_are_tracks g edges loose.further l.map.web next walks loose.loose).1

  to_mark : (v : ℕ) → first v ≡ true → is_marked four v ≡ true
  to_mark v h = let f = first_track.ground.further v h in further.high v f.0 f.1

  -- a further node has a dart, which doesn't bend
  from_mark : (v : ℕ) → is_marked four v ≡ true → first v ≡ true
  from_mark v h = elim (cases_lt v g.nodes) [
    | inl low ↦ absurd (both_ways _ (further.low v low) h)
    | inr high ↦ elim (cases_lt v l.map.web.nodes) [
      | inr past ↦ let fits = further.fits in absurd (both_ways _ (past_marked four v (omega (arith, fits, past))) h)
      | inl v_in ↦ elim (cases_Bool (first v)) [
        | inl holds ↦ holds
        | inr fails ↦
            let count = loose.loose.four v high v_in in
            let d = dart_there (2 * length l.map.web.ends) (λ x. eqb (tail_of l.map.web.ends x) v) (omega (arith, count)) in
            let at_v : tail_of l.map.web.ends d.0 ≡ v = eqb-true _ _ d.2 in
            let bend = first_track.ground.bend d.0 d.1 (omega (arith, high, at_v)) (ap first at_v ∙ fails) in
            let apart = crossing_by_count l.map.web.nodes l.map.web.ends next loose.loose.is_flat_map.is_map d.0 d.1
            (loose.loose.four (tail_of l.map.web.ends d.0) (omega (arith, high, at_v)) (omega (arith, v_in, at_v))) in
            absurd (apart.0 bend.1)
      ]
    ]
  ]

  marks_are : first ≡ is_marked four
  marks_are = λ i v. same_tests (first v) (is_marked four v) (to_mark v) (from_mark v) i

  pub track : IsTrack g edges l.map.web next (is_marked four) walks
  track = subst (λ f. IsTrack g edges l.map.web next f walks) marks_are first_track

  -- the map comes from itself
  itself : ComesFrom g.nodes l.map.web next l.map.web next (is_marked four)
  itself = record {
    size = refl;
    nodes = omega arith;
    old = λ v h. (track.ground.further v h).1;
    tails = λ d d_in. inl refl;
    turns = λ d d_in where_it. refl;
    bends = λ d d_in high fails. inl refl;
  }

  pub apart : length g.ends ≤ 1000 → WalksAreApart (length l.map.web.ends) l.walks
  apart few = record {
    few = let lists = loose.lists in omega (arith, few, lists);
    below = λ e i i_in. dart_of_walk l.map.web.ends _ _ (walks e) (track.lead e (walked_in edges walks (none_out l) e i i_in)) i i_in;
    apart = once_apart edges walks track.once (none_out l);
  }

  pub begun : IsListedMap l.map → (owners places : List ℕ) → AreNotesOf (length l.map.web.ends) l.walks owners places →
      IsTangle g (record { map = l.map; edges = edges; walks = l.walks; four = four; owners = owners; places = places })
  begun is_map owners places notes = record {
    is_graph = loose.loose.is_graph;
    is_map = is_map;
    nodes_in = track.ground.nodes_in;
    lists = loose.lists;
    marks = further.fits;
    owners_fit = notes.owners_fit;
    places_fit = notes.places_fit;
    loosened = record { more = l.map.web; after = next; comes = itself; track = track };
    only = none_out l;
    notes = notes.held;
  }

-- named nodes are further ones
pub named_few : (g : Graph) (t : ListedTangle) → IsTangle g t → g.nodes + named_count t ≤ t.map.web.nodes
named_few g t tangle =
    let c = t.map.web.nodes - g.nodes in
    let low = tangle.nodes_in in
    let sum : g.nodes + c ≡ t.map.web.nodes = omega (arith, low) in
    let none : (v : ℕ) → v < g.nodes → named t v ≡ false = λ v v_low. below v v_low (cases_Bool (named t v)) in
    let few = none_below g.nodes c (named t) none in
    let same = ap (λ n. count_below n (named t)) sum in
    omega (arith, few, same, sum)
  where
    below : (v : ℕ) → v < g.nodes → (named t v ≡ true) ⊎ (named t v ≡ false) → named t v ≡ false
    below v v_low (inr fails) = fails
    below v v_low (inl holds) = let high = (tangle.loosened.track.ground.further v holds).0 in absurd (omega (arith, v_low, high))
