-- What holds of walks over a map while they are untangled: which passes a named node has.
use Rattle.std.proofs.Common.{◌≡◌, ◌≢◌, ℕ, suc, ◌+◌, ◌*◌, ◌/◌, ◌<◌, ◌≤◌, ◌⊎◌, inl, inr, Bool, true, Option, Some, None, List, length, refl, sym, ◌∙◌, ap, subst, arith}
use Rattle.std.specs.List.{flat_map}
use Rattle.std.proofs.lemmas.Bool.{cases_Bool, cond-true}
use Rattle.xn_model.specs.Graph.{Graph}
use Rattle.xn_model.specs.Lists.{at, has}
use Rattle.xn_model.specs.Loose.{WalksOnly, times_walked}
use Rattle.xn_model.specs.Map.{reverse_of, tail_of}
use Rattle.xn_model.proofs.Darts.{reverse-reverse, reverse_below, reverse_other}
use Rattle.xn_genus.proofs.Compress.{half_reverse}
use Rattle.xn_track.specs.Track.{IsTrack, straight_on}
use Rattle.xn_track.proofs.Blocks.{at_place, blocks_apart, place, place_in, size_of}
use Rattle.xn_track.proofs.Passes.{goes_at, walk_in as dart_of_walk, walk_seam, walked_apart}
use Rattle.xn_track.proofs.Relink.{at_node}
use Rattle.xn_simple.specs.Loosened.{ComesFrom}
use Rattle.xn_simple.specs.Tangle.{GoesOver, IsOther, IsPassOver, IsTangle, ListedTangle, MeetAt, named as is_named, node_in, pass_of, walk_in}
use Rattle.xn_simple.specs.declared.tangle.Pass.{Pass}
use Rattle.xn_simple.proofs.Apart.{named, named_from}

-- an edge with a dart is in
pub walked_in : (edges : List ℕ) (walks : ℕ → List ℕ) → WalksOnly edges walks → (e i : ℕ) → i < length (walks e) → has edges e ≡ true
walked_in edges walks only e i i_in = elim (cases_Bool (has edges e)) [
  | inl is ↦ is
  | inr out ↦ let none = ap length (only e out) in absurd (omega (arith, i_in, none))
]

-- no segment is walked twice
pub once_apart : (edges : List ℕ) (walks : ℕ → List ℕ) → ((s : ℕ) → times_walked s (flat_map walks edges) ≤ 1) → WalksOnly edges walks → (e f i j : ℕ) →
    i < length (walks e) → j < length (walks f) → at (walks e) i / 2 ≡ at (walks f) j / 2 → (e ≡ f) × (i ≡ j)
once_apart edges walks once only e f i j i_in j_in same =
    let e_in = walked_in edges walks only e i i_in in
    let f_in = walked_in edges walks only f j j_in in
    let one = at_place walks edges e i 0 e_in i_in in
    let two = at_place walks edges f j 0 f_in j_in in
    let one_place = walked_apart (flat_map walks edges) once _ _ (place_in walks edges e i e_in i_in) (place_in walks edges f j f_in j_in)
    (ap (λ d. d / 2) one ∙ same ∙ ap (λ d. d / 2) (sym two)) in
    let edge = blocks_apart walks edges e f i j e_in f_in i_in j_in one_place in
    (edge, placed e f edge i j one_place)
  where
    placed : (e f : ℕ) → e ≡ f → (i j : ℕ) → place (size_of walks) edges e + i ≡ place (size_of walks) edges f + j → i ≡ j
    placed e f edge i j same = let one = ap (place (size_of walks) edges) edge in omega (arith, one, same)

module _ (g : Graph) (t : ListedTangle) (tangle : IsTangle g t) where
  abbrev ends : List (ℕ × ℕ)
  ends = t.map.web.ends

  abbrev next : ℕ → ℕ
  next = at t.map.next

  abbrev more : Graph
  more = tangle.loosened.more

  abbrev after : ℕ → ℕ
  after = tangle.loosened.after

  abbrev four : ℕ → Bool
  four = is_named t

  abbrev walks : ℕ → List ℕ
  walks = walk_in t

  abbrev comes : ComesFrom g.nodes t.map.web next more after four
  comes = tangle.loosened.comes

  abbrev track : IsTrack g t.edges more after four walks
  track = tangle.loosened.track

  pub edge_in : (e i : ℕ) → i < length (walks e) → has t.edges e ≡ true
  edge_in = walked_in t.edges walks tangle.only

  pub dart_in : (e i : ℕ) → i < length (walks e) → at (walks e) i < 2 * length ends
  dart_in e i i_in =
      let low = dart_of_walk more.ends _ _ (walks e) (track.lead e (edge_in e i i_in)) i i_in in
      let size = comes.size in
      omega (arith, low, size)

  pub segments_apart : (e f i j : ℕ) → i < length (walks e) → j < length (walks f) → at (walks e) i / 2 ≡ at (walks f) j / 2 → (e ≡ f) × (i ≡ j)
  segments_apart = once_apart t.edges walks track.once tangle.only

  -- at a named node both darts of a pass stand in either map
  pub record Stands (d v : ℕ) : Type 0 where
    pub d_in : d < 2 * length ends
    pub here : tail_of ends d ≡ v
    pub there : tail_of more.ends d ≡ v

  leaves : (e i v : ℕ) → suc i < length (walks e) → four v ≡ true → node_in t e i ≡ v → Stands (at (walks e) (suc i)) v
  leaves e i v i_in holds at_v =
      let low = dart_in e (suc i) i_in in
      record { d_in = low; here = at_v; there = named_from g.nodes t.map.web next more after four comes (at (walks e) (suc i)) v low holds at_v }

  pub arrives : (e i v : ℕ) → suc i < length (walks e) → four v ≡ true → node_in t e i ≡ v → Stands (reverse_of (at (walks e) i)) v
  arrives e i v i_in holds at_v =
      let e_in = edge_in e (suc i) i_in in
      let low = reverse_below (length ends) (at (walks e) i) (dart_in e i (omega (arith, i_in))) in
      let out = leaves e i v i_in holds at_v in
      let there = walk_seam more.ends _ _ (walks e) (track.lead e e_in) i i_in ∙ out.there in
      record { d_in = low; here = named g.nodes t.map.web next more after four comes _ v low holds there; there = there }

  -- round a named node the maps agree
  turns_as : (d v : ℕ) → four v ≡ true → Stands d v → after d ≡ next d
  turns_as d v holds s = comes.turns d s.d_in (inr (ap four s.here ∙ holds))

  turned : (d v : ℕ) → four v ≡ true → Stands d v → Stands (after d) v
  turned d v holds s =
      let size = comes.size in
      let low : d < 2 * length more.ends = let l = s.d_in in omega (arith, l, size) in
      let new = track.ground.is_flat_map.is_map.permutes.below d low in
      let new_in : after d < 2 * length ends = omega (arith, new, size) in
      let there = track.ground.is_flat_map.is_map.same_node d low ∙ s.there in
      record { d_in = new_in; here = named g.nodes t.map.web next more after four comes (after d) v new_in holds there; there = there }

  -- a pass goes straight on
  straight : (e i v : ℕ) → suc i < length (walks e) → four v ≡ true → node_in t e i ≡ v → after (after (reverse_of (at (walks e) i))) ≡ at (walks e) (suc i)
  straight e i v i_in holds at_v =
      let e_in = edge_in e (suc i) i_in in
      let on = goes_at g.nodes more.ends (straight_on more.ends four after) (walks e) (track.straight e e_in) i i_in in
      let s = arrives e i v i_in holds at_v in
      let b = reverse_of (at (walks e) i) in
      sym (cond-true (four (tail_of more.ends b)) (after (after b)) (after b) (ap four s.there ∙ holds)) ∙ on.1

  -- another pass goes over the dart that comes next after the one by which this one leaves
  pub only_other : (e i f j v : ℕ) → suc i < length (walks e) → suc j < length (walks f) → four v ≡ true → node_in t e i ≡ v → node_in t f j ≡ v →
      ((f ≡ e) × (j ≡ i)) ⊎ GoesOver (walks f) j (next (at (walks e) (suc i)))
  only_other e i f j v i_in j_in holds at_e at_f =
      let a = at (walks e) (suc i) in
      let x = at (walks f) (suc j) in
      let b = reverse_of (at (walks e) i) in
      let y = reverse_of (at (walks f) j) in
      let s = leaves e i v i_in holds at_e in
      let z = leaves f j v j_in holds at_f in
      let size = comes.size in
      let in_more : (d : ℕ) → d < 2 * length ends → d < 2 * length more.ends = λ d d_in. omega (arith, d_in, size) in
      let the_map = track.ground.is_flat_map.is_map in
      let on : after a ≡ next a = turns_as a v holds s in
      elim (at_node g.nodes more after four track.ground a (in_more a s.d_in) (ap four s.there ∙ holds) x (in_more x z.d_in) (z.there ∙ sym s.there)) [
        | inl same ↦ let both = segments_apart f e (suc j) (suc i) j_in i_in (ap (λ d. d / 2) same) in inl (both.0, let k = both.1 in omega (arith, k))
        | inr (inl is) ↦ inr (inl (is ∙ on))
        | inr (inr (inl is)) ↦
            let from = arrives e i v i_in holds at_e in
            let back : after (after a) ≡ b =
            ap (λ d. after (after d)) (sym (straight e i v i_in holds at_e)) ∙ (track.ground.crossing b (in_more b from.d_in) (ap four from.there ∙ holds)).1 in
            let is_b : x ≡ b = is ∙ back in
            let both = segments_apart f e (suc j) i j_in (omega (arith, i_in)) (ap (λ d. d / 2) is_b ∙ half_reverse (at (walks e) i)) in
            absurd (reverse_other (at (walks e) i) (sym is_b ∙ ap (λ h. at (walks h) (suc j)) both.0 ∙ ap (at (walks e)) both.1))
        | inr (inr (inr is)) ↦
            let from = arrives f j v j_in holds at_f in
            let y_on = turned y v holds from in
            let a_on = turned a v holds s in
            let a_two = turned (after a) v holds a_on in
            let one : after y ≡ after (after a) = the_map.permutes.apart (after y) (after (after a)) (in_more _ y_on.d_in) (in_more _ a_two.d_in) (straight f j v j_in holds at_f ∙ is) in
            let two : y ≡ after a = the_map.permutes.apart y (after a) (in_more y from.d_in) (in_more _ a_on.d_in) one in
            inr (inr (sym (reverse-reverse (at (walks f) j)) ∙ ap reverse_of (two ∙ on)))
      ]

  -- ---- the pass over a dart, by its note

  -- the dart that comes next is at the node
  pub side_in : (e i v : ℕ) → suc i < length (walks e) → four v ≡ true → node_in t e i ≡ v → (next (at (walks e) (suc i)) < 2 * length ends) × (tail_of ends (next (at (walks e) (suc i))) ≡ v)
  side_in e i v i_in holds at_v =
      let s = leaves e i v i_in holds at_v in
      let z = turned (at (walks e) (suc i)) v holds s in
      let S : ℕ → Type 0 = λ d. (d < 2 * length ends) × (tail_of ends d ≡ v) in
      subst S (turns_as (at (walks e) (suc i)) v holds s) (z.d_in, z.here)

  -- what is known of a dart's note where a walk goes over it
  pub noted : (f j d : ℕ) → suc j < length (walks f) → GoesOver (walks f) j d →
      (at t.owners (d / 2) ≡ f) × (((at (walks f) (suc j) ≡ d) × (at t.places (d / 2) ≡ suc j)) ⊎ ((at (walks f) j ≡ reverse_of d) × (at t.places (d / 2) ≡ j)))
  noted f j d j_in (inl is) =
      let n = tangle.notes f (suc j) j_in in
      let h : at (walks f) (suc j) / 2 ≡ d / 2 = ap (λ x. x / 2) is in
      (ap (at t.owners) (sym h) ∙ n.0, inl (is, ap (at t.places) (sym h) ∙ n.1))
  noted f j d j_in (inr is) =
      let n = tangle.notes f j (omega (arith, j_in)) in
      let h : at (walks f) j / 2 ≡ d / 2 = ap (λ x. x / 2) is ∙ half_reverse d in
      (ap (at t.owners) (sym h) ∙ n.0, inr (is, ap (at t.places) (sym h) ∙ n.1))

  -- ---- the other pass

  module _ (e i : ℕ) (i_in : suc i < length (walks e)) (holds : four (node_in t e i) ≡ true) (found : Option Pass)
      (over : IsPassOver t (next (at (walks e) (suc i))) found) where
    side : tail_of ends (next (at (walks e) (suc i))) ≡ node_in t e i
    side = (side_in e i (node_in t e i) i_in holds refl).1

    meets : (p : Pass) → found ≡ Some p → MeetAt t e i p.edge p.place
    meets p is = let s = over.sound p is in record { one_in = i_in; two_in = s.0; one_node = sym (s.1 ∙ side); holds = holds }

    all : (f j : ℕ) → MeetAt t e i f j → ((f ≡ e) × (j ≡ i)) ⊎ (found ≡ Some (pass_of f j))
    all f j m = elim (only_other e i f j (node_in t e i) i_in m.two_in holds refl (sym m.one_node)) [
      | inl same ↦ inl same
      | inr goes ↦ inr (over.all f j (m.two_in, sym m.one_node ∙ sym side) goes)
    ]

    pub other_none : found ≡ None → IsOther t e i None
    other_none is = record {
      meets = λ p none. cc;
      differs = λ p none. cc;
      only = λ f j m. elim (all f j m) [ inl same ↦ inl same | inr some ↦ absurd (no_pass (pass_of f j) (sym is ∙ some)) ];
    }
      where
        no_pass : (p : Pass) → None ≡ Some p → ⊥
        no_pass p none = cc

    pub other_same : (p : Pass) → found ≡ Some p → p.edge ≡ e → p.place ≡ i → IsOther t e i None
    other_same p is edge place = record {
      meets = λ q none. cc;
      differs = λ q none. cc;
      only = λ f j m. elim (all f j m) [
        | inl same ↦ inl same
        | inr some ↦
            let same : p ≡ pass_of f j = some_same p (pass_of f j) (sym is ∙ some) in
            inl (sym (ap (λ q. q.edge) same) ∙ edge, sym (ap (λ q. q.place) same) ∙ place)
      ];
    }
      where
        some_same : (p q : Pass) → Some p ≡ Some q → p ≡ q
        some_same p q same = cc

    pub other_some : (p : Pass) → found ≡ Some p → (p.edge ≡ e → p.place ≢ i) → IsOther t e i (Some p)
    other_some p is differs = subst (IsOther t e i) is (record {
      meets = meets;
      differs = λ q some edge. let same : p ≡ q = some_same p q (sym is ∙ some) in λ place. differs (ap (λ x. x.edge) same ∙ edge) (ap (λ x. x.place) same ∙ place);
      only = all;
    })
      where
        some_same : (p q : Pass) → Some p ≡ Some q → p ≡ q
        some_same p q same = cc
