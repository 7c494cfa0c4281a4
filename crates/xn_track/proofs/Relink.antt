-- A node with four darts comes apart into two with two darts each.
use Rattle.std.proofs.Common.{◌≡◌, ◌≢◌, ℕ, zero, suc, ◌+◌, ◌*◌, ◌<◌, ◌≤◌, ◌⊎◌, inl, inr, Bool, true, false, not, ◌&&◌, ◌||◌, cond, eqb, List, length, map, refl, sym, ◌∙◌, ap, subst, arith}
use Rattle.std.specs.List.{range_with_len}
use Rattle.std.proofs.lemmas.Bool.{and_parts, both_ways, cases_Bool, cases_eq, cond-true, cond-false, eq-eqb, ne_eqb, or_left, or_right}
use Rattle.std.proofs.lemmas.List.{get_or_default, length-map}
use Rattle.std.proofs.lemmas.List.FromFn.{length-range_with_len, get_or-range_with_len}
use Rattle.std.proofs.Math.ListN.{get_or-map}
use Rattle.xn_model.specs.Graph.{Graph, ends_at}
use Rattle.xn_model.specs.Lists.{one_if}
use Rattle.xn_model.specs.Map.{IsMap, tail_of}
use Rattle.xn_model.specs.Permutation.{count_below, iterate}
use Rattle.xn_model.proofs.Darts.{cases_dart, tail-even, tail-odd}
use Rattle.xn_ring.proofs.Counting.{count-differs}
use Rattle.xn_surgery.specs.Splitting.{InArc, IsSplit}
use Rattle.xn_surgery.proofs.Split.{flat_split, map_split}
use Rattle.xn_track.specs.Relinking.{ComesApartAt, EverySplitRelinks, IsRelinked, PassesTo, MayBeRelinked, PassesCanBeRelinked}
use Rattle.xn_track.specs.Track.{IsGround}

-- ---- segments by the tails of their darts

abbrev pub ends_by : (ℕ → ℕ) → ℕ → List (ℕ × ℕ)
ends_by t count = map (λ s. (t (2 * s), t (2 * s + 1))) (range_with_len 0 count)

pub ends_by-length : (t : ℕ → ℕ) (count : ℕ) → length (ends_by t count) ≡ count
ends_by-length t count = length-map (range_with_len 0 count) (λ s. (t (2 * s), t (2 * s + 1))) ∙ length-range_with_len 0 count

pub ends_by-tail : (t : ℕ → ℕ) (count d : ℕ) → d < 2 * count → tail_of (ends_by t count) d ≡ t d
ends_by-tail t count d d_in =
    let f : ℕ → ℕ × ℕ = λ s. (t (2 * s), t (2 * s + 1)) in
    let c = cases_dart d in
    let s_in : c.0 < count = omega (arith, d_in, c.1) in
    let long = ends_by-length t count in
    let zero_s : 0 + c.0 ≡ c.0 = omega arith in
    let here : ends_at (ends_by t count) c.0 ≡ f c.0 =
    get_or_default (map f (range_with_len 0 count)) c.0 (0, 0) (f 0) (omega (arith, s_in, long)) ∙ get_or-map f (range_with_len 0 count) c.0 0
    ∙ ap f (get_or-range_with_len 0 count c.0 0 s_in ∙ zero_s) in
    elim c.1 [
      | inl even ↦ ap (tail_of (ends_by t count)) even ∙ tail-even (ends_by t count) c.0 ∙ ap (λ p. p.0) here ∙ ap t (sym even)
      | inr odd ↦ ap (tail_of (ends_by t count)) odd ∙ tail-odd (ends_by t count) c.0 ∙ ap (λ p. p.1) here ∙ ap t (sym odd)
    ]

-- what leads there leads back
pub leads_back : (nodes : ℕ) (web : Graph) (next : ℕ → ℕ) (four : ℕ → Bool) → IsGround nodes web next four → (x y : ℕ) → PassesTo nodes web next four x y → PassesTo nodes web next four y x
leads_back nodes web next four ground x y l = record {
  x_in = l.y_in;
  y_in = l.x_in;
  high = omega (arith, l.high, l.one_node);
  one_node = sym l.one_node;
  goes = elim (cases_Bool (four (tail_of web.ends x))) [
    | inl holds ↦
        let on : next (next x) ≡ y = sym (cond-true _ _ _ holds) ∙ l.goes in
        cond-true _ _ _ (ap four l.one_node ∙ holds) ∙ ap (λ z. next (next z)) (sym on) ∙ (ground.crossing x l.x_in holds).1
    | inr fails ↦
        let on : next x ≡ y = sym (cond-false _ _ _ fails) ∙ l.goes in
        cond-false _ _ _ (ap four l.one_node ∙ fails) ∙ ap next (sym on) ∙ (ground.bend x l.x_in l.high fails).1
  ];
}

module _ (nodes : ℕ) (web : Graph) (next : ℕ → ℕ) (four : ℕ → Bool) (ground : IsGround nodes web next four) (a : ℕ) (a_in : a < 2 * length web.ends)
    (holds : four (tail_of web.ends a) ≡ true) where
  abbrev the_map : IsMap web.nodes web.ends next
  the_map = ground.is_flat_map.is_map

  abbrev n : ℕ
  n = 2 * length web.ends

  abbrev v : ℕ
  v = tail_of web.ends a

  abbrev b : ℕ
  b = next a

  abbrev c : ℕ
  c = next (next a)

  abbrev d : ℕ
  d = next (next (next a))

  d_a : next d ≡ a
  d_a = (ground.crossing a a_in holds).1

  b_in : b < n
  b_in = the_map.permutes.below a a_in

  c_in : c < n
  c_in = the_map.permutes.below b b_in

  d_in : d < n
  d_in = the_map.permutes.below c c_in

  at_b : tail_of web.ends b ≡ v
  at_b = the_map.same_node a a_in

  at_c : tail_of web.ends c ≡ v
  at_c = the_map.same_node b b_in ∙ at_b

  at_d : tail_of web.ends d ≡ v
  at_d = the_map.same_node c c_in ∙ at_c

  ca : c ≢ a
  ca = (ground.crossing a a_in holds).0

  ba : b ≢ a
  ba same = ca (ap next same ∙ same)

  cb : c ≢ b
  cb same = ba (the_map.permutes.apart b a b_in a_in same)

  dc : d ≢ c
  dc same = cb (the_map.permutes.apart c b c_in b_in same)

  db : d ≢ b
  db same = ca (the_map.permutes.apart c a c_in a_in same)

  da : d ≢ a
  da same = ba (ap next (sym same) ∙ d_a)

  -- the darts of the node
  orbit : (k : ℕ) → (iterate next k a ≡ a) ⊎ ((iterate next k a ≡ b) ⊎ ((iterate next k a ≡ c) ⊎ (iterate next k a ≡ d)))
  orbit zero = inl refl
  orbit (suc k) = elim (orbit k) [
    | inl at ↦ inr (inl (ap next at))
    | inr (inl at) ↦ inr (inr (inl (ap next at)))
    | inr (inr (inl at)) ↦ inr (inr (inr (ap next at)))
    | inr (inr (inr at)) ↦ inl (ap next at ∙ d_a)
  ]

  pub at_node : (x : ℕ) → x < n → tail_of web.ends x ≡ v → (x ≡ a) ⊎ ((x ≡ b) ⊎ ((x ≡ c) ⊎ (x ≡ d)))
  at_node x x_in at =
      let there = the_map.one_ring a x a_in x_in (sym at) in
      elim (orbit there.0) [
        | inl is ↦ inl (sym there.1 ∙ is)
        | inr (inl is) ↦ inr (inl (sym there.1 ∙ is))
        | inr (inr (inl is)) ↦ inr (inr (inl (sym there.1 ∙ is)))
        | inr (inr (inr is)) ↦ inr (inr (inr (sym there.1 ∙ is)))
      ]

  -- what turns to a is the last
  pub before : (x : ℕ) → x < n → next x ≡ a → x ≡ d
  before x x_in on = the_map.permutes.apart x d x_in d_in (on ∙ sym d_a)

  -- a and b are the darts from a up to c
  moves : (x i : ℕ) → iterate next i a ≡ x → ((l : ℕ) → l ≤ i → iterate next l a ≢ c) → (x ≡ a) ⊎ (x ≡ b)
  moves x zero at before = inl (sym at)
  moves x (suc zero) at before = inr (sym at)
  moves x (suc (suc i)) at before = absurd (before 2 (omega arith) refl)

  moved : (x : ℕ) → (x ≡ a) ⊎ (x ≡ b) → InArc next a c x
  moved x (inl is) = (0, sym is, λ l low there. ca (sym there ∙ ap (λ k. iterate next k a) (none l low)))
    where
      none : (l : ℕ) → l ≤ 0 → l ≡ 0
      none l low = omega (arith, low)
  moved x (inr is) = (
    1,
    sym is,
    λ l low there. elim (cases_eq l 0) [
      | inl first ↦ ca (sym there ∙ ap (λ k. iterate next k a) first)
      | inr second ↦ let one : l ≡ 1 = omega (arith, low, second) in cb (sym there ∙ ap (λ k. iterate next k a) one)
    ],
  )

  v_facts : (nodes ≤ v) × (v < web.nodes)
  v_facts = ground.further v holds

  abbrev pub fewer : ℕ → Bool
  fewer w = four w && not (eqb w v)

  four_last : four web.nodes ≡ false
  four_last = elim (cases_Bool (four web.nodes)) [ inr fails ↦ fails | inl at ↦ let facts = ground.further web.nodes at in absurd (omega (arith, facts.1)) ]

  fewer_here : fewer v ≡ false
  fewer_here = rw (eq-eqb v v refl) (and-false (four v))
    where
      and-false : (x : Bool) → (x && false) ≡ false
      and-false true = refl
      and-false false = refl

  fewer_last : fewer web.nodes ≡ false
  fewer_last = rw four_last refl

  pub fewer_far : (w : ℕ) → w ≢ v → fewer w ≡ four w
  fewer_far w far = rw (ne_eqb w v far) (and-true (four w))
    where
      and-true : (x : Bool) → (x && true) ≡ x
      and-true true = refl
      and-true false = refl

  pub fewer_count : count_below web.nodes four ≡ suc (count_below (suc web.nodes) fewer)
  fewer_count =
      let one = count-differs web.nodes four fewer v v_facts.1 holds fewer_here (λ w w_in far. sym (fewer_far w far)) in
      let last : one_if (fewer web.nodes) ≡ 0 = ap one_if fewer_last in
      omega (arith, one, last)

  -- ---- such a split

  abbrev t : ℕ → ℕ
  t x = cond (eqb x a || eqb x b) web.nodes (tail_of web.ends x)

  abbrev pub split_ends : List (ℕ × ℕ)
  split_ends = ends_by t (length web.ends)

  abbrev pub split_turns : ℕ → ℕ
  split_turns x = cond (eqb (next x) a) c (cond (eqb (next x) c) a (next x))

  pub is_split : IsSplit web.nodes web.ends next a c split_ends split_turns
  is_split = record {
    first_in = a_in;
    second_in = c_in;
    differ = λ same. ca (sym same);
    one_node = sym at_c;
    all = ends_by-length t (length web.ends);
    moved = λ x x_in arc.
        let test : (eqb x a || eqb x b) ≡ true = elim (moves x arc.0 arc.1 arc.2) [ inl here ↦ or_left _ _ (eq-eqb x a here) | inr here ↦ or_right (eqb x a) _ (eq-eqb x b here) ] in
        ends_by-tail t (length web.ends) x x_in ∙ cond-true _ _ _ test;
    stayed = λ x x_in out.
        let test : (eqb x a || eqb x b) ≡ false = rw (ne_eqb x a (λ is. out (moved x (inl is)))) (ne_eqb x b (λ is. out (moved x (inr is)))) in
        ends_by-tail t (length web.ends) x x_in ∙ cond-false _ _ _ test;
    turns = λ x x_in. refl;
  }

  -- ---- what each such split leaves

  module _ (split_to : List (ℕ × ℕ)) (after : ℕ → ℕ) (split : IsSplit web.nodes web.ends next a (next (next a)) split_to after) where
    abbrev more : Graph
    more = record { nodes = suc web.nodes; ends = split_to }

    pub all : length split_to ≡ length web.ends
    all = split.all

    tail_new : (x : ℕ) → x < n → (x ≡ a) ⊎ (x ≡ b) → tail_of more.ends x ≡ web.nodes
    tail_new x x_in is = split.moved x x_in (moved x is)

    tail_old : (x : ℕ) → x < n → x ≢ a → x ≢ b → tail_of more.ends x ≡ tail_of web.ends x
    tail_old x x_in not_a not_b = split.stayed x x_in (λ arc. elim (moves x arc.0 arc.1 arc.2) [ inl is ↦ not_a is | inr is ↦ not_b is ])

    pub tail_far : (x : ℕ) → x < n → tail_of web.ends x ≢ v → tail_of more.ends x ≡ tail_of web.ends x
    tail_far x x_in far = tail_old x x_in (λ same. far (ap (tail_of web.ends) same)) (λ same. far (ap (tail_of web.ends) same ∙ at_b))

    after_a : after a ≡ b
    after_a = split.turns a a_in ∙ cond-false _ _ _ (ne_eqb b a ba) ∙ cond-false _ _ _ (ne_eqb b c (λ same. cb (sym same)))

    after_b : after b ≡ a
    after_b = split.turns b b_in ∙ cond-false _ _ _ (ne_eqb c a ca) ∙ cond-true _ _ _ (eq-eqb c c refl)

    after_c : after c ≡ d
    after_c = split.turns c c_in ∙ cond-false _ _ _ (ne_eqb d a da) ∙ cond-false _ _ _ (ne_eqb d c dc)

    after_d : after d ≡ c
    after_d = split.turns d d_in ∙ cond-true _ _ _ (eq-eqb (next d) a d_a)

    pub after_far : (x : ℕ) → x < n → tail_of web.ends x ≢ v → after x ≡ next x
    after_far x x_in far =
        let on = the_map.same_node x x_in in
        split.turns x x_in ∙ cond-false _ _ _ (ne_eqb (next x) a (λ same. far (sym on ∙ ap (tail_of web.ends) same)))
        ∙ cond-false _ _ _ (ne_eqb (next x) c (λ same. far (sym on ∙ ap (tail_of web.ends) same ∙ at_c)))

    far_on : (x : ℕ) → x < n → tail_of web.ends x ≢ v → (next x < n) × (tail_of web.ends (next x) ≢ v)
    far_on x x_in far = (the_map.permutes.below x x_in, λ same. far (sym (the_map.same_node x x_in) ∙ same))

    new_map : IsMap (suc web.nodes) more.ends after
    new_map = map_split web.nodes a c web.ends more.ends next after the_map split

    old : (x : ℕ) → x < 2 * length more.ends → x < n
    old x x_in = omega (arith, x_in, all)

    -- a dart at a node that is still crossed lies elsewhere
    still_far : (x : ℕ) → x < n → fewer (tail_of more.ends x) ≡ true → tail_of web.ends x ≢ v
    still_far x x_in at near = elim (at_node x x_in near) [
      | inl is ↦ both_ways _ fewer_last (ap fewer (sym (tail_new x x_in (inl is))) ∙ at)
      | inr (inl is) ↦ both_ways _ fewer_last (ap fewer (sym (tail_new x x_in (inr is))) ∙ at)
      | inr (inr (inl is)) ↦ both_ways _ fewer_here (ap fewer (sym (tail_old x x_in (λ e. ca (sym is ∙ e)) (λ e. cb (sym is ∙ e)) ∙ near)) ∙ at)
      | inr (inr (inr is)) ↦ both_ways _ fewer_here (ap fewer (sym (tail_old x x_in (λ e. da (sym is ∙ e)) (λ e. db (sym is ∙ e)) ∙ near)) ∙ at)
    ]

    pub new_ground : IsGround nodes more after fewer
    new_ground = record {
      nodes_in = let low = ground.nodes_in in omega (arith, low);
      is_flat_map = record { is_map = new_map; flat = flat_split web.nodes a c web.ends more.ends next after the_map split ground.is_flat_map.flat };
      further = λ w at.
          let parts : (four w ≡ true) × (not (eqb w v) ≡ true) = and_parts _ _ at in
          let facts = ground.further w parts.0 in
          (facts.0, omega (arith, facts.1));
      crossing = λ x x_in at.
          let x_old = old x x_in in
          let far = still_far x x_old at in
          let four_at : four (tail_of web.ends x) ≡ true = sym (fewer_far (tail_of web.ends x) far) ∙ ap fewer (sym (tail_far x x_old far)) ∙ at in
          let facts = ground.crossing x x_old four_at in
          let one = after_far x x_old far in
          let far_one = far_on x x_old far in
          let two = ap after one ∙ after_far (next x) far_one.0 far_one.1 in
          let far_two = far_on (next x) far_one.0 far_one.1 in
          let three = ap after two ∙ after_far (next (next x)) far_two.0 far_two.1 in
          let far_three = far_on (next (next x)) far_two.0 far_two.1 in
          let all_four = ap after three ∙ after_far (next (next (next x))) far_three.0 far_three.1 in
          (λ same. facts.0 (sym two ∙ same), all_four ∙ facts.1);
      bend = λ x x_in high at.
          let x_old = old x x_in in
          elim (cases_eq (tail_of web.ends x) v) [
            | inl near ↦ elim (at_node x x_old near) [
              | inl is ↦ (λ e. ba (sym after_a ∙ ap after (sym is) ∙ e ∙ is), ap (λ z. after (after z)) is ∙ ap after after_a ∙ after_b ∙ sym is)
              | inr (inl is) ↦ (λ e. ba (sym (sym after_b ∙ ap after (sym is) ∙ e ∙ is)), ap (λ z. after (after z)) is ∙ ap after after_b ∙ after_a ∙ sym is)
              | inr (inr (inl is)) ↦ (λ e. dc (sym after_c ∙ ap after (sym is) ∙ e ∙ is), ap (λ z. after (after z)) is ∙ ap after after_c ∙ after_d ∙ sym is)
              | inr (inr (inr is)) ↦ (λ e. dc (sym (sym after_d ∙ ap after (sym is) ∙ e ∙ is)), ap (λ z. after (after z)) is ∙ ap after after_d ∙ after_c ∙ sym is)
            ]
            | inr far ↦
                let same_tail = tail_far x x_old far in
                let four_at : four (tail_of web.ends x) ≡ false = sym (fewer_far (tail_of web.ends x) far) ∙ ap fewer (sym same_tail) ∙ at in
                let facts = ground.bend x x_old (omega (arith, high, same_tail)) four_at in
                let one = after_far x x_old far in
                let far_one = far_on x x_old far in
                (λ same. facts.0 (sym one ∙ same), ap after one ∙ after_far (next x) far_one.0 far_one.1 ∙ facts.1)
          ];
    }

    pub tail_a : tail_of more.ends a ≡ web.nodes
    tail_a = tail_new a a_in (inl refl)

    pub tail_c : tail_of more.ends c ≡ v
    tail_c = tail_old c c_in ca cb ∙ at_c

    pub a_to_b : PassesTo nodes more after fewer a b
    a_to_b = record {
      x_in = omega (arith, a_in, all);
      y_in = omega (arith, b_in, all);
      high = let low = ground.nodes_in in omega (arith, low, tail_a);
      one_node = tail_new b b_in (inr refl) ∙ sym tail_a;
      goes = cond-false _ _ _ (ap fewer tail_a ∙ fewer_last) ∙ after_a;
    }

    pub c_to_d : PassesTo nodes more after fewer c d
    c_to_d = record {
      x_in = omega (arith, c_in, all);
      y_in = omega (arith, d_in, all);
      high = let low = v_facts in omega (arith, low.0, tail_c);
      one_node = tail_old d d_in da db ∙ at_d ∙ sym tail_c;
      goes = cond-false _ _ _ (ap fewer tail_c ∙ fewer_here) ∙ after_c;
    }

    pub b_to_a : PassesTo nodes more after fewer b a
    b_to_a = leads_back nodes more after fewer new_ground a b a_to_b

    pub d_to_c : PassesTo nodes more after fewer d c
    d_to_c = leads_back nodes more after fewer new_ground c d c_to_d

    pub others : (x y : ℕ) → PassesTo nodes web next four x y → tail_of web.ends x ≢ v → PassesTo nodes more after fewer x y
    others x y l far =
        let x_tail = tail_far x l.x_in far in
        let y_tail = tail_far y l.y_in (λ same. far (sym l.one_node ∙ same)) in
        record {
          x_in = omega (arith, l.x_in, all);
          y_in = omega (arith, l.y_in, all);
          high = omega (arith, l.high, x_tail);
          one_node = y_tail ∙ l.one_node ∙ sym x_tail;
          goes = elim (cases_Bool (four (tail_of web.ends x))) [
            | inl at ↦
                let far_one = far_on x l.x_in far in
                cond-true _ _ _ (ap fewer x_tail ∙ fewer_far _ far ∙ at) ∙ ap after (after_far x l.x_in far) ∙ after_far (next x) far_one.0 far_one.1 ∙ sym (cond-true _ _ _ at) ∙ l.goes
            | inr fails ↦ cond-false _ _ _ (ap fewer x_tail ∙ fewer_far _ far ∙ fails) ∙ after_far x l.x_in far ∙ sym (cond-false _ _ _ fails) ∙ l.goes
          ];
        }

pub every_split_relinks : EverySplitRelinks
every_split_relinks nodes web next four ground a b may x (inl here) ends after split =
    let holds = may.holds in
    let it : IsSplit web.nodes web.ends next a (next (next a)) ends after = subst (λ k. IsSplit web.nodes web.ends next k (next (next k)) ends after) here.0 split in
    let L = PassesTo nodes (record { nodes = suc web.nodes; ends = ends }) after (fewer nodes web next four ground a may.a_in holds) in
    let b_is : b ≡ next (next (next a)) = before nodes web next four ground a may.a_in holds b may.b_in here.1 in
    -- b is the third after a: it leads to a as a does to the dart between
    record {
      x = a;
      y = next (next a);
      split = it;
      one_more = refl;
      but_this = λ v. refl;
      ground = new_ground nodes web next four ground a may.a_in holds ends after it;
      from_a = subst (λ z. L a z) (sym (ap next here.1)) (a_to_b nodes web next four ground a may.a_in holds ends after it);
      from_b = subst (λ z. L z (next (next a))) (sym b_is) (d_to_c nodes web next four ground a may.a_in holds ends after it);
      others = others nodes web next four ground a may.a_in holds ends after it;
      tails = tail_far nodes web next four ground a may.a_in holds ends after it;
      count = fewer_count nodes web next four ground a may.a_in holds;
    }
every_split_relinks nodes web next four ground a b may x (inr here) ends after split =
    let one_node = may.one_node in
    let holds : four (tail_of web.ends b) ≡ true = ap four (sym one_node) ∙ may.holds in
    let it : IsSplit web.nodes web.ends next b (next (next b)) ends after = subst (λ k. IsSplit web.nodes web.ends next k (next (next k)) ends after) here.0 split in
    let fewest = fewer nodes web next four ground b may.b_in holds in
    let more : Graph = record { nodes = suc web.nodes; ends = ends } in
    let a_is : a ≡ next (next (next b)) = before nodes web next four ground b may.b_in holds a may.a_in here.1 in
    let at_b : IsRelinked nodes web next four a b more after fewest = record {
      x = b;
      y = next (next b);
      split = it;
      one_more = refl;
      but_this = λ v. ap (λ z. four v && not (eqb v z)) (sym one_node);
      ground = new_ground nodes web next four ground b may.b_in holds ends after it;
      from_a = subst (λ z. PassesTo nodes more after fewest z (next (next b))) (sym a_is) (d_to_c nodes web next four ground b may.b_in holds ends after it);
      from_b = subst (λ z. PassesTo nodes more after fewest b z) (sym (ap next here.1)) (a_to_b nodes web next four ground b may.b_in holds ends after it);
      others = λ c d l far. others nodes web next four ground b may.b_in holds ends after it c d l (λ same. far (same ∙ sym one_node));
      tails = λ d d_in far. tail_far nodes web next four ground b may.b_in holds ends after it d d_in (λ same. far (same ∙ sym one_node));
      count = fewer_count nodes web next four ground b may.b_in holds;
    } in
    subst (λ v. IsRelinked nodes web next four a b more after (λ w. four w && not (eqb w v))) (sym one_node) at_b

-- one of two passes comes next after the other
pub comes_apart : (nodes : ℕ) (web : Graph) (next : ℕ → ℕ) (four : ℕ → Bool) → IsGround nodes web next four → (a b : ℕ) → MayBeRelinked web next four a b → (x : ℕ) × ComesApartAt next a b x
comes_apart nodes web next four ground a b may = elim (at_node nodes web next four ground a may.a_in may.holds b may.b_in (sym may.one_node)) [
  | inl is ↦ absurd (may.differ (sym is))
  | inr (inl is) ↦ (b, inr (refl, sym is))
  | inr (inr (inl is)) ↦ absurd (may.other (sym is))
  | inr (inr (inr is)) ↦ (a, inl (refl, ap next is ∙ (ground.crossing a may.a_in may.holds).1))
]

pub passes_can_be_relinked : PassesCanBeRelinked
passes_can_be_relinked nodes web next four ground a b may =
    let at = comes_apart nodes web next four ground a b may in
    elim at.1 [
      | inl here ↦ (
        record { nodes = suc web.nodes; ends = split_ends nodes web next four ground a may.a_in may.holds },
        split_turns nodes web next four ground a may.a_in may.holds,
        _,
        every_split_relinks nodes web next four ground a b may a (inl (refl, here.1)) _ _ (is_split nodes web next four ground a may.a_in may.holds),
      )
      | inr here ↦
          let holds : four (tail_of web.ends b) ≡ true = ap four (sym may.one_node) ∙ may.holds in (
            record { nodes = suc web.nodes; ends = split_ends nodes web next four ground b may.b_in holds },
            split_turns nodes web next four ground b may.b_in holds,
            _,
            every_split_relinks nodes web next four ground a b may b (inr (refl, here.1)) _ _ (is_split nodes web next four ground b may.b_in holds),
          )
    ]
