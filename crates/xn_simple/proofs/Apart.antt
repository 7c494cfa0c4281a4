-- A map whose further nodes come apart: what it keeps of the map that it was.
use Rattle.std.proofs.Common.{◌≡◌, ◌≢◌, ℕ, suc, ◌*◌, ◌<◌, ◌≤◌, ◌⊎◌, inl, inr, Bool, true, false, not, ◌&&◌, eqb, length, refl, sym, ◌∙◌, ap, arith}
use Rattle.std.proofs.lemmas.Bool.{and_parts, both_ways, cases_Bool, cases_eq, cond-true, cond-false, eq-eqb, eqb-true, eqb-false, not-true}
use Rattle.xn_model.specs.Graph.{Graph}
use Rattle.xn_model.specs.Map.{IsMap, tail_of}
use Rattle.xn_track.specs.Track.{IsGround}
use Rattle.xn_track.proofs.Relink.{a_to_b, after_far, at_node, c_to_d, fewer, fewer_far, is_split, split_ends, split_turns, tail_a, tail_c, tail_far}
use Rattle.xn_general.proofs.Touch.{IsKept}
use Rattle.xn_simple.specs.Loosened.{ComesFrom}

-- at a node that is named each dart stands where it stood
pub named : (n : ℕ) (web : Graph) (next : ℕ → ℕ) (more : Graph) (after : ℕ → ℕ) (four : ℕ → Bool) → ComesFrom n web next more after four →
    (d v : ℕ) → d < 2 * length web.ends → four v ≡ true → tail_of more.ends d ≡ v → tail_of web.ends d ≡ v
named n web next more after four k d v d_in holds at_v = elim (k.tails d d_in) [
  | inl same ↦ sym same ∙ at_v
  | inr new ↦ let low = k.old v holds in absurd (omega (arith, low, new.0, at_v))
]

pub named_from : (n : ℕ) (web : Graph) (next : ℕ → ℕ) (more : Graph) (after : ℕ → ℕ) (four : ℕ → Bool) → ComesFrom n web next more after four →
    (d v : ℕ) → d < 2 * length web.ends → four v ≡ true → tail_of web.ends d ≡ v → tail_of more.ends d ≡ v
named_from n web next more after four k d v d_in holds at_v = elim (k.tails d d_in) [
  | inl same ↦ same ∙ at_v
  | inr new ↦ absurd (both_ways _ (ap four (sym at_v) ∙ new.2) holds)
]

-- one more node comes apart
module _ (n : ℕ) (web : Graph) (next : ℕ → ℕ) (more : Graph) (after : ℕ → ℕ) (four : ℕ → Bool) (ground : IsGround n more after four) (a : ℕ)
    (a_in : a < 2 * length more.ends) (holds : four (tail_of more.ends a) ≡ true) (k : ComesFrom n web next more after four) where
  abbrev v : ℕ
  v = tail_of more.ends a

  abbrev c : ℕ
  c = after (after a)

  abbrev last : Graph
  last = record { nodes = suc more.nodes; ends = split_ends n more after four ground a a_in holds }

  abbrev turn : ℕ → ℕ
  turn = split_turns n more after four ground a a_in holds

  abbrev few : ℕ → Bool
  few = fewer n more after four ground a a_in holds

  the_map : IsMap more.nodes more.ends after
  the_map = ground.is_flat_map.is_map

  there : (x : ℕ) → x < 2 * length web.ends → x < 2 * length more.ends
  there x x_in = let size = k.size in omega (arith, x_in, size)

  back : (x : ℕ) → x < 2 * length more.ends → x < 2 * length web.ends
  back x x_in = let size = k.size in omega (arith, x_in, size)

  near : (x : ℕ) → x < 2 * length web.ends → tail_of web.ends x ≡ v → tail_of more.ends x ≡ v
  near x x_in = named_from n web next more after four k x v x_in holds

  far : (x : ℕ) → x < 2 * length web.ends → tail_of web.ends x ≢ v → tail_of more.ends x ≢ v
  far x x_in other same = other (named n web next more after four k x v x_in holds same)

  -- the darts of the node turn as they did
  as_before : (x : ℕ) → x < 2 * length more.ends → tail_of more.ends x ≡ v → after x ≡ next x
  as_before x x_in at_v =
      let x_old = back x x_in in
      k.turns x x_old (inr (ap four (named n web next more after four k x v x_old holds at_v) ∙ holds))

  round : (x : ℕ) → x < 2 * length more.ends → tail_of more.ends x ≡ v → (after x < 2 * length more.ends) × (tail_of more.ends (after x) ≡ v)
  round x x_in at_v = (the_map.permutes.below x x_in, the_map.same_node x x_in ∙ at_v)

  few_here : few v ≡ false
  few_here = rw (eq-eqb v v refl) (and-false (four v))
    where
      and-false : (x : Bool) → (x && false) ≡ false
      and-false true = refl
      and-false false = refl

  few_parts : (w : ℕ) → few w ≡ true → (four w ≡ true) × (w ≢ v)
  few_parts w h =
      let parts : (four w ≡ true) × (not (eqb w v) ≡ true) = and_parts _ _ h in
      (parts.0, eqb-false w v (not-true _ parts.1))

  tails_now : (x : ℕ) → x < 2 * length web.ends →
      (tail_of last.ends x ≡ tail_of web.ends x) ⊎ ((web.nodes ≤ tail_of last.ends x) × (n ≤ tail_of web.ends x) × (few (tail_of web.ends x) ≡ false))
  tails_now x x_in =
      let split = is_split n more after four ground a a_in holds in
      let x_there = there x x_in in
      elim (cases_eq (tail_of web.ends x) v) [
        | inr other ↦
            let same = tail_far n more after four ground a a_in holds last.ends turn split x x_there (far x x_in other) in
            elim (k.tails x x_in) [
              | inl is ↦ inl (same ∙ is)
              | inr new ↦ inr (omega (arith, same, new.0), new.1, fewer_far n more after four ground a a_in holds _ other ∙ new.2)
            ]
        | inl at_v ↦
            let at_new = tail_a n more after four ground a a_in holds last.ends turn split in
            let at_old = tail_c n more after four ground a a_in holds last.ends turn split in
            let high = (ground.further v holds).0 in
            let nodes = k.nodes in
            let moved : tail_of last.ends x ≡ more.nodes → (tail_of last.ends x ≡ tail_of web.ends x) ⊎ ((web.nodes ≤ tail_of last.ends x) × (n ≤ tail_of web.ends x) × (few (tail_of web.ends x) ≡ false)) =
            λ new. inr (omega (arith, new, nodes), omega (arith, high, at_v), ap few at_v ∙ few_here) in
            elim (at_node n more after four ground a a_in holds x x_there (near x x_in at_v)) [
              | inl is ↦ moved (ap (tail_of last.ends) is ∙ at_new)
              | inr (inl is) ↦ moved (ap (tail_of last.ends) is ∙ (a_to_b n more after four ground a a_in holds last.ends turn split).one_node ∙ at_new)
              | inr (inr (inl is)) ↦ inl (ap (tail_of last.ends) is ∙ at_old ∙ sym at_v)
              | inr (inr (inr is)) ↦ inl (ap (tail_of last.ends) is ∙ (c_to_d n more after four ground a a_in holds last.ends turn split).one_node ∙ at_old ∙ sym at_v)
            ]
      ]

  far_turn : (x : ℕ) → x < 2 * length web.ends → tail_of web.ends x ≢ v → turn x ≡ after x
  far_turn x x_in other = after_far n more after four ground a a_in holds last.ends turn (is_split n more after four ground a a_in holds) x (there x x_in) (far x x_in other)

  turns_now : (x : ℕ) → x < 2 * length web.ends → (tail_of web.ends x < n) ⊎ (few (tail_of web.ends x) ≡ true) → turn x ≡ next x
  turns_now x x_in (inl low) =
      let high = (ground.further v holds).0 in
      far_turn x x_in (λ same. omega (arith, high, low, same)) ∙ k.turns x x_in (inl low)
  turns_now x x_in (inr h) =
      let parts = few_parts (tail_of web.ends x) h in
      far_turn x x_in parts.1 ∙ k.turns x x_in (inr parts.0)

  bends_here : (x : ℕ) → x < 2 * length more.ends → tail_of more.ends x ≡ v → (turn x ≡ next x) ⊎ (next (turn x) ≡ x)
  bends_here x x_in at_v = elim (cases_Bool (eqb (after x) a)) [
    | inl to_a ↦
        let is_a : after x ≡ a = eqb-true _ _ to_a in
        let on : turn x ≡ c = cond-true _ _ _ to_a in
        let b = round a a_in refl in
        let at_c = round (after a) b.0 b.1 in
        let again = (ground.crossing x x_in (ap four at_v ∙ holds)).1 in
        inr (ap next on ∙ sym (as_before c at_c.0 at_c.1) ∙ ap (λ z. after (after (after z))) (sym is_a) ∙ again)
    | inr not_a ↦ elim (cases_Bool (eqb (after x) c)) [
      | inl to_c ↦
          let on : turn x ≡ a = cond-false _ _ _ not_a ∙ cond-true _ _ _ to_c in
          let b = round a a_in refl in
          let is_b : x ≡ after a = the_map.permutes.apart x (after a) x_in b.0 (eqb-true _ _ to_c) in
          inr (ap next on ∙ sym (as_before a a_in refl) ∙ sym is_b)
      | inr not_c ↦ inl (cond-false _ _ _ not_a ∙ cond-false _ _ _ not_c ∙ as_before x x_in at_v)
    ]
  ]

  bends_now : (x : ℕ) → x < 2 * length web.ends → n ≤ tail_of web.ends x → few (tail_of web.ends x) ≡ false → (turn x ≡ next x) ⊎ (next (turn x) ≡ x)
  bends_now x x_in high fails = elim (cases_eq (tail_of web.ends x) v) [
    | inl at_v ↦ bends_here x (there x x_in) (near x x_in at_v)
    | inr other ↦
        let on = far_turn x x_in other in
        elim (k.bends x x_in high (sym (fewer_far n more after four ground a a_in holds _ other) ∙ fails)) [
          | inl is ↦ inl (on ∙ is)
          | inr is ↦ inr (ap next on ∙ is)
        ]
  ]

  pub comes_apart : ComesFrom n web next last turn few
  comes_apart = record {
    size = (is_split n more after four ground a a_in holds).all ∙ k.size;
    nodes = let low = k.nodes in omega (arith, low);
    old = λ w h. k.old w (few_parts w h).0;
    tails = tails_now;
    turns = turns_now;
    bends = bends_now;
  }

pub is_kept : (n : ℕ) (web : Graph) (next : ℕ → ℕ) → IsKept n (ComesFrom n web next)
is_kept n web next = λ more after four ground a a_in holds k. comes_apart n web next more after four ground a a_in holds k
