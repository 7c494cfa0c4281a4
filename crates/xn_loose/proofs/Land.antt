-- A segment lands at the corner before a dart: what becomes of its node and of the walks.
use Rattle.std.proofs.Common.{◌≡◌, ◌≢◌, ℕ, zero, suc, ◌+◌, ◌*◌, ◌<◌, ◌≤◌, ◌⊎◌, inl, inr, Bool, true, false, ◌&&◌, ◌||◌, eqb, leb, length, refl, sym, ◌∙◌, ap, arith}
use Rattle.std.proofs.lemmas.Bool.{both_ways, cases_Bool, cases_eq, cond-true, cond-false, eq-eqb, le-leb, leb-true, ne_eqb}
use Rattle.xn_model.specs.Graph.{Graph}
use Rattle.xn_model.specs.Lists.{one_if}
use Rattle.xn_model.specs.Map.{IsMap, tail_of}
use Rattle.xn_model.specs.Permutation.{count_below, iterate}
use Rattle.xn_track.specs.Relinking.{PassesTo}
use Rattle.xn_track.specs.Track.{straight_on}

-- the map grows by a segment whose dart a stands before y
pub record Landing (n : ℕ) (web : Graph) (next : ℕ → ℕ) (y : ℕ) (more : Graph) (after now : ℕ → ℕ) (a : ℕ) : Type 0 where
  pub now_in : (x : ℕ) → x < 2 * length web.ends → now x < 2 * length more.ends
  pub now_apart : (x z : ℕ) → x < 2 * length web.ends → z < 2 * length web.ends → now x ≡ now z → x ≡ z
  pub a_in : a < 2 * length more.ends
  pub a_new : (x : ℕ) → x < 2 * length web.ends → now x ≢ a
  pub tails : (x : ℕ) → x < 2 * length web.ends → tail_of more.ends (now x) ≡ tail_of web.ends x
  pub tail_a : tail_of more.ends a ≡ tail_of web.ends y
  pub turns : (x : ℕ) → x < 2 * length web.ends → n ≤ tail_of web.ends x → next x ≢ y → after (now x) ≡ now (next x)
  pub turns_in : (x : ℕ) → x < 2 * length web.ends → next x ≡ y → after (now x) ≡ a
  pub turns_from : after a ≡ now y

-- the node of y has three darts, by b the new walk has come, and an old one passes between y and q
pub record At (n : ℕ) (web : Graph) (next : ℕ → ℕ) (y b q : ℕ) : Type 0 where
  pub high : n ≤ tail_of web.ends y
  pub b_in : b < 2 * length web.ends
  pub q_in : q < 2 * length web.ends
  pub to_b : next y ≡ b
  pub to_q : next b ≡ q
  pub to_y : next q ≡ y
  pub by : b ≢ y
  pub qy : q ≢ y
  pub bq : b ≢ q

-- a pass of a walk: straight on at other nodes, and between y and q
pub record Seam (n : ℕ) (web : Graph) (next : ℕ → ℕ) (four : ℕ → Bool) (y q x z : ℕ) : Type 0 where
  pub x_in : x < 2 * length web.ends
  pub z_in : z < 2 * length web.ends
  pub high : n ≤ tail_of web.ends x
  pub one_node : tail_of web.ends z ≡ tail_of web.ends x
  pub how : ((tail_of web.ends x ≢ tail_of web.ends y) × (straight_on web.ends four next x ≡ z)) ⊎ (((x ≡ y) × (z ≡ q)) ⊎ ((x ≡ q) × (z ≡ y)))

-- what a ground asks of one dart
pub record Fine (n : ℕ) (web : Graph) (next : ℕ → ℕ) (four : ℕ → Bool) (x : ℕ) : Type 0 where
  pub crossing : four (tail_of web.ends x) ≡ true → (next (next x) ≢ x) × (next (next (next (next x))) ≡ x)
  pub bend : n ≤ tail_of web.ends x → four (tail_of web.ends x) ≡ false → (next x ≢ x) × (next (next x) ≡ x)

abbrev pub also : (ℕ → Bool) → ℕ → ℕ → ℕ → Bool
also four n w v = four v || (leb n w && eqb v w)

pub also_other : (four : ℕ → Bool) (n w v : ℕ) → v ≢ w → also four n w v ≡ four v
also_other four n w v other = rw (ne_eqb v w other) (falls (leb n w) (four v))
  where
    falls : (a b : Bool) → (b || (a && false)) ≡ b
    falls true true = refl
    falls true false = refl
    falls false true = refl
    falls false false = refl

pub also_low : (four : ℕ → Bool) (n w v : ℕ) → w < n → also four n w v ≡ four v
also_low four n w v low = elim (cases_Bool (leb n w)) [
  | inl h ↦ let high = leb-true n w h in absurd (omega (arith, high, low))
  | inr h ↦ rw h (falls (four v))
]
  where
    falls : (b : Bool) → (b || false) ≡ b
    falls true = refl
    falls false = refl

pub also_here : (four : ℕ → Bool) (n w : ℕ) → n ≤ w → also four n w w ≡ true
also_here four n w high = rw (le-leb n w high, eq-eqb w w refl) (holds (four w))
  where
    holds : (b : Bool) → (b || true) ≡ true
    holds true = refl
    holds false = refl

pub also_parts : (four : ℕ → Bool) (n w v : ℕ) → also four n w v ≡ true → (four v ≡ true) ⊎ ((n ≤ w) × (v ≡ w))
also_parts four n w v h = elim (cases_Bool (four v)) [
  | inl yes_it ↦ inl yes_it
  | inr no_it ↦ elim (cases_eq v w) [
    | inr other ↦ absurd (both_ways _ no_it (sym (also_other four n w v other) ∙ h))
    | inl same ↦ elim (cases_Bool (leb n w)) [
      | inl high ↦ inr (leb-true n w high, same)
      | inr low ↦ absurd (both_ways false refl (sym (lost (four v) (leb n w) (eqb v w) no_it low) ∙ h))
    ]
  ]
]
  where
    lost : (a b c : Bool) → a ≡ false → b ≡ false → (a || (b && c)) ≡ false
    lost a b c one two = rw (one, two) refl

-- at most one node more
pub also_count : (four : ℕ → Bool) (n w : ℕ) (m : ℕ) → count_below m (also four n w) ≤ count_below m four + one_if (leb n w)
also_count four n w m = (bound m).0
  where
    bit : (a b c : Bool) → one_if (a || (b && c)) ≤ one_if a + one_if b
    bit true true c = omega arith
    bit true false c = omega arith
    bit false true true = omega arith
    bit false true false = omega arith
    bit false false c = omega arith

    bound : (m : ℕ) → (count_below m (also four n w) ≤ count_below m four + one_if (leb n w)) × (m ≤ w → count_below m (also four n w) ≡ count_below m four)
    bound zero = (omega arith, λ low. refl)
    bound (suc m) =
        let rest = bound m in
        elim (cases_eq m w) [
          | inl here ↦
              let before = rest.1 (omega (arith, here)) in
              let last = bit (four m) (leb n w) (eqb m w) in
              (omega (arith, before, last), λ low. absurd (omega (arith, here, low)))
          | inr other ↦
              let last : one_if (also four n w m) ≡ one_if (four m) = ap one_if (also_other four n w m other) in
              (let few = rest.0 in omega (arith, few, last), λ low. let same = rest.1 (omega (arith, low)) in omega (arith, same, last))
        ]

module _ (n : ℕ) (web : Graph) (next : ℕ → ℕ) (four : ℕ → Bool) (y b q : ℕ) (more : Graph) (after now : ℕ → ℕ) (a : ℕ) (map : IsMap web.nodes web.ends next)
    (land : Landing n web next y more after now a) (y_in : y < 2 * length web.ends) (further : (v : ℕ) → four v ≡ true → n ≤ v) (here : four (tail_of web.ends y) ≡ false)
    (fine : (x : ℕ) → x < 2 * length web.ends → tail_of web.ends x ≢ tail_of web.ends y → Fine n web next four x)
    (cursor : (tail_of web.ends y < n) ⊎ At n web next y b q) where
  abbrev w : ℕ
  w = tail_of web.ends y

  abbrev four' : ℕ → Bool
  four' = also four n (tail_of web.ends y)

  far_step : (x : ℕ) → x < 2 * length web.ends → n ≤ tail_of web.ends x → tail_of web.ends x ≢ w → (after (now x) ≡ now (next x)) × (next x < 2 * length web.ends)
      × (n ≤ tail_of web.ends (next x)) × (tail_of web.ends (next x) ≢ w)
  far_step x x_in high far =
      let on = map.same_node x x_in in (
        land.turns x x_in high (λ same. far (sym on ∙ ap (tail_of web.ends) same)),
        map.permutes.below x x_in,
        omega (arith, high, on),
        λ same. far (sym on ∙ same),
      )

  far_fine : (x : ℕ) → x < 2 * length web.ends → tail_of web.ends x ≢ w → Fine n more after four' (now x)
  far_fine x x_in far =
      let tail = land.tails x x_in in
      let old = fine x x_in far in
      let same : four' (tail_of more.ends (now x)) ≡ four (tail_of web.ends x) = ap four' tail ∙ also_other four n w (tail_of web.ends x) far in
      record {
        crossing = λ h.
            let four_it : four (tail_of web.ends x) ≡ true = sym same ∙ h in
            let facts = old.crossing four_it in
            let one = far_step x x_in (further _ four_it) far in
            let two = far_step (next x) one.1 one.2 one.3 in
            let three = far_step (next (next x)) two.1 two.2 two.3 in
            let last = far_step (next (next (next x))) three.1 three.2 three.3 in
            let at_two : after (after (now x)) ≡ now (next (next x)) = ap after one.0 ∙ two.0 in (
              λ back. facts.0 (land.now_apart _ _ two.1 x_in (sym at_two ∙ back)),
              ap (λ k. after (after k)) at_two ∙ ap after three.0 ∙ last.0 ∙ ap now facts.1,
            );
        bend = λ high h.
            let facts = old.bend (omega (arith, high, tail)) (sym same ∙ h) in
            let one = far_step x x_in (omega (arith, high, tail)) far in
            let two = far_step (next x) one.1 one.2 one.3 in
            (λ back. facts.0 (land.now_apart _ _ one.1 x_in (sym one.0 ∙ back)), ap after one.0 ∙ two.0 ∙ ap now facts.1);
      }

  -- the four darts of the node of y
  y_b : (at : At n web next y b q) → after (now y) ≡ now b
  y_b at = land.turns y y_in at.high (λ same. at.by (sym at.to_b ∙ same)) ∙ ap now at.to_b

  tail_b : (at : At n web next y b q) → tail_of web.ends b ≡ w
  tail_b at = ap (tail_of web.ends) (sym at.to_b) ∙ map.same_node y y_in

  tail_q : (at : At n web next y b q) → tail_of web.ends q ≡ w
  tail_q at = ap (tail_of web.ends) (sym at.to_q) ∙ map.same_node b at.b_in ∙ tail_b at

  b_q : (at : At n web next y b q) → after (now b) ≡ now q
  b_q at = land.turns b at.b_in (let high = at.high in let same = tail_b at in omega (arith, high, same)) (λ same. at.qy (sym at.to_q ∙ same)) ∙ ap now at.to_q

  q_a : (at : At n web next y b q) → after (now q) ≡ a
  q_a at = land.turns_in q at.q_in at.to_y

  orbit : (at : At n web next y b q) → (k : ℕ) → (iterate next k y ≡ y) ⊎ ((iterate next k y ≡ b) ⊎ (iterate next k y ≡ q))
  orbit at zero = inl refl
  orbit at (suc k) = elim (orbit at k) [ inl is ↦ inr (inl (ap next is ∙ at.to_b)) | inr (inl is) ↦ inr (inr (ap next is ∙ at.to_q)) | inr (inr is) ↦ inl (ap next is ∙ at.to_y) ]

  at_fine : (at : At n web next y b q) → (x' : ℕ) → tail_of more.ends x' ≡ w → (x' ≡ now y) ⊎ ((x' ≡ now b) ⊎ ((x' ≡ now q) ⊎ (x' ≡ a))) → Fine n more after four' x'
  at_fine at x' tail which =
      let yb = y_b at in
      let bq = b_q at in
      let qa = q_a at in
      let ay = land.turns_from in
      let round : (next_two : ℕ) → (after (after x') ≡ next_two) → next_two ≢ x' → (after (after next_two) ≡ x') → Fine n more after four' x' = λ t two other back. record {
        crossing = λ h. ((λ same. other (sym two ∙ same)), ap (λ k. after (after k)) two ∙ back);
        bend = λ high h. absurd (both_ways _ h (ap four' tail ∙ also_here four n w at.high));
      } in
      elim which [
        | inl is ↦ round (now q) (ap (λ k. after (after k)) is ∙ ap after yb ∙ bq) (λ e. at.qy (land.now_apart q y at.q_in y_in (e ∙ is))) (ap after qa ∙ ay ∙ sym is)
        | inr (inl is) ↦ round a (ap (λ k. after (after k)) is ∙ ap after bq ∙ qa) (λ e. land.a_new b at.b_in (sym is ∙ sym e)) (ap after ay ∙ yb ∙ sym is)
        | inr (inr (inl is)) ↦ round (now y) (ap (λ k. after (after k)) is ∙ ap after qa ∙ ay) (λ e. at.qy (land.now_apart q y at.q_in y_in (sym is ∙ sym e))) (ap after yb ∙ bq ∙ sym is)
        | inr (inr (inr is)) ↦ round (now b) (ap (λ k. after (after k)) is ∙ ap after ay ∙ yb) (λ e. land.a_new b at.b_in (e ∙ is)) (ap after bq ∙ qa ∙ sym is)
      ]

  -- a node of the graph needs nothing
  low_fine : w < n → (x' : ℕ) → tail_of more.ends x' ≡ w → Fine n more after four' x'
  low_fine low x' tail = record {
    crossing = λ h. absurd (both_ways _ here (sym (ap four' tail ∙ also_low four n w w low) ∙ h));
    bend = λ high h. absurd (omega (arith, high, tail, low));
  }

  pub old_fine : (x : ℕ) → x < 2 * length web.ends → Fine n more after four' (now x)
  old_fine x x_in = elim (cases_eq (tail_of web.ends x) w) [
    | inr far ↦ far_fine x x_in far
    | inl near ↦
        let tail = land.tails x x_in ∙ near in
        elim cursor [
          | inl low ↦ low_fine low (now x) tail
          | inr at ↦
              let there = map.one_ring y x y_in x_in (sym near) in
              at_fine at (now x) tail (elim (orbit at there.0) [
                | inl is ↦ inl (ap now (sym there.1 ∙ is))
                | inr (inl is) ↦ inr (inl (ap now (sym there.1 ∙ is)))
                | inr (inr is) ↦ inr (inr (inl (ap now (sym there.1 ∙ is))))
              ])
        ]
  ]

  pub new_fine : Fine n more after four' a
  new_fine = elim cursor [
    | inl low ↦ low_fine low a land.tail_a
    | inr at ↦ at_fine at a land.tail_a (inr (inr (inr refl)))
  ]

  -- old passes are straight now
  pub old_seam : (x z : ℕ) → Seam n web next four y q x z → PassesTo n more after four' (now x) (now z)
  old_seam x z s =
      let x_tail = land.tails x s.x_in in
      let z_tail = land.tails z s.z_in in
      record {
        x_in = land.now_in x s.x_in;
        y_in = land.now_in z s.z_in;
        high = let high = s.high in omega (arith, high, x_tail);
        one_node = z_tail ∙ s.one_node ∙ sym x_tail;
        goes = elim s.how [
          | inl far ↦
              let one = far_step x s.x_in s.high far.0 in
              let same : four' (tail_of more.ends (now x)) ≡ four (tail_of web.ends x) = ap four' x_tail ∙ also_other four n w (tail_of web.ends x) far.0 in
              elim (cases_Bool (four (tail_of web.ends x))) [
                | inl holds ↦
                    let two = far_step (next x) one.1 one.2 one.3 in
                    cond-true _ _ _ (same ∙ holds) ∙ ap after one.0 ∙ two.0 ∙ ap now (sym (cond-true _ _ _ holds) ∙ far.1)
                | inr fails ↦ cond-false _ _ _ (same ∙ fails) ∙ one.0 ∙ ap now (sym (cond-false _ _ _ fails) ∙ far.1)
              ]
          | inr near ↦ elim cursor [
            | inl low ↦
                let high = s.high in
                let same = s.one_node in
                absurd (elim near [
                  | inl is ↦ let t = ap (tail_of web.ends) is.0 in omega (arith, t, high, low)
                  | inr is ↦ let t = ap (tail_of web.ends) is.1 in omega (arith, t, same, high, low)
                ])
            | inr at ↦ elim near [
              | inl is ↦
                  let t : tail_of more.ends (now x) ≡ w = x_tail ∙ ap (tail_of web.ends) is.0 in
                  cond-true _ _ _ (ap four' t ∙ also_here four n w at.high) ∙ ap (λ k. after (after (now k))) is.0 ∙ ap after (y_b at) ∙ b_q at ∙ ap now (sym is.1)
              | inr is ↦
                  let t : tail_of more.ends (now x) ≡ w = x_tail ∙ ap (tail_of web.ends) is.0 ∙ tail_q at in
                  cond-true _ _ _ (ap four' t ∙ also_here four n w at.high) ∙ ap (λ k. after (after (now k))) is.0 ∙ ap after (q_a at) ∙ land.turns_from ∙ ap now (sym is.1)
            ]
          ]
        ];
      }

  -- and the new walk goes on by a
  pub own_seam : At n web next y b q → PassesTo n more after four' (now b) a
  own_seam at =
      let t = land.tails b at.b_in ∙ tail_b at in
      record {
        x_in = land.now_in b at.b_in;
        y_in = land.a_in;
        high = let high = at.high in omega (arith, high, t);
        one_node = land.tail_a ∙ sym t;
        goes = cond-true _ _ _ (ap four' t ∙ also_here four n w at.high) ∙ ap after (b_q at) ∙ q_a at;
      }
