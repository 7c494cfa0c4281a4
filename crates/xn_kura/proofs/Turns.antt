-- Where each inner node has two live darts, the map leads along the paths.
use Rattle.std.proofs.Common.{◌≡◌, ◌≢◌, ℕ, zero, suc, ◌*◌, ◌/◌, ◌<◌, ◌≤◌, inl, inr, Bool, true, false, ◌&&◌, eqb, List, [], ◌∷◌, length, refl, sym, ◌∙◌, ap, subst, arith}
use Rattle.std.specs.List.{IsDistinct}
use Rattle.std.proofs.lemmas.Bool.{cases_eq, cases_Bool, both_ways, and_from, or_cases, or_left, or_right, eqb-true, eqb-false, eq-eqb, ne_eqb}
use Rattle.xn_model.specs.Evidence.{LeadsTo, inner_nodes}
use Rattle.xn_model.specs.Lists.{has}
use Rattle.xn_model.specs.Map.{reverse_of, tail_of}
use Rattle.xn_model.specs.Permutation.{count_below, iterate}
use Rattle.xn_genus.specs.Live.{IsMapOn}
use Rattle.xn_kura.proofs.Path.{Turns, far, out, out_facts}
use Rattle.xn_kura.proofs.Tally.{distinct-le}

-- two live darts at a node that has no third
module _ (ends : List (ℕ × ℕ)) (live : ℕ → Bool) (next : ℕ → ℕ) (map : IsMapOn ends live next) where
  abbrev n : ℕ
  n = 2 * length ends

  pub next_live : (z : ℕ) → z < n → live (z / 2) ≡ true → live (next z / 2) ≡ true
  next_live z z_in z_live = elim (cases_Bool (live (next z / 2))) [
    | inl yes_it ↦ yes_it
    | inr dead ↦
        let y_in = map.permutes.below z z_in in
        let same : next z ≡ z = map.permutes.apart (next z) z y_in z_in (map.dead (next z) y_in dead) in
        ap (λ x. live (x / 2)) same ∙ z_live
  ]

  -- a live dart with another live dart at its node turns
  pub next_moves : (a b : ℕ) → a < n → b < n → live (a / 2) ≡ true → live (b / 2) ≡ true → tail_of ends a ≡ tail_of ends b → a ≢ b → next a ≢ a
  next_moves a b a_in b_in a_live b_live same differ alone =
      let there = map.one_ring a b a_in b_in a_live b_live same in
      differ (sym (stays there.0) ∙ there.1)
    where
      stays : (k : ℕ) → iterate next k a ≡ a
      stays zero = refl
      stays (suc k) = ap next (stays k) ∙ alone

  pub two_darts : (w a b : ℕ) → count_below n (λ z. live (z / 2) && eqb (tail_of ends z) w) ≤ 2 → a < n → b < n → live (a / 2) ≡ true → live (b / 2) ≡ true →
      tail_of ends a ≡ w → tail_of ends b ≡ w → a ≢ b → next a ≡ b
  unfolding IsDistinct
  two_darts w a b few a_in b_in a_live b_live a_at b_at differ =
      let c = next a in
      let c_in = map.permutes.below a a_in in
      elim (cases_eq c b) [
        | inl same ↦ same
        | inr other ↦
            let moves = next_moves a b a_in b_in a_live b_live (a_at ∙ sym b_at) differ in
            let c_at : tail_of ends c ≡ w = map.same_node a a_in ∙ a_at in
            let p = λ (z : ℕ). live (z / 2) && eqb (tail_of ends z) w in
            let three = distinct-le n p (c ∷ a ∷ b ∷ [])
            ((ne_eqb _ _ moves, (ne_eqb _ _ other, tt)), ((ne_eqb _ _ differ, tt), (tt, tt)))
            (λ x h. elim (or_cases (eqb c x) _ h) [
              | inl is ↦ let e = eqb-true c x is in let P : ℕ → Type 0 = λ y. (y < n) × (p y ≡ true) in subst P e (c_in, and_from _ _ (next_live a a_in a_live) (eq-eqb _ _ c_at))
              | inr more ↦ elim (or_cases (eqb a x) _ more) [
                | inl is ↦ let e = eqb-true a x is in let P : ℕ → Type 0 = λ y. (y < n) × (p y ≡ true) in subst P e (a_in, and_from _ _ a_live (eq-eqb _ _ a_at))
                | inr last ↦ elim (or_cases (eqb b x) false last) [
                  | inl is ↦ let e = eqb-true b x is in let P : ℕ → Type 0 = λ y. (y < n) × (p y ≡ true) in subst P e (b_in, and_from _ _ b_live (eq-eqb _ _ b_at))
                  | inr none ↦ absurd (both_ways false refl none)
                ]
              ]
            ]) in
            absurd (omega (arith, three, few))
      ]

  -- where each inner node has two darts, the map leads along the path
  pub turns_along : (u v s : ℕ) (path : List ℕ) → LeadsTo ends u (s ∷ path) v → IsDistinct eqb (s ∷ path) → ((t : ℕ) → has (s ∷ path) t ≡ true → live t ≡ true) →
      ((w : ℕ) → has (inner_nodes ends u (s ∷ path)) w ≡ true → count_below n (λ z. live (z / 2) && eqb (tail_of ends z) w) ≤ 2) → Turns ends next u (s ∷ path)
  unfolding IsDistinct
  turns_along u v s [] leads distinct lives few = tt
  turns_along u v s (t ∷ path) leads distinct lives few =
      let w = far ends u s in
      let one = out_facts ends u s leads.1 in
      let two = out_facts ends w t leads.2.1 in
      let a = reverse_of (out ends u s) in
      let b = out ends w t in
      let a_in : a < n = omega (arith, one.5, leads.0) in
      let b_in : b < n = omega (arith, two.4, leads.2.0) in
      let s_live = lives s (or_left (eqb s s) _ (eq-eqb s s refl)) in
      let t_live = lives t (or_right (eqb s t) _ (or_left (eqb t t) (has path t) (eq-eqb t t refl))) in
      let a_live : live (a / 2) ≡ true = ap live one.3 ∙ s_live in
      let b_live : live (b / 2) ≡ true = ap live two.2 ∙ t_live in
      let differ : a ≢ b = λ e. eqb-false s t distinct.0.0 (sym one.3 ∙ ap (λ x. x / 2) e ∙ two.2) in
      let small = few w (or_left (eqb w w) _ (eq-eqb w w refl)) in (
        two_darts w a b small a_in b_in a_live b_live one.1 two.0 differ,
        two_darts w b a small b_in a_in b_live a_live two.0 one.1 (λ e. differ (sym e)),
        turns_along w v t path leads.2 distinct.1 (λ r r_in. lives r (or_right (eqb s r) _ r_in)) (λ x x_in. few x (or_right (eqb w x) _ x_in)),
      )
