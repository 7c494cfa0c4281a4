-- Some darts of a node go to a new node: the number of components stays, or rises by one.
use Rattle.std.proofs.Common.{◌≡◌, ◌≢◌, ℕ, suc, ◌+◌, ◌*◌, ◌<◌, ◌⊎◌, inl, inr, cond, eqb, List, [], ◌∷◌, ◌++◌, length, refl, sym, ◌∙◌, ap, subst, arith, length-append}
use Rattle.std.proofs.lemmas.Bool.{cases_eq, cond-true, cond-false, eq-eqb, ne_eqb}
use Rattle.xn_model.specs.Graph.{EndsIn}
use Rattle.xn_model.specs.Map.{component_count, reverse_of, tail_of, Joined}
use Rattle.xn_model.proofs.ComponentWalks.{joined_sym, joined_trans, joined_dart, joined_last, joined_from_label, label_from_joined}
use Rattle.xn_model.proofs.Darts.{cases_dart, reverse-even, reverse-odd, reverse_below, tail-push, tail-push_even, tail-push_odd}
use Rattle.xn_genus.proofs.ComponentTransfer.{component_count-transfer}
use Rattle.xn_genus.proofs.Pushed.{component_count-push_same, component_count-push_apart}

module _ (nodes v : ℕ) (ends ends' : List (ℕ × ℕ)) (ends_in : EndsIn nodes ends) (ends_in' : EndsIn (suc nodes) ends') (both_in : EndsIn (suc nodes) (ends' ++ (v, nodes) ∷ []))
    (v_in : v < nodes) (same_length : length ends' ≡ length ends) (tail_in : (d : ℕ) → d < 2 * length ends → tail_of ends d < nodes)
    (moves : (d : ℕ) → d < 2 * length ends → (tail_of ends' d ≡ tail_of ends d) ⊎ ((tail_of ends d ≡ v) × (tail_of ends' d ≡ nodes))) where
  abbrev more : List (ℕ × ℕ)
  more = ends' ++ (v, nodes) ∷ []

  -- the new node goes back to v
  abbrev home : ℕ → ℕ
  home w = cond (eqb w nodes) v w

  home_new : home nodes ≡ v
  home_new = cond-true _ _ _ (eq-eqb nodes nodes refl)

  home_old : (w : ℕ) → w ≢ nodes → home w ≡ w
  home_old w other = cond-false _ _ _ (ne_eqb w nodes other)

  home_tail : (d : ℕ) → d < 2 * length ends → home (tail_of ends' d) ≡ tail_of ends d
  home_tail d d_in = elim (moves d d_in) [
    | inl stays ↦ let low = tail_in d d_in in ap home stays ∙ home_old (tail_of ends d) (λ e. omega (arith, e, low))
    | inr goes ↦ ap home goes.1 ∙ home_new ∙ sym goes.0
  ]

  size : length more ≡ suc (length ends)
  size = length-append ends' ((v, nodes) ∷ []) ∙ omega (arith, same_length)

  refl_joined : (xs : List (ℕ × ℕ)) (w : ℕ) → Joined xs w w
  refl_joined xs w = ([], refl)

  -- an old dart, in the web with the new segment
  old_tail : (d : ℕ) → d < 2 * length ends → tail_of more d ≡ tail_of ends' d
  old_tail d d_in = tail-push ends' (v, nodes) d (omega (arith, d_in, same_length))

  -- from the new web to the old
  there : (d : ℕ) → d < 2 * length more → Joined ends (home (tail_of more d)) (home (tail_of more (reverse_of d)))
  there d d_in =
      let v_home : home v ≡ v = home_old v (λ e. omega (arith, e, v_in)) in
      let c = cases_dart d in
      elim (cases_eq c.0 (length ends)) [
        | inl last ↦
            let k = length ends' in
            let first_tail : tail_of more (2 * k) ≡ v = tail-push_even ends' (v, nodes) in
            let second_tail : tail_of more (2 * k + 1) ≡ nodes = tail-push_odd ends' (v, nodes) in
            elim c.1 [
              | inl even ↦
                  let is : d ≡ 2 * k = omega (arith, even, last, same_length) in
                  let one : home (tail_of more d) ≡ v = ap (λ z. home (tail_of more z)) is ∙ ap home first_tail ∙ v_home in
                  let two : home (tail_of more (reverse_of d)) ≡ v = ap (λ z. home (tail_of more z)) (ap reverse_of is ∙ reverse-even k) ∙ ap home second_tail ∙ home_new in
                  let P : ℕ → Type 0 = λ z. Joined ends z (home (tail_of more (reverse_of d))) in
                  let Q : ℕ → Type 0 = λ z. Joined ends v z in
                  subst P (sym one) (subst Q (sym two) (refl_joined ends v))
              | inr odd ↦
                  let is : d ≡ 2 * k + 1 = omega (arith, odd, last, same_length) in
                  let one : home (tail_of more d) ≡ v = ap (λ z. home (tail_of more z)) is ∙ ap home second_tail ∙ home_new in
                  let two : home (tail_of more (reverse_of d)) ≡ v = ap (λ z. home (tail_of more z)) (ap reverse_of is ∙ reverse-odd k) ∙ ap home first_tail ∙ v_home in
                  let P : ℕ → Type 0 = λ z. Joined ends z (home (tail_of more (reverse_of d))) in
                  let Q : ℕ → Type 0 = λ z. Joined ends v z in
                  subst P (sym one) (subst Q (sym two) (refl_joined ends v))
            ]
        | inr not_last ↦
            let old : d < 2 * length ends = omega (arith, d_in, size, c.1, not_last) in
            let r_old = reverse_below (length ends) d old in
            let one : home (tail_of more d) ≡ tail_of ends d = ap home (old_tail d old) ∙ home_tail d old in
            let two : home (tail_of more (reverse_of d)) ≡ tail_of ends (reverse_of d) = ap home (old_tail (reverse_of d) r_old) ∙ home_tail (reverse_of d) r_old in
            let P : ℕ → Type 0 = λ z. Joined ends z (home (tail_of more (reverse_of d))) in
            let Q : ℕ → Type 0 = λ z. Joined ends (tail_of ends d) z in
            subst P (sym one) (subst Q (sym two) (joined_dart ends d old))
      ]

  last_joined : Joined more v nodes
  last_joined = joined_last ends' (v, nodes)

  -- an old node of a dart, and its node now
  to_now : (d : ℕ) → d < 2 * length ends → Joined more (tail_of ends d) (tail_of more d)
  to_now d d_in = elim (moves d d_in) [
    | inl stays ↦
        let P : ℕ → Type 0 = λ z. Joined more (tail_of ends d) z in
        subst P (sym stays ∙ sym (old_tail d d_in)) (refl_joined more (tail_of ends d))
    | inr goes ↦
        let P : ℕ → Type 0 = λ z. Joined more z (tail_of more d) in
        let Q : ℕ → Type 0 = λ z. Joined more v z in
        subst P (sym goes.0) (subst Q (sym goes.1 ∙ sym (old_tail d d_in)) last_joined)
  ]

  back : (d : ℕ) → d < 2 * length ends → Joined more (tail_of ends d) (tail_of ends (reverse_of d))
  back d d_in =
      let r_in = reverse_below (length ends) d d_in in
      let here = tail_of more d in
      let far = tail_of more (reverse_of d) in
      let dart : Joined more here far = joined_dart more d (omega (arith, d_in, size)) in
      joined_trans more (tail_of ends d) here (tail_of ends (reverse_of d)) (to_now d d_in)
      (joined_trans more here far (tail_of ends (reverse_of d)) dart (joined_sym more (tail_of ends (reverse_of d)) far (to_now (reverse_of d) r_in)))

  pub component_count-glued : component_count (suc nodes) more ≡ component_count nodes ends
  component_count-glued = component_count-transfer (suc nodes) nodes more ends home (λ w. w) both_in ends_in
      (λ w w_in. elim (cases_eq w nodes) [
        | inl new ↦ let e : home w ≡ v = ap home new ∙ home_new in omega (arith, e, v_in)
        | inr old ↦ let e = home_old w old in omega (arith, e, w_in, old)
      ])
      (λ w w_in. omega (arith, w_in))
      there back
      (λ w w_in. elim (cases_eq w nodes) [
        | inl new ↦
            let e : home w ≡ v = ap home new ∙ home_new in
            let P : ℕ → Type 0 = λ z. Joined more z (home w) in
            let Q : ℕ → Type 0 = λ z. Joined more nodes z in
            subst P (sym new) (subst Q (sym e) (joined_sym more v nodes last_joined))
        | inr old ↦ let P : ℕ → Type 0 = λ z. Joined more w z in subst P (sym (home_old w old)) (refl_joined more w)
      ])
      (λ w w_in. let P : ℕ → Type 0 = λ z. Joined ends w z in subst P (sym (home_old w (λ e. omega (arith, e, w_in)))) (refl_joined ends w))

  -- v and the new node are still joined: as many components as before
  pub component_count-split_joined : Joined ends' v nodes → component_count (suc nodes) ends' ≡ component_count nodes ends
  component_count-split_joined joined =
      sym (component_count-push_same (suc nodes) ends' (v, nodes) ends_in' (omega (arith, v_in)) (omega arith) (label_from_joined (suc nodes) ends' ends_in' v nodes joined)) ∙ component_count-glued

  -- they are not: one component more
  pub component_count-split_apart : (Joined ends' v nodes → ⊥) → component_count (suc nodes) ends' ≡ suc (component_count nodes ends)
  component_count-split_apart apart =
      component_count-push_apart (suc nodes) ends' (v, nodes) ends_in' (omega (arith, v_in)) (omega arith)
      (λ same. apart (joined_from_label (suc nodes) ends' ends_in' v nodes (omega (arith, v_in)) (omega arith) same))
      ∙ ap suc component_count-glued
