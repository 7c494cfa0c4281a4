-- Where two darts are cut out of one face, what followed them lies in two faces.
use Rattle.std.proofs.Common.{◌≡◌, ◌≢◌, ℕ, zero, suc, ◌+◌, ◌-◌, ◌*◌, ◌<◌, inl, inr, eqb, List, length, refl, sym, ◌∙◌, ap, arith}
use Rattle.std.proofs.lemmas.Bool.{cases_eq, eqb-false, eqb-true}
use Rattle.xn_model.proofs.Decide.{iterate-step}
use Rattle.xn_extend.proofs.Cut.{IsCut}
use Rattle.xn_extend.proofs.Pair.{ArePair}
use Rattle.xn_genus.proofs.Counts.{Permutes-face}
use Rattle.xn_model.proofs.Darts.{reverse-reverse}
use Rattle.xn_model.specs.Map.{face_step, reverse_of, tail_of}
use Rattle.xn_model.specs.Permutation.{Permutes, Reaches, iterate}
use Rattle.xn_ring.proofs.Orbits.{first_below, iterate-add, iterate_below, reaches_back}

module _ (ends : List (ℕ × ℕ)) (s d e : ℕ) (pair : ArePair ends s d e) (before after : ℕ → ℕ) (permutes : Permutes (2 * length ends) after)
    (cut : IsCut d e before after) (first_moves : after d ≢ d) where
  abbrev n : ℕ
  n = 2 * length ends

  abbrev face : ℕ → ℕ
  face = face_step after

  face_permutes : Permutes n face
  face_permutes = Permutes-face (length ends) after permutes

  from_first : face d ≡ after e
  from_first = ap after pair.turns

  from_second : face e ≡ after d
  from_second = ap after pair.turns_back

  apart : d ≢ e
  apart same = pair.two_nodes (ap (tail_of ends) same)

  -- steps is the number of steps from what follows d to d
  module _ (steps : ℕ) (comes : iterate face steps (after d) ≡ d) (first : (i : ℕ) → i < steps → iterate face i (after d) ≢ d) where
    never_second : (i : ℕ) → i < steps → iterate face i (after d) ≢ e
    never_second i early at_e =
        let k = steps - suc i in
        let size : steps ≡ k + suc i = omega (arith, early) in
        let again : iterate face (suc i) (after d) ≡ after d = ap face at_e ∙ from_second in
        first k (omega (arith, early))
        (sym (ap (iterate face k) again) ∙ sym (iterate-add face k (suc i) (after d)) ∙ ap (λ m. iterate face m (after d)) (sym size) ∙ comes)

    some_steps : 0 < steps
    some_steps = elim (cases_eq steps 0) [
      | inl none ↦ absurd (first_moves (ap (λ m. iterate face m (after d)) (sym none) ∙ comes))
      | inr some ↦ omega (arith, some)
    ]

    -- the cut walk stays on the arc
    on_arc : (k : ℕ) → (i : ℕ) × (i < steps) × (iterate face i (after d) ≡ iterate (face_step before) k (after d))
    on_arc zero = (0, some_steps, refl)
    on_arc (suc k) =
        let so_far = on_arc k in
        let i = so_far.0 in
        let z = iterate face i (after d) in
        let r = reverse_of z in
        let not_d : r ≢ d = λ same. never_second i so_far.1 (sym (reverse-reverse z) ∙ ap reverse_of same ∙ pair.turns) in
        let not_e : r ≢ e = λ same. first i so_far.1 (sym (reverse-reverse z) ∙ ap reverse_of same ∙ pair.turns_back) in
        let step : face_step before z ≡ face_step before (iterate (face_step before) k (after d)) = ap (face_step before) so_far.2 in
        elim (cases_eq (suc i) steps) [
          | inl home ↦
              let to_d : after r ≡ d = ap (λ m. iterate face m (after d)) home ∙ comes in
              (0, some_steps, sym (cut.to_first r not_d not_e to_d) ∙ step)
          | inr on ↦
              let early : suc i < steps = omega (arith, on, so_far.1) in
              (suc i, early, sym (cut.others r not_d not_e (first (suc i) early) (never_second (suc i) early)) ∙ step)
        ]

    two_arcs : ¬ Reaches (face_step before) (after d) (after e)
    two_arcs there =
        let at = on_arc there.0 in
        meets at.0 at.1 (at.2 ∙ there.1)
      where
        meets : (i : ℕ) → i < steps → iterate face i (after d) ≡ after e → ⊥
        meets zero early same = apart (sym (face_permutes.apart e d pair.second_in pair.first_in (from_second ∙ same ∙ sym from_first)))
        meets (suc i) early same =
            first i (omega (arith, early)) (face_permutes.apart (iterate face i (after d)) d
            (iterate_below n face face_permutes i (after d) (permutes.below d pair.first_in)) pair.first_in (same ∙ sym from_first))

  pub splits : Reaches face d e → ¬ Reaches (face_step before) (after d) (after e)
  splits one_face =
      let back = reaches_back n face face_permutes d e pair.first_in one_face in
      arrives back.0 back.1
    where
      arrives : (k : ℕ) → iterate face k e ≡ d → ¬ Reaches (face_step before) (after d) (after e)
      arrives zero at_d = absurd (apart (sym at_d))
      arrives (suc k) at_d =
          let there : iterate face k (after d) ≡ d = ap (iterate face k) (sym from_second) ∙ iterate-step face k e ∙ at_d in
          elim (first_below (suc k) (λ i. eqb (iterate face i (after d)) d)) [
            | inl found ↦ two_arcs found.0 (eqb-true _ _ found.2) (λ i early. eqb-false _ _ (found.3 i early))
            | inr none ↦ absurd (eqb-false _ _ (none k (omega arith)) there)
          ]
