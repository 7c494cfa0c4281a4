-- Numbers that are kept, renumbered, have the cycles that hold them.
use Rattle.std.proofs.Common.{◌≡◌, ℕ, zero, suc, ◌+◌, ◌-◌, ◌<◌, ◌≤◌, ◌↔◌, inl, inr, Bool, true, false, ◌&&◌, refl, sym, ◌∙◌, ap, subst, arith}
use Rattle.std.specs.List.{list_any}
use Rattle.std.proofs.lemmas.Bool.{and_from, and_parts, both_ways, cases_order}
use Rattle.xn_model.specs.Permutation.{Permutes, Reaches, cycle_count, is_least, iterate, walk}
use Rattle.xn_ring.proofs.Counting.{count_injects}
use Rattle.xn_ring.proofs.Marked.{held-from_test, test-from_held}
use Rattle.xn_ring.proofs.Orbits.{IsLeast-from_test, iterate-add, iterate_apart, iterate_below, least_of, least_unique, reaches_back, reaches_below, reaches_trans, test-from_IsLeast}
use Rattle.xn_ring.specs.Parts.{HasCyclesOf, IsRestriction, cycle_count_with}
use Rattle.xn_ring.specs.Removals.{IsNextKept}

-- two kept numbers that lead to the same kept number are one
module _ (n : ℕ) (f : ℕ → ℕ) (keep : ℕ → Bool) (permutes : Permutes n f) where
  too_late : (d e s t : ℕ) → d < n → e < n → keep d ≡ true → iterate f (suc s) d ≡ iterate f (suc t) e
      → ((i : ℕ) → i < t → keep (iterate f (suc i) e) ≡ false) → s < t → ⊥
  too_late d e s t d_in e_in kept meets passed late =
      let i = t - suc s in
      let size : suc t ≡ suc s + suc i = omega (arith, late) in
      let x = iterate f (suc i) e in
      let split : iterate f (suc t) e ≡ iterate f (suc s) x = ap (λ k. iterate f k e) size ∙ iterate-add f (suc s) (suc i) e in
      let same : d ≡ x = iterate_apart n f permutes (suc s) d x d_in (iterate_below n f permutes (suc i) e e_in) (meets ∙ split) in
      both_ways (keep x) (passed i (omega (arith, late))) (ap keep (sym same) ∙ kept)

  pub one_before : (d e z : ℕ) → d < n → e < n → keep d ≡ true → keep e ≡ true → IsNextKept f keep d z → IsNextKept f keep e z → d ≡ e
  one_before d e z d_in e_in d_kept e_kept one two =
      let meets : iterate f (suc one.steps) d ≡ iterate f (suc two.steps) e = one.there ∙ sym two.there in
      elim (cases_order one.steps two.steps) [
        | inl same ↦ iterate_apart n f permutes (suc one.steps) d e d_in e_in (meets ∙ ap (λ k. iterate f (suc k) e) (sym same))
        | inr (inl fewer) ↦ absurd (too_late d e one.steps two.steps d_in e_in d_kept meets two.passed fewer)
        | inr (inr more) ↦ absurd (too_late e d two.steps one.steps e_in d_in e_kept (sym meets) one.passed more)
      ]

module _ (n k : ℕ) (keep : ℕ → Bool) (code f g : ℕ → ℕ) (permutes : Permutes n f) (r : IsRestriction n k keep code f g) where
  pub Permutes-restriction : Permutes k g
  Permutes-restriction = record {
    below = λ j j_in. (r.steps j j_in).0;
    apart = λ i j i_in j_in same.
        let P : ℕ → Type 0 = λ z. IsNextKept f keep (code i) (code z) in
        let one : IsNextKept f keep (code i) (code (g j)) = subst P same (r.steps i i_in).1 in
        let ci = r.code_in i i_in in
        let cj = r.code_in j j_in in
        r.apart i j i_in j_in (one_before n f keep permutes (code i) (code j) (code (g j)) ci.0 cj.0 ci.1 cj.1 one (r.steps j j_in).1);
  }

  -- a step of g is a walk of f
  walk_of : (j : ℕ) → j < k → (m : ℕ) → Reaches f (code j) (code (iterate g m j))
  walk_of j j_in zero = (0, refl)
  walk_of j j_in (suc m) =
      let x = iterate g m j in
      let x_in = iterate_below k g Permutes-restriction m j j_in in
      let next = (r.steps x x_in).1 in
      reaches_trans f (code j) (code x) (code (g x)) (walk_of j j_in m) (suc next.steps, next.there)

  -- a walk of f between kept numbers is one of g: by the number of steps
  kept_walk : (bound m i j : ℕ) → m ≤ bound → i < k → j < k → iterate f m (code i) ≡ code j → Reaches g i j
  kept_walk zero m i j few i_in j_in comes =
      let none : m ≡ 0 = omega (arith, few) in
      (0, r.apart i j i_in j_in (ap (λ s. iterate f s (code i)) (sym none) ∙ comes))
  kept_walk (suc bound) zero i j few i_in j_in comes = (0, r.apart i j i_in j_in comes)
  kept_walk (suc bound) (suc m) i j few i_in j_in comes =
      let step = r.steps i i_in in
      let next = step.1 in
      elim (cases_order m next.steps) [
        | inl last ↦
            let same : code (g i) ≡ code j = sym next.there ∙ ap (λ s. iterate f (suc s) (code i)) (sym last) ∙ comes in
            (1, r.apart (g i) j step.0 j_in same)
        | inr (inl early) ↦ absurd (both_ways (keep (iterate f (suc m) (code i))) (next.passed m early) (ap keep comes ∙ (r.code_in j j_in).1))
        | inr (inr later) ↦
            let left = m - next.steps in
            let size : suc m ≡ left + suc next.steps = omega (arith, later) in
            let on : iterate f left (code (g i)) ≡ code j =
            ap (iterate f left) (sym next.there) ∙ sym (iterate-add f left (suc next.steps) (code i)) ∙ ap (λ s. iterate f s (code i)) (sym size) ∙ comes in
            let rest = kept_walk bound left (g i) j (omega (arith, few, later)) step.0 j_in on in
            reaches_trans g i (g i) j (1, refl) rest
      ]

  pub reaches-restriction : (i j : ℕ) → i < k → j < k → Reaches g i j ↔ Reaches f (code i) (code j)
  reaches-restriction i j i_in j_in = (
    λ there. let on = walk_of i i_in there.0 in (on.0, on.1 ∙ ap code there.1),
    λ there. kept_walk there.0 there.0 i j (omega arith) i_in j_in there.1,
  )

  -- each cycle of g is in one of f
  no_more : cycle_count k g ≤ cycle_count_with n f keep
  no_more = count_injects k n (is_least k g) (λ d. is_least n f d && list_any keep (walk f n d))
      (λ j t. (j < k) × (t < n) × (is_least k g j ≡ true) × Reaches f (code j) t)
      (λ j j_in passes.
      let c = r.code_in j j_in in
      let m = least_of n f permutes (code j) c.0 in
      let m_in = reaches_below n f permutes (code j) m.0 c.0 m.1 in
      let held = test-from_held keep n f permutes m.0 (code j) m_in (reaches_back n f permutes (code j) m.0 c.0 m.1) c.1 in
      (m.0, m_in, and_from _ _ (test-from_IsLeast n f permutes m.0 m.2) held, (j_in, m_in, passes, m.1)))
      (λ i j t i_in j_in one two.
      let ci = r.code_in i i_in in
      let cj = r.code_in j j_in in
      let on = reaches_trans f (code i) t (code j) one.3 (reaches_back n f permutes (code j) t cj.0 two.3) in
      least_unique k g Permutes-restriction i j i_in ((reaches-restriction i j i_in j_in).1 on)
      (IsLeast-from_test k g Permutes-restriction i i_in one.2) (IsLeast-from_test k g Permutes-restriction j j_in two.2))

  -- each cycle of f with a kept number has one of g
  no_fewer : cycle_count_with n f keep ≤ cycle_count k g
  no_fewer = count_injects n k (λ d. is_least n f d && list_any keep (walk f n d)) (is_least k g)
      (λ d i. (d < n) × (i < k) × (is_least n f d ≡ true) × Reaches f d (code i))
      (λ d d_in passes.
      let both = and_parts (is_least n f d) (list_any keep (walk f n d)) passes in
      let held = held-from_test keep n f d both.1 in
      let e_in = reaches_below n f permutes d held.0 d_in held.1 in
      let j = r.onto held.0 e_in held.2 in
      let m = least_of k g Permutes-restriction j.0 j.1 in
      let m_in = reaches_below k g Permutes-restriction j.0 m.0 j.1 m.1 in
      let P : ℕ → Type 0 = λ x. Reaches f d x in
      let to_j : Reaches f d (code j.0) = subst P (sym j.2) held.1 in
      let to_m = reaches_trans f d (code j.0) (code m.0) to_j ((reaches-restriction j.0 m.0 j.1 m_in).0 m.1) in
      (m.0, m_in, test-from_IsLeast k g Permutes-restriction m.0 m.2, (d_in, m_in, both.0, to_m)))
      (λ d e i d_in e_in one two.
      let on = reaches_trans f d (code i) e one.3 (reaches_back n f permutes e (code i) e_in two.3) in
      least_unique n f permutes d e d_in on (IsLeast-from_test n f permutes d d_in one.2) (IsLeast-from_test n f permutes e e_in two.2))

  pub has_cycles_of : HasCyclesOf n k keep code f g
  has_cycles_of = record {
    permutes = Permutes-restriction;
    count = omega (arith, no_more, no_fewer);
    walks = reaches-restriction;
  }
