-- A walk comes to each number that it meets within its first n steps, where all numbers are below n.
use Rattle.std.proofs.Common.{◌≡◌, ℕ, zero, suc, ◌+◌, ◌-◌, ◌<◌, inl, inr, true, false, eqb, refl, sym, ◌∙◌, ap, arith}
use Rattle.std.specs.List.{list_any, AllByRecursion, IsDistinct}
use Rattle.std.proofs.lemmas.Bool.{both_ways, eq-eqb, eqb-false, eqb-true, ne_eqb, or_cases}
use Rattle.std.proofs.lemmas.Map.Steps.{length-le_from_distinct_below}
use Rattle.xn_model.specs.Permutation.{iterate, walk}
use Rattle.xn_ring.proofs.Orbits.{first_below, iterate-add}
use Rattle.xn_model.proofs.Decide.{iterate-step, length-walk}

module _ (n : ℕ) (f : ℕ → ℕ) (closed : (d : ℕ) → d < n → f d < n) where
  pub iterate_below : (k d : ℕ) → d < n → iterate f k d < n
  iterate_below zero d low = low
  iterate_below (suc k) d low = closed _ (iterate_below k d low)

  walk_below : (k d : ℕ) → d < n → (q : ℕ) → list_any (eqb q) (walk f k d) ≡ true → q < n
  walk_below zero d low q h = absurd (both_ways false refl h)
  walk_below (suc k) d low q h = elim (or_cases _ _ h) [
    | inl here ↦ let e : q ≡ d = eqb-true q d here in omega arith
    | inr later ↦ walk_below k (f d) (closed d low) q later
  ]

  -- e is not among the first k numbers from d on
  absent : (e k d : ℕ) → ((j : ℕ) → j < k → iterate f j d ≡ e → ⊥) → AllByRecursion (λ y. eqb e y ≡ false) (walk f k d)
  absent e zero d never = tt
  absent e (suc k) d never =
      (ne_eqb e d (λ same. never 0 (omega arith) (sym same)), absent e k (f d) (λ j below same. never (suc j) (omega arith) (sym (iterate-step f j d) ∙ same)))

  -- a walk that comes to e for the first time after k steps has met no number twice
  distinct_until : (e k d : ℕ) → iterate f k d ≡ e → ((j : ℕ) → j < k → iterate f j d ≡ e → ⊥) → IsDistinct eqb (walk f (suc k) d)
  unfolding IsDistinct
  distinct_until e zero d comes unmet = (tt, tt)
  distinct_until e (suc k) d comes unmet = (
    absent d (suc k) (f d) (λ j below back.
        let round : iterate f (suc j) d ≡ d = sym (iterate-step f j d) ∙ back in
        let whole : suc k ≡ (k - j) + suc j = omega (arith, below) in
        let sooner : iterate f (k - j) d ≡ e = ap (iterate f (k - j)) (sym round) ∙ sym (iterate-add f (k - j) (suc j) d) ∙ ap (λ m. iterate f m d) (sym whole) ∙ comes in
        unmet (k - j) (omega arith) sooner),
    distinct_until e k (f d) (iterate-step f k d ∙ comes) (λ j below same. unmet (suc j) (omega (arith, below)) (sym (iterate-step f j d) ∙ same)),
  )

  pub early : (d e k : ℕ) → d < n → iterate f k d ≡ e → (j : ℕ) × (j < n) × (iterate f j d ≡ e)
  early d e k low comes = elim (first_below (suc k) (λ j. eqb (iterate f j d) e)) [
    | inl first ↦
        let m = first.0 in
        let distinct = distinct_until e m d (eqb-true _ _ first.2) (λ j below. eqb-false _ _ (first.3 j below)) in
        let long = length-le_from_distinct_below (walk f (suc m) d) n distinct (walk_below (suc m) d low) in
        (m, omega (arith, long, length-walk f (suc m) d), eqb-true _ _ first.2)
    | inr none ↦ absurd (both_ways (eqb (iterate f k d) e) (none k (omega arith)) (eq-eqb _ _ comes))
  ]
