-- Renumbered permutations, and inverse ones, have the same cycles.
use Rattle.std.proofs.Common.{◌≡◌, ℕ, zero, suc, ◌<◌, inl, inr, true, cond, eqb, refl, sym, ◌∙◌, ap, subst, arith}
use Rattle.std.proofs.lemmas.Bool.{cases_eq, cond-false, cond-true, eq-eqb, ne_eqb}
use Rattle.xn_model.specs.Permutation.{Permutes, Reaches, cycle_count, is_least, iterate}
use Rattle.xn_model.proofs.Tests.{same_tests}
use Rattle.xn_ring.proofs.Counting.{count-same}
use Rattle.xn_ring.proofs.Marked.{cycle_count_with-all}
use Rattle.xn_ring.proofs.Orbits.{IsLeast-from_test, reaches_back, reaches_trans, source_of, test-from_IsLeast}
use Rattle.xn_ring.proofs.Restriction.{has_cycles_of}
use Rattle.xn_ring.specs.Parts.{IsRestriction}
use Rattle.xn_ring.specs.Transfers.{IsInverse, IsRenumbered}

module _ (n : ℕ) (r f g : ℕ → ℕ) (r_permutes : Permutes n r) (permutes : Permutes n f) (step : (d : ℕ) → d < n → g (r d) ≡ r (f d)) where
  -- g at a number, by what r calls so
  at_called : (d : ℕ) → d < n → (c : ℕ) × (c < n) × (r c ≡ d) × (g d ≡ r (f c))
  at_called d d_in =
      let c = source_of n r r_permutes d d_in in
      (c.0, c.1, c.2, ap g (sym c.2) ∙ step c.0 c.1)

  pub Permutes-renumbered : Permutes n g
  Permutes-renumbered = record {
    below = λ d d_in.
        let c = at_called d d_in in
        omega (arith, c.3, r_permutes.below (f c.0) (permutes.below c.0 c.1));
    apart = λ d e d_in e_in same.
        let c = at_called d d_in in
        let k = at_called e e_in in
        let meets : r (f c.0) ≡ r (f k.0) = sym c.3 ∙ same ∙ k.3 in
        let one : f c.0 ≡ f k.0 = r_permutes.apart (f c.0) (f k.0) (permutes.below c.0 c.1) (permutes.below k.0 k.1) meets in
        sym c.2 ∙ ap r (permutes.apart c.0 k.0 c.1 k.1 one) ∙ k.2;
  }

  is_restriction : IsRestriction n n (λ d. true) r g f
  is_restriction = record {
    code_in = λ j j_in. (r_permutes.below j j_in, refl);
    apart = r_permutes.apart;
    onto = λ d d_in passes. source_of n r r_permutes d d_in;
    steps = λ j j_in. (permutes.below j j_in, record { steps = 0; there = step j j_in; kept = refl; passed = λ i none. absurd (omega arith) });
  }

  pub is_renumbered : IsRenumbered n r f g
  is_renumbered =
      let same = has_cycles_of n n (λ d. true) r g f Permutes-renumbered is_restriction in
      let all = cycle_count_with-all n g (λ d. true) (λ d d_in. refl) in
      record {
        permutes = Permutes-renumbered;
        count = sym (same.count ∙ all);
        walks = λ d e d_in e_in. ((same.walks d e d_in e_in).1, (same.walks d e d_in e_in).0);
      }

-- permutations whose walks go to the same numbers have as many cycles
pub cycle_count-same_walks : (n : ℕ) (f g : ℕ → ℕ) → Permutes n f → Permutes n g
    → ((d e : ℕ) → d < n → Reaches g d e → Reaches f d e) → ((d e : ℕ) → d < n → Reaches f d e → Reaches g d e)
    → cycle_count n g ≡ cycle_count n f
cycle_count-same_walks n f g f_permutes g_permutes there back =
    count-same n (is_least n g) (is_least n f) (λ d d_in. same_tests _ _
    (λ t. test-from_IsLeast n f f_permutes d (λ k.
    let w = back d (iterate f k d) d_in (k, refl) in
    omega (arith, IsLeast-from_test n g g_permutes d d_in t w.0, w.1)))
    (λ t. test-from_IsLeast n g g_permutes d (λ k.
    let w = there d (iterate g k d) d_in (k, refl) in
    omega (arith, IsLeast-from_test n f f_permutes d d_in t w.0, w.1))))

-- where each step of g leads back along f, each walk does
back_along : (n : ℕ) (f g : ℕ → ℕ) → Permutes n f → Permutes n g → ((d : ℕ) → d < n → Reaches f d (g d))
    → (d : ℕ) → d < n → (k : ℕ) → (iterate g k d < n) × Reaches f d (iterate g k d)
back_along n f g f_permutes g_permutes step d d_in zero = (d_in, (0, refl))
back_along n f g f_permutes g_permutes step d d_in (suc k) =
    let x = iterate g k d in
    let so_far = back_along n f g f_permutes g_permutes step d d_in k in
    (g_permutes.below x so_far.0, reaches_trans f d x (g x) so_far.1 (step x so_far.0))

module _ (n : ℕ) (f g : ℕ → ℕ) (permutes : Permutes n f) (undoes : (d : ℕ) → d < n → g (f d) ≡ d) where
  -- what g leads to leads back
  undone_at : (d : ℕ) → d < n → (g d < n) × (f (g d) ≡ d)
  undone_at d d_in =
      let c = source_of n f permutes d d_in in
      let is : g d ≡ c.0 = ap g (sym c.2) ∙ undoes c.0 c.1 in
      (omega (arith, is, c.1), ap f is ∙ c.2)

  pub Permutes-inverse : Permutes n g
  Permutes-inverse = record {
    below = λ d d_in. (undone_at d d_in).0;
    apart = λ d e d_in e_in same. sym (undone_at d d_in).1 ∙ ap f same ∙ (undone_at e e_in).1;
  }

  there : (d e : ℕ) → d < n → Reaches g d e → Reaches f d e
  there d e d_in w =
      let P : ℕ → Type 0 = λ x. Reaches f d x in
      subst P w.1 (back_along n f g permutes Permutes-inverse (λ x x_in. reaches_back n f permutes (g x) x (undone_at x x_in).0 (1, (undone_at x x_in).1)) d d_in w.0).1

  back : (d e : ℕ) → d < n → Reaches f d e → Reaches g d e
  back d e d_in w =
      let P : ℕ → Type 0 = λ x. Reaches g d x in
      subst P w.1 (back_along n g f Permutes-inverse permutes (λ x x_in. reaches_back n g Permutes-inverse (f x) x (permutes.below x x_in) (1, undoes x x_in)) d d_in w.0).1

  pub is_inverse : IsInverse n f g
  is_inverse = record {
    permutes = Permutes-inverse;
    undone = λ d d_in. (undone_at d d_in).1;
    count = cycle_count-same_walks n f g permutes Permutes-inverse there back;
    walks = λ d e d_in e_in. (there d e d_in, back d e d_in);
  }

-- the last number below k that f leads to d
pub source_below : ℕ → (ℕ → ℕ) → ℕ → ℕ
source_below zero f d = 0
source_below (suc k) f d = cond (eqb (f k) d) k (source_below k f d)

source_below-is : (k : ℕ) (f : ℕ → ℕ) (c : ℕ) → c < k → ((e : ℕ) → e < k → f e ≡ f c → e ≡ c) → source_below k f (f c) ≡ c
unfolding source_below
source_below-is zero f c c_in alone = absurd (omega arith)
source_below-is (suc k) f c c_in alone = elim (cases_eq (f k) (f c)) [
  | inl meets ↦ cond-true _ _ _ (eq-eqb _ _ meets) ∙ alone k (omega arith) meets
  | inr other ↦
      let early : c < k = elim (cases_eq c k) [ inl last ↦ absurd (other (ap f (sym last))) | inr before ↦ omega arith ] in
      cond-false _ _ _ (ne_eqb _ _ other) ∙ source_below-is k f c early (λ e e_in. alone e (omega arith))
]

pub inverse_there : (n : ℕ) (f : ℕ → ℕ) → Permutes n f → (g : ℕ → ℕ) × ((d : ℕ) → d < n → g (f d) ≡ d)
inverse_there n f permutes =
    (source_below n f, λ d d_in. source_below-is n f d d_in (λ e e_in same. permutes.apart e d e_in d_in same))
