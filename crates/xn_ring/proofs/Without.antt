-- A number taken out of its cycle.
use Rattle.std.proofs.Common.{◌≡◌, ◌≢◌, ℕ, zero, suc, ◌<◌, inl, inr, refl, sym, ◌∙◌, ap, subst, arith}
use Rattle.std.proofs.lemmas.Bool.{cases_eq, cond-true, cond-false, eq-eqb, ne_eqb}
use Rattle.xn_model.specs.Permutation.{IsSplice, Permutes, Reaches, cycle_count, iterate, without}
use Rattle.xn_ring.proofs.Orbits.{iterate_below, reaches_step, source_of}
use Rattle.xn_ring.proofs.Splice.{Permutes-splice, cycle_count-split}
use Rattle.xn_ring.specs.Removals.{IsTakenOut}

pub without-at : (d : ℕ) (f : ℕ → ℕ) → without d f d ≡ d
without-at d f = cond-true _ _ _ (eq-eqb d d refl)

pub without-before : (d : ℕ) (f : ℕ → ℕ) (x : ℕ) → x ≢ d → f x ≡ d → without d f x ≡ f d
without-before d f x other leads = cond-false _ _ _ (ne_eqb _ _ other) ∙ cond-true _ _ _ (eq-eqb _ _ leads)

pub without-other : (d : ℕ) (f : ℕ → ℕ) (x : ℕ) → x ≢ d → f x ≢ d → without d f x ≡ f x
without-other d f x other passes = cond-false _ _ _ (ne_eqb _ _ other) ∙ cond-false _ _ _ (ne_eqb _ _ passes)

-- a walk between two others passes d by
pub reaches-without : (d : ℕ) (f : ℕ → ℕ) (x : ℕ) → x ≢ d → (k : ℕ) → (iterate f k x ≢ d → Reaches (without d f) x (iterate f k x)) × (iterate f k x ≡ d → Reaches (without d f) x (f d))
reaches-without d f x x_other zero = (λ other. (0, refl), λ same. absurd (x_other same))
reaches-without d f x x_other (suc k) =
    let z = iterate f k x in
    let g = without d f in
    let so_far = reaches-without d f x x_other k in
    elim (cases_eq z d) [
      | inl at_d ↦
          let there = so_far.1 at_d in
          let e : f d ≡ f z = ap f (sym at_d) in
          (λ other. (there.0, there.1 ∙ e), λ same. there)
      | inr not_d ↦
          let there = so_far.0 not_d in
          let on = reaches_step g x z there in
          (λ other. (on.0, on.1 ∙ without-other d f z not_d other), λ same. (on.0, on.1 ∙ without-before d f z not_d same))
    ]

module _ (n d : ℕ) (f : ℕ → ℕ) (permutes : Permutes n f) (d_in : d < n) where
  -- what leads to d
  pub before : (x : ℕ) × (x < n) × (f x ≡ d)
  before = source_of n f permutes d d_in

  -- to take d out is a swap
  pub IsSplice-without : IsSplice n before.0 d f (without d f)
  IsSplice-without = record {
    first = elim (cases_eq before.0 d) [
      | inl alone ↦ ap (without d f) alone ∙ without-at d f ∙ sym before.2 ∙ ap f alone
      | inr other ↦ without-before d f before.0 other before.2
    ];
    second = without-at d f ∙ sym before.2;
    others = λ x x_in not_before not_d. without-other d f x not_d (λ leads. not_before (permutes.apart x before.0 x_in before.1 (leads ∙ sym before.2)));
  }

  pub Permutes-without : Permutes n (without d f)
  Permutes-without = Permutes-splice n before.0 d f (without d f) permutes IsSplice-without before.1 d_in

  -- what led elsewhere is one cycle more once it is alone
  pub cycle_count-without : f d ≢ d → cycle_count n (without d f) ≡ suc (cycle_count n f)
  cycle_count-without moves =
      let other : before.0 ≢ d = λ e. moves (ap f (sym e) ∙ before.2) in
      cycle_count-split n before.0 d f (without d f) permutes IsSplice-without before.1 d_in other (1, before.2)

  -- a walk without d is a walk, and doesn't come to d
  reaches-with : (x : ℕ) → x < n → x ≢ d → (k : ℕ) → Reaches f x (iterate (without d f) k x) × (iterate (without d f) k x ≢ d)
  reaches-with x x_in x_other zero = ((0, refl), x_other)
  reaches-with x x_in x_other (suc k) =
      let z = iterate (without d f) k x in
      let z_in = iterate_below n (without d f) Permutes-without k x x_in in
      let so_far = reaches-with x x_in x_other k in
      let on = reaches_step f x z so_far.0 in
      elim (cases_eq (f z) d) [
        | inl leads ↦
            let to : without d f z ≡ f d = without-before d f z so_far.1 leads in
            let past = reaches_step f x d (on.0, on.1 ∙ leads) in
            let moves : f d ≢ d = λ stays. so_far.1 (permutes.apart z d z_in d_in (leads ∙ sym stays)) in
            ((past.0, past.1 ∙ sym to), λ same. moves (sym to ∙ same))
        | inr passes ↦
            let to : without d f z ≡ f z = without-other d f z so_far.1 passes in
            ((on.0, on.1 ∙ sym to), λ same. passes (sym to ∙ same))
      ]

  pub is_taken_out : IsTakenOut n d f (without d f)
  is_taken_out = record {
    permutes = Permutes-without;
    alone = without-at d f;
    unmoved = λ stays x x_in. elim (cases_eq x d) [
      | inl at_d ↦ ap (without d f) at_d ∙ without-at d f ∙ sym stays ∙ ap f (sym at_d)
      | inr other ↦ without-other d f x other (λ leads. other (permutes.apart x d x_in d_in (leads ∙ sym stays)))
    ];
    moved = λ moves. omega (arith, cycle_count-without moves);
    walks = λ x e x_in e_in x_other e_other. (
      λ there.
          let P : ℕ → Type 0 = λ z. Reaches f x z in
          subst P there.1 (reaches-with x x_in x_other there.0).0,
      λ there.
          let P : ℕ → Type 0 = λ z. Reaches (without d f) x z in
          subst P there.1 ((reaches-without d f x x_other there.0).0 (λ same. e_other (sym there.1 ∙ same))),
    );
  }
