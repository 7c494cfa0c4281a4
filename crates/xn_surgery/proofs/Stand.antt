-- A dart that was alone stands in a corner.
use Rattle.std.proofs.Common.{◌≡◌, ◌≢◌, ℕ, zero, suc, ◌<◌, inl, inr, refl, sym, ◌∙◌, ap}
use Rattle.std.proofs.lemmas.Bool.{cases_eq, cond-true, cond-false, eq-eqb, ne_eqb}
use Rattle.xn_model.specs.Permutation.{IsSplice, Permutes, Reaches, iterate, without}
use Rattle.xn_surgery.specs.Corners.{Corner, after, lone, stand_at}
use Rattle.xn_ring.proofs.Agreeing.{Permutes-agrees, iterate-agrees}
use Rattle.xn_ring.proofs.Orbits.{iterate_below}
use Rattle.xn_ring.proofs.Splice.{Permutes-splice, joined, kept_to}
use Rattle.xn_ring.proofs.Without.{without-before, without-other}

-- P of the dart before the corner, where there is one
abbrev pub AtDart : Corner → (ℕ → Type 0) → Type 0
AtDart (after d) P = P d
AtDart (lone v) P = Unit {0}

pub stand_at_dart : (d z : ℕ) (f : ℕ → ℕ) → stand_at (after d) z f d ≡ z
stand_at_dart d z f = cond-true _ _ _ (eq-eqb d d refl)

pub stand_new : (d z : ℕ) (f : ℕ → ℕ) → d ≢ z → stand_at (after d) z f z ≡ f d
stand_new d z f other = cond-false _ _ _ (ne_eqb z d (λ e. other (sym e))) ∙ cond-true _ _ _ (eq-eqb z z refl)

pub stand_other : (d z : ℕ) (f : ℕ → ℕ) (x : ℕ) → x ≢ d → x ≢ z → stand_at (after d) z f x ≡ f x
stand_other d z f x not_d not_z = cond-false _ _ _ (ne_eqb x d not_d) ∙ cond-false _ _ _ (ne_eqb x z not_z)

pub alone_new : (v z : ℕ) (f : ℕ → ℕ) → stand_at (lone v) z f z ≡ z
alone_new v z f = cond-true _ _ _ (eq-eqb z z refl)

pub alone_other : (v z : ℕ) (f : ℕ → ℕ) (x : ℕ) → x ≢ z → stand_at (lone v) z f x ≡ f x
alone_other v z f x not_z = cond-false _ _ _ (ne_eqb x z not_z)

-- the rotation with z taken out again
pub stand_undone : (c : Corner) (z : ℕ) (f : ℕ → ℕ) (p : ℕ) → AtDart c (λ d. d ≢ z) → p ≢ z → f p ≢ z → without z (stand_at c z f) p ≡ f p
stand_undone (after d) z f p apart not_z leads = elim (cases_eq p d) [
  | inl same ↦
      without-before z (stand_at (after d) z f) p not_z (ap (stand_at (after d) z f) same ∙ stand_at_dart d z f) ∙ stand_new d z f apart ∙ ap f (sym same)
  | inr other ↦
      let is = stand_other d z f p other not_z in
      without-other z (stand_at (after d) z f) p not_z (λ e. leads (sym is ∙ e)) ∙ is
]
stand_undone (lone v) z f p apart not_z leads =
    let is = alone_other v z f p not_z in
    without-other z (stand_at (lone v) z f) p not_z (λ e. leads (sym is ∙ e)) ∙ is

-- rotations that agree but at z
pub stand-agree : (c : Corner) (z : ℕ) (f g : ℕ → ℕ) (x : ℕ) → AtDart c (λ d. f d ≡ g d) → (x ≢ z → f x ≡ g x) → stand_at c z f x ≡ stand_at c z g x
stand-agree (after d) z f g x at_d same = elim (cases_eq x d) [
  | inl here ↦ cond-true _ _ _ (eq-eqb x d here) ∙ sym (cond-true _ _ _ (eq-eqb x d here))
  | inr not_d ↦ elim (cases_eq x z) [
    | inl new ↦
        cond-false _ _ _ (ne_eqb x d not_d) ∙ cond-true _ _ _ (eq-eqb x z new) ∙ at_d
        ∙ sym (cond-false _ _ _ (ne_eqb x d not_d) ∙ cond-true _ _ _ (eq-eqb x z new))
    | inr not_z ↦ stand_other d z f x not_d not_z ∙ same not_z ∙ sym (stand_other d z g x not_d not_z)
  ]
]
stand-agree (lone v) z f g x at_d same = elim (cases_eq x z) [
  | inl new ↦ cond-true _ _ _ (eq-eqb x z new) ∙ sym (cond-true _ _ _ (eq-eqb x z new))
  | inr not_z ↦ alone_other v z f x not_z ∙ same not_z ∙ sym (alone_other v z g x not_z)
]

-- a walk below n is one of each function that agrees there
pub reaches-agrees : (n : ℕ) (f g : ℕ → ℕ) → Permutes n f → ((x : ℕ) → x < n → g x ≡ f x) → (d e : ℕ) → d < n → Reaches f d e → Reaches g d e
reaches-agrees n f g permutes same d e d_in there = (there.0, iterate-agrees n f g permutes same d there.0 d_in ∙ there.1)

pub splice_stand : (n d z : ℕ) (f : ℕ → ℕ) → f z ≡ z → d ≢ z → IsSplice n d z f (stand_at (after d) z f)
splice_stand n d z f alone other = record {
  first = stand_at_dart d z f ∙ sym alone;
  second = stand_new d z f other;
  others = λ x x_in not_d not_z. stand_other d z f x not_d not_z;
}

-- what z, alone until now, does where it stands
pub record Stood (n z : ℕ) (c : Corner) (f : ℕ → ℕ) : Type 0 where
  pub permutes : Permutes n (stand_at c z f)
  pub kept : (p q : ℕ) → p < n → q < n → Reaches f p q → Reaches (stand_at c z f) p q
  pub joins : AtDart c (λ d. Reaches (stand_at c z f) d z)

-- z can't be reached from elsewhere
alone_apart : (n : ℕ) (f : ℕ → ℕ) → Permutes n f → (d z : ℕ) → d < n → z < n → f z ≡ z → d ≢ z → Reaches f d z → ⊥
alone_apart n f permutes d z d_in z_in alone other there = other (back n f permutes d z d_in z_in alone there.0 there.1)
  where
    back : (n : ℕ) (f : ℕ → ℕ) → Permutes n f → (d z : ℕ) → d < n → z < n → f z ≡ z → (k : ℕ) → iterate f k d ≡ z → d ≡ z
    back n f permutes d z d_in z_in alone zero at = at
    back n f permutes d z d_in z_in alone (suc k) at =
        back n f permutes d z d_in z_in alone k (permutes.apart (iterate f k d) z (iterate_below n f permutes k d d_in) z_in (at ∙ sym alone))

pub stood : (n z : ℕ) (c : Corner) (f : ℕ → ℕ) → Permutes n f → z < n → f z ≡ z → AtDart c (λ d. (d < n) × (d ≢ z)) → Stood n z c f
stood n z (after d) f permutes z_in alone dart =
    let g = stand_at (after d) z f in
    let splice = splice_stand n d z f alone dart.1 in
    let g_permutes = Permutes-splice n d z f g permutes splice dart.0 z_in in
    let apart = alone_apart n f permutes d z dart.0 z_in alone dart.1 in
    record {
      permutes = g_permutes;
      kept = λ p q p_in q_in there. kept_to n d z f g permutes g_permutes splice dart.0 z_in apart p q p_in there;
      joins = joined n d z f g permutes g_permutes splice dart.0 z_in apart;
    }
stood n z (lone v) f permutes z_in alone dart =
    let g = stand_at (lone v) z f in
    let same : (x : ℕ) → x < n → g x ≡ f x = λ x x_in. elim (cases_eq x z) [
      | inl new ↦ ap g new ∙ alone_new v z f ∙ sym alone ∙ ap f (sym new)
      | inr other ↦ alone_other v z f x other
    ] in
    record {
      permutes = Permutes-agrees n f g permutes same;
      kept = λ p q p_in q_in there. reaches-agrees n f g permutes same p q p_in there;
      joins = tt;
    }
