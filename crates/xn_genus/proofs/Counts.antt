-- Counts of cycles and of nodes.
use Rattle.std.proofs.Common.{◌≡◌, ◌≢◌, ℕ, zero, suc, ◌+◌, ◌*◌, ◌<◌, inl, inr, Bool, true, false, not, ◌&&◌, eqb, [], refl, sym, ◌∙◌, ap, subst, arith}
use Rattle.std.proofs.lemmas.Bool.{cases_eq, eq-eqb, ne_eqb}
use Rattle.std.proofs.lemmas.List.FromFn.{get_or-range_with_len}
use Rattle.xn_model.specs.Lists.{one_if}
use Rattle.xn_model.specs.Map.{component_count, face_step, reverse_of}
use Rattle.xn_model.specs.Permutation.{Permutes, iterate, cycle_count, count_below, IsSplice}
use Rattle.xn_ring.proofs.Agreeing.{cycle_count-agrees}
use Rattle.xn_ring.proofs.Counting.{count-all, count-same}
use Rattle.xn_ring.proofs.Halves.{Permutes-below_pair, top_is_a_pair}
use Rattle.xn_model.proofs.Darts.{reverse-reverse, reverse_below, reverse_apart}

-- two permutations that agree have as many cycles
pub cycle_count-congr : (n : ℕ) (f g : ℕ → ℕ) → Permutes n f → ((x : ℕ) → x < n → g x ≡ f x) → cycle_count n f ≡ cycle_count n g
cycle_count-congr n f g permutes same = sym (cycle_count-agrees n f g permutes same)

-- a number that is alone is all of its walk
pub stays_alone : (f : ℕ → ℕ) (d : ℕ) → f d ≡ d → (k : ℕ) → iterate f k d ≡ d
stays_alone f d alone zero = refl
stays_alone f d alone (suc k) = ap f (stays_alone f d alone k) ∙ alone

-- the last two numbers are a cycle of their own
pub Permutes-front : (n : ℕ) (f : ℕ → ℕ) → Permutes (suc (suc n)) f → f n ≡ suc n → f (suc n) ≡ n → Permutes n f
Permutes-front n f permutes there back =
    let two : suc (suc n) ≡ n + 2 = omega arith in
    let next : suc n ≡ n + 1 = omega arith in
    let P : ℕ → Type 0 = λ k. Permutes k f in
    Permutes-below_pair n f (there ∙ next) (ap f (sym next) ∙ back) (subst P two permutes)

pub cycle_count-front : (n : ℕ) (f : ℕ → ℕ) → Permutes (suc (suc n)) f → f n ≡ suc n → f (suc n) ≡ n → cycle_count (suc (suc n)) f ≡ suc (cycle_count n f)
cycle_count-front n f permutes there back =
    let two : suc (suc n) ≡ n + 2 = omega arith in
    let next : suc n ≡ n + 1 = omega arith in
    let one : suc (cycle_count n f) ≡ cycle_count n f + 1 = omega arith in
    ap (λ k. cycle_count k f) two ∙ (top_is_a_pair n f (there ∙ next) (ap f (sym next) ∙ back)).1 (Permutes-front n f permutes there back) ∙ sym one

-- a swap of a number with itself changes nothing
pub cycle_count-alone : (n a b : ℕ) (f g : ℕ → ℕ) → Permutes n f → IsSplice n a b f g → a ≡ b → cycle_count n f ≡ cycle_count n g
cycle_count-alone n a b f g permutes s same = cycle_count-congr n f g permutes (λ x x_in. elim (cases_eq x a) [
  | inl at_a ↦ ap g at_a ∙ s.first ∙ ap f (sym same ∙ sym at_a)
  | inr not_a ↦ s.others x x_in not_a (λ at_b. not_a (at_b ∙ sym same))
])

-- the faces of a permutation of the darts
pub Permutes-face : (m : ℕ) (f : ℕ → ℕ) → Permutes (2 * m) f → Permutes (2 * m) (face_step f)
Permutes-face m f permutes = record {
  below = λ d d_in. permutes.below _ (reverse_below m d d_in);
  apart = λ d e d_in e_in same. reverse_apart d e (permutes.apart _ _ (reverse_below m d d_in) (reverse_below m e e_in) same);
}

pub IsSplice-face : (m a b : ℕ) (f g : ℕ → ℕ) → IsSplice (2 * m) a b f g → IsSplice (2 * m) (reverse_of a) (reverse_of b) (face_step f) (face_step g)
IsSplice-face m a b f g s = record {
  first = ap g (reverse-reverse a) ∙ s.first ∙ ap f (sym (reverse-reverse b));
  second = ap g (reverse-reverse b) ∙ s.second ∙ ap f (sym (reverse-reverse a));
  others = λ d d_in not_a not_b. s.others (reverse_of d) (reverse_below m d d_in)
      (λ e. not_a (sym (reverse-reverse d) ∙ ap reverse_of e)) (λ e. not_b (sym (reverse-reverse d) ∙ ap reverse_of e));
}

-- how a count falls where one number no longer passes
pub count_below-drop : (n : ℕ) (p : ℕ → Bool) (m : ℕ) → m < n → count_below n p ≡ count_below n (λ w. p w && not (eqb m w)) + one_if (p m)
count_below-drop zero p m m_in = absurd (omega arith)
count_below-drop (suc n) p m m_in = elim (cases_eq m n) [
  | inl last ↦
      let low = count-same n p (λ w. p w && not (eqb m w)) (λ w w_in. sym (kept w (λ e. omega arith))) in
      let gone : one_if (p n && not (eqb m n)) ≡ 0 = ap one_if (dropped n last) in
      let same : one_if (p m) ≡ one_if (p n) = ap (λ x. one_if (p x)) last in
      omega (arith, low, gone, same)
  | inr before ↦
      let low = count_below-drop n p m (omega arith) in
      let last : one_if (p n && not (eqb m n)) ≡ one_if (p n) = ap one_if (kept n before) in
      omega (arith, low, last)
]
  where
    kept : (w : ℕ) → m ≢ w → (p w && not (eqb m w)) ≡ p w
    kept w other = ap (λ b. p w && not b) (ne_eqb m w other) ∙ and-true (p w)
      where
        and-true : (b : Bool) → (b && true) ≡ b
        and-true true = refl
        and-true false = refl

    dropped : (w : ℕ) → m ≡ w → (p w && not (eqb m w)) ≡ false
    dropped w same = ap (λ b. p w && not b) (eq-eqb m w same) ∙ and-false (p w)
      where
        and-false : (b : Bool) → (b && false) ≡ false
        and-false true = refl
        and-false false = refl

pub no_segments : (nodes : ℕ) → component_count nodes [] ≡ nodes
no_segments nodes = count-same nodes _ (λ v. true) (λ v v_in. eq-eqb _ _ (get_or-range_with_len 0 nodes v 0 v_in ∙ omega arith)) ∙ count-all nodes
