-- The cycles that hold a number which passes a test.
use Rattle.std.proofs.Common.{◌≡◌, ℕ, zero, suc, ◌+◌, ◌<◌, inl, inr, Bool, true, false, not, ◌&&◌, refl, sym, ◌∙◌, ap, arith}
use Rattle.std.specs.List.{list_any}
use Rattle.std.proofs.lemmas.Bool.{both_ways, or_cases, or_left, or_right}
use Rattle.xn_model.specs.Permutation.{Permutes, Reaches, count_below, cycle_count, is_least, iterate, walk}
use Rattle.xn_model.proofs.Tests.{same_tests}
use Rattle.xn_model.proofs.Decide.{iterate-step}
use Rattle.xn_ring.proofs.Counting.{count-parts, count-same}
use Rattle.xn_ring.proofs.Orbits.{iterate_below, within}
use Rattle.xn_ring.specs.Parts.{cycle_count_with}

-- a test of the first k numbers of a walk
pub any_walk_at : (p : ℕ → Bool) (f : ℕ → ℕ) (k d : ℕ) → list_any p (walk f k d) ≡ true → (j : ℕ) × (j < k) × (p (iterate f j d) ≡ true)
any_walk_at p f zero d passes = absurd (both_ways false refl passes)
any_walk_at p f (suc k) d passes = elim (or_cases (p d) (list_any p (walk f k (f d))) passes) [
  | inl here ↦ (0, omega arith, here)
  | inr later ↦
      let found = any_walk_at p f k (f d) later in
      (suc found.0, omega (arith, found.1), ap p (sym (iterate-step f found.0 d)) ∙ found.2)
]

pub any_walk_from : (p : ℕ → Bool) (f : ℕ → ℕ) (k d j : ℕ) → j < k → p (iterate f j d) ≡ true → list_any p (walk f k d) ≡ true
any_walk_from p f zero d j early passes = absurd (omega arith)
any_walk_from p f (suc k) d zero early passes = or_left (p d) (list_any p (walk f k (f d))) passes
any_walk_from p f (suc k) d (suc j) early passes =
    or_right (p d) (list_any p (walk f k (f d))) (any_walk_from p f k (f d) j (omega arith) (ap p (iterate-step f j d) ∙ passes))

-- the cycle of d holds a number that passes
pub held-from_test : (p : ℕ → Bool) (n : ℕ) (f : ℕ → ℕ) (d : ℕ) → list_any p (walk f n d) ≡ true → (e : ℕ) × Reaches f d e × (p e ≡ true)
held-from_test p n f d passes = let found = any_walk_at p f n d passes in (iterate f found.0 d, (found.0, refl), found.2)

pub test-from_held : (p : ℕ → Bool) (n : ℕ) (f : ℕ → ℕ) → Permutes n f → (d e : ℕ) → d < n → Reaches f d e → p e ≡ true → list_any p (walk f n d) ≡ true
test-from_held p n f permutes d e d_in there passes =
    let early = within n f permutes d d_in there.0 in
    any_walk_from p f n d early.0 early.1 (ap p (early.2 ∙ there.1) ∙ passes)

and_true : (x y : Bool) → y ≡ true → (x && y) ≡ x
and_true true y e = e
and_true false y e = refl

-- where all pass, these are all cycles
pub cycle_count_with-all : (n : ℕ) (f : ℕ → ℕ) (p : ℕ → Bool) → ((d : ℕ) → d < n → p d ≡ true) → cycle_count_with n f p ≡ cycle_count n f
cycle_count_with-all n f p all =
    count-same n _ _ (λ d d_in. and_true (is_least n f d) (list_any p (walk f n d)) (any_walk_from p f n d 0 (omega (arith, d_in)) (all d d_in)))

-- where each cycle passes whole or not at all
module _ (n : ℕ) (f : ℕ → ℕ) (p : ℕ → Bool) (permutes : Permutes n f) (closed : (d : ℕ) → d < n → p (f d) ≡ p d) where
  pub same_along : (k d : ℕ) → d < n → p (iterate f k d) ≡ p d
  same_along zero d d_in = refl
  same_along (suc k) d d_in = closed (iterate f k d) (iterate_below n f permutes k d d_in) ∙ same_along k d d_in

  pub walks_stay : (d e : ℕ) → d < n → Reaches f d e → p e ≡ p d
  walks_stay d e d_in there = ap p (sym there.1) ∙ same_along there.0 d d_in

  any_is : (d : ℕ) → d < n → list_any p (walk f n d) ≡ p d
  any_is d d_in = same_tests (list_any p (walk f n d)) (p d)
      (λ passes. let found = any_walk_at p f n d passes in sym (same_along found.0 d d_in) ∙ found.2)
      (λ passes. any_walk_from p f n d 0 (omega (arith, d_in)) passes)

  pub cycle_count_with-closed : cycle_count_with n f p ≡ count_below n (λ d. is_least n f d && p d)
  cycle_count_with-closed = count-same n _ _ (λ d d_in. ap (λ x. is_least n f d && x) (any_is d d_in))

-- the two parts make up all
pub parts_add_up : (n : ℕ) (f : ℕ → ℕ) (p : ℕ → Bool) → Permutes n f → ((d : ℕ) → d < n → p (f d) ≡ p d) →
    cycle_count n f ≡ cycle_count_with n f p + cycle_count_with n f (λ d. not (p d))
parts_add_up n f p permutes closed =
    let one = cycle_count_with-closed n f p permutes closed in
    let two = cycle_count_with-closed n f (λ d. not (p d)) permutes (λ d d_in. ap not (closed d d_in)) in
    let all = count-parts n (is_least n f) p in
    omega (arith, one, two, all)
