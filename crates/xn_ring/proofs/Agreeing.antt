-- Functions that agree below a bound.
use Rattle.std.proofs.Common.{◌≡◌, ℕ, zero, suc, ◌<◌, leb, ◌∷◌, refl, sym, ◌∙◌, ap, arith}
use Rattle.std.specs.List.{list_all}
use Rattle.xn_model.specs.Permutation.{Permutes, cycle_count, iterate, walk}
use Rattle.xn_ring.proofs.Counting.{count-same}
use Rattle.xn_ring.proofs.Orbits.{iterate_below}
use Rattle.xn_ring.specs.Walks.{GoesTheSameWays}

module _ (n : ℕ) (f g : ℕ → ℕ) (permutes : Permutes n f) (same : (d : ℕ) → d < n → g d ≡ f d) where
  pub iterate-agrees : (d k : ℕ) → d < n → iterate g k d ≡ iterate f k d
  iterate-agrees d zero d_in = refl
  iterate-agrees d (suc k) d_in = ap g (iterate-agrees d k d_in) ∙ same (iterate f k d) (iterate_below n f permutes k d d_in)

  walk-agrees : (k d : ℕ) → d < n → walk g k d ≡ walk f k d
  walk-agrees zero d d_in = refl
  walk-agrees (suc k) d d_in =
      ap (λ xs. d ∷ xs) (ap (walk g k) (same d d_in) ∙ walk-agrees k (f d) (permutes.below d d_in))

  pub Permutes-agrees : Permutes n g
  Permutes-agrees = record {
    below = λ d d_in. omega (arith, same d d_in, permutes.below d d_in);
    apart = λ d e d_in e_in meets. permutes.apart d e d_in e_in (sym (same d d_in) ∙ meets ∙ same e e_in);
  }

  pub cycle_count-agrees : cycle_count n g ≡ cycle_count n f
  cycle_count-agrees = count-same n _ _ (λ d d_in. ap (list_all (λ e. leb d e)) (walk-agrees n d d_in))

  pub goes_the_same_ways : GoesTheSameWays n f g
  goes_the_same_ways = record { permutes = Permutes-agrees; count = cycle_count-agrees; walks = λ d k d_in. iterate-agrees d k d_in }
