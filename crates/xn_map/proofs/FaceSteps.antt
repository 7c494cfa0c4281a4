-- The steps of faces.
use Rattle.std.proofs.Common.{◌≡◌, ℕ, suc, ◌/◌, ◌%◌, ◌<◌, ◌≤◌, ◌∙◌, arith}
use Rattle.xn_model.specs.Map.{face_step, reverse_of}
use Rattle.xn_model.specs.Permutation.{Permutes, Reaches, iterate}
use Rattle.xn_model.proofs.Darts.{reverse_apart, reverse_below}
use Rattle.xn_ring.proofs.Orbits.{within, within_round}

-- the reverse of one of an even number of darts is one of them
pub reverse_in : (n d : ℕ) → n % 2 ≡ 0 → d < n → reverse_of d < n
reverse_in n d even d_in = omega (arith, reverse_below (n / 2) d (omega arith))

pub Permutes-face_step : (n : ℕ) (next : ℕ → ℕ) → n % 2 ≡ 0 → Permutes n next → Permutes n (face_step next)
Permutes-face_step n next even permutes = record {
  below = λ d d_in. permutes.below (reverse_of d) (reverse_in n d even d_in);
  apart = λ d e d_in e_in same.
      reverse_apart d e (permutes.apart (reverse_of d) (reverse_of e) (reverse_in n d even d_in) (reverse_in n e even e_in) same);
}

-- where a walk came back and didn't meet e, it never does
pub not_met_round : (n : ℕ) (f : ℕ → ℕ) → Permutes n f → (d k e : ℕ) → iterate f (suc k) d ≡ d → ((j : ℕ) → j ≤ k → ¬ (iterate f j d ≡ e)) → ¬ (Reaches f d e)
not_met_round n f permutes d k e back unmet there =
    let early = within_round n f permutes d k back there.0 in
    unmet early.0 early.1 (early.2 ∙ there.1)

-- nor where it is as long as there are numbers
pub not_met_all : (n : ℕ) (f : ℕ → ℕ) → Permutes n f → (d e : ℕ) → d < n → ((j : ℕ) → j < n → ¬ (iterate f j d ≡ e)) → ¬ (Reaches f d e)
not_met_all n f permutes d e d_in unmet there =
    let early = within n f permutes d d_in there.0 in
    unmet early.0 early.1 (early.2 ∙ there.1)
