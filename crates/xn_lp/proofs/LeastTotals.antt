-- The least of a sum of prices over the box.
use Rattle.std.proofs.Common.{◌≡◌, ℕ, suc, ◌*◌, ◌<◌, ◌≤◌, List, length, arith, ap, refl, ◌∙◌, Bool, true, false}
use Rattle.std.specs.Prelude.{ℤ, pos, negsuc, ◌+ℤ◌, ◌-ℤ◌, ◌*ℤ◌, ◌≤ℤ◌, if◌then◌else◌}
use Rattle.std.specs.Int.{is_negative}
use Rattle.std.proofs.lemmas.Int.{ints}
use Rattle.std.proofs.lemmas.Bool.{le-ltb}
use Rattle.std.proofs.Math.Nat.{mul-le-mul_left}
use Rattle.xn_frac.proofs.Wholes.{times_one}
use Rattle.xn_lp.specs.Whole.{total_to, number_at, weighted_total, low_part, IsLeastTotal, cost_total, combined_total, combined_reach}
use Rattle.xn_lp.specs.declared.program.Lp.{Lp}
use Rattle.xn_lp.proofs.Totals.{total-le, total-same, total-scale, add-mul}

low_pos : (n : ℕ) → low_part (pos n) ≡ pos 0
low_pos n = rw (le-ltb n 0 (omega arith)) refl

below_neg : (n m k : ℕ) → m ≤ k → (negsuc n *ℤ pos k) ≤ℤ (negsuc n *ℤ pos m)
below_neg n m k h = let more : suc n * m ≤ suc n * k = mul-le-mul_left (suc n) h in omega (arith, ints)

low_sized : (z : ℤ) (m k : ℕ) → m ≤ k → (low_part z *ℤ pos k) ≤ℤ (z *ℤ pos m)
low_sized (pos n) m k h = rw (low_pos n) (omega (arith, ints))
low_sized (negsuc n) m k h = below_neg n m k h

-- the price below 0 times the whole width is at most the price times the number
pub low_le : (z u d : ℤ) → pos 0 ≤ℤ u → u ≤ℤ d → (low_part z *ℤ d) ≤ℤ (z *ℤ u)
low_le z (pos m) (pos k) low high = low_sized z m k (omega (arith, ints))
low_le z (pos m) (negsuc k) low high = absurd (omega (arith, ints))
low_le z (negsuc m) d low high = absurd (omega (arith, ints))

-- 1 where the price is below 0
chosen : List ℤ → ℕ → ℤ
chosen prices j = if is_negative (number_at prices j) then pos 1 else pos 0

pub chosen_value : (z : ℤ) → z *ℤ (if is_negative z then pos 1 else pos 0) ≡ low_part z
chosen_value (pos n) = rw (le-ltb n 0 (omega arith)) (omega (arith, ints))
chosen_value (negsuc n) = times_one (negsuc n)

pub chosen_within : (b : Bool) → (pos 0 ≤ℤ (if b then pos 1 else pos 0)) × ((if b then pos 1 else pos 0) ≤ℤ pos 1)
chosen_within true = (omega (arith, ints), omega (arith, ints))
chosen_within false = (omega (arith, ints), omega (arith, ints))

-- the rows' reach and the prices below 0 are the least
pub least_from_prices : (lp : Lp) (w : ℤ) (q : ℕ → ℤ) (prices : List ℤ) (v : ℤ) → length prices ≡ length lp.cost →
    ((u : ℕ → ℤ) → weighted_total prices u ≡ w *ℤ cost_total lp u -ℤ combined_total lp q u) →
    v ≡ combined_reach lp q +ℤ total_to (length prices) (λ j. low_part (number_at prices j)) → IsLeastTotal lp w q v
unfolding chosen
least_from_prices lp w q prices v same_len each is = record {
  bound = λ u d from within.
      let parts : total_to (length prices) (λ j. low_part (number_at prices j) *ℤ d) ≤ℤ weighted_total prices u
      = total-le (length prices) (λ j. low_part (number_at prices j) *ℤ d) (λ j. number_at prices j *ℤ u j)
      (λ j l. let in' : j < length lp.cost = omega arith in low_le (number_at prices j) (u j) d (within j in').0 (within j in').1) in
      let scaled : total_to (length prices) (λ j. low_part (number_at prices j) *ℤ d) ≡ total_to (length prices) (λ j. low_part (number_at prices j)) *ℤ d
      = total-scale (length prices) (λ j. low_part (number_at prices j)) d in
      let value : v *ℤ d ≡ combined_reach lp q *ℤ d +ℤ total_to (length prices) (λ j. low_part (number_at prices j)) *ℤ d
      = ap (λ t. t *ℤ d) is ∙ add-mul (combined_reach lp q) (total_to (length prices) (λ j. low_part (number_at prices j))) d in
      let here : weighted_total prices u ≡ w *ℤ cost_total lp u -ℤ combined_total lp q u = each u in
      bounded (v *ℤ d) (combined_reach lp q *ℤ d) _ _ (weighted_total prices u) (w *ℤ cost_total lp u) (combined_total lp q u) value scaled parts here;
  reached = (
    chosen prices,
    λ j l. chosen_within (is_negative (number_at prices j)),
    let here : weighted_total prices (chosen prices) ≡ w *ℤ cost_total lp (chosen prices) -ℤ combined_total lp q (chosen prices) = each (chosen prices) in
        let lows : weighted_total prices (chosen prices) ≡ total_to (length prices) (λ j. low_part (number_at prices j))
        = total-same (length prices) (λ j. number_at prices j *ℤ chosen prices j) (λ j. low_part (number_at prices j)) (λ j l. chosen_value (number_at prices j)) in
        met v (combined_reach lp q) (combined_reach lp q *ℤ pos 1) _ (weighted_total prices (chosen prices)) (w *ℤ cost_total lp (chosen prices)) (combined_total lp q (chosen prices)) is (times_one (combined_reach lp q)) lows here,
  );
}
  where
    bounded : (vd rd s t p wc c : ℤ) → vd ≡ rd +ℤ t → s ≡ t → s ≤ℤ p → p ≡ wc -ℤ c → vd ≤ℤ (wc -ℤ c +ℤ rd)
    bounded vd rd s t p wc c e f h g = omega (arith, ints)

    met : (v r r1 t p wc c : ℤ) → v ≡ r +ℤ t → r1 ≡ r → p ≡ t → p ≡ wc -ℤ c → wc -ℤ c +ℤ r1 ≡ v
    met v r r1 t p wc c e f h g = omega (arith, ints)
