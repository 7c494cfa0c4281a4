-- The least of a linear form over the box.
use Rattle.std.proofs.Common.{◌≡◌, ℕ, ◌<◌, arith, ap, sym, refl, ◌∙◌}
use Rattle.std.specs.Prelude.{ℤ, pos, negsuc, ◌+ℤ◌, ◌*ℤ◌, ◌≤ℤ◌, ◌<ℤ◌, if◌then◌else◌}
use Rattle.std.specs.Int.{is_negative}
use Rattle.std.proofs.lemmas.Int.{ints}
use Rattle.std.proofs.lemmas.Bool.{le-ltb}
use Rattle.xn_frac.specs.Ratio.{Ratio, whole, plus, times, IsNoMore}
use Rattle.xn_frac.proofs.Wholes.{times_one}
use Rattle.xn_lp.specs.Box.{sum_to, IsLeast, low_of}
use Rattle.xn_lp.specs.Whole.{total_to, IsOver, low_part}
use Rattle.xn_lp.proofs.Totals.{total-le, total-same, total-scale, add-mul}
use Rattle.xn_lp.proofs.LeastTotals.{low_le, chosen_value, chosen_within}
use Rattle.xn_lp.proofs.Over.{over-plus, over-times, over-wider, over-wider_left, over-sum_to, at_most-over, same-over}
use Rattle.xn_lp.proofs.Boxes.{Common, common, CommonAny, common_any, unit_from}
use Rattle.xn_lp.proofs.Certificates.{above_times}

low_sign : (m : ℤ) (d : ℕ) (u : ℤ) (n : ℕ) → 0 < d → 0 < n → m *ℤ pos n ≡ u *ℤ pos d → IsOver (low_of (record { num = m; den = d })) (low_part u) (pos n)
low_sign (pos a) d (pos b) n above some e = rw (le-ltb a 0 (omega arith), le-ltb b 0 (omega arith)) (record { positive = omega arith; value = omega (arith, ints) })
low_sign (pos a) d (negsuc b) n above some e = absurd (omega (arith, ints))
low_sign (negsuc a) d (pos b) n above some e = absurd (omega (arith, ints))
low_sign (negsuc a) d (negsuc b) n above some e = record { positive = above; value = e }

low_over : (p : Ratio) (u z : ℤ) → pos 0 <ℤ z → IsOver p u z → IsOver (low_of p) (low_part u) z
low_over p u (pos n) above h = low_sign p.num p.den u n h.positive (omega (arith, ints)) h.value
low_over p u (negsuc n) above h = absurd (omega (arith, ints))

-- with all coefficients over one denominator
scaled_form : (n : ℕ) (k : Ratio) (c : ℕ → Ratio) (m : ℤ) (g : ℕ → ℤ) (w : ℤ) → pos 0 <ℤ w → IsOver k m w → ((j : ℕ) → j < n → IsOver (c j) (g j) w) →
    IsLeast n (λ x. plus k (sum_to n (λ j. times (c j) (x j)))) (plus k (sum_to n (λ j. low_of (c j))))
scaled_form n k c m g w above over_k over_c =
    let least : IsOver (plus k (sum_to n (λ j. low_of (c j)))) (m +ℤ total_to n (λ j. low_part (g j))) w
    = over-plus k (sum_to n (λ j. low_of (c j))) m (total_to n (λ j. low_part (g j))) w over_k
    (over-sum_to n (λ j. low_of (c j)) (λ j. low_part (g j)) w (λ j l. low_over (c j) (g j) w above (over_c j l))) in
    record {
      positive = least.positive;
      bound = λ x box. bounded x (common n x box) least;
      reached = (
        λ j. whole (pick (g j)),
        λ j l. unit_from (whole (pick (g j))) (pick (g j)) (pos 1) one_above (whole_over (pick (g j))) (pick_within (g j)).0 (pick_within (g j)).1,
        same-over (plus k (sum_to n (λ j. times (c j) (whole (pick (g j)))))) (plus k (sum_to n (λ j. low_of (c j)))) (m *ℤ pos 1 +ℤ total_to n (λ j. g j *ℤ pick (g j))) ((m +ℤ total_to n (λ j. low_part (g j))) *ℤ pos 1) (w *ℤ pos 1)
            (above_times w (pos 1) above one_above)
            (over-plus k (sum_to n (λ j. times (c j) (whole (pick (g j))))) (m *ℤ pos 1) (total_to n (λ j. g j *ℤ pick (g j))) (w *ℤ pos 1) (over-wider k m w (pos 1) over_k)
            (over-sum_to n (λ j. times (c j) (whole (pick (g j)))) (λ j. g j *ℤ pick (g j)) (w *ℤ pos 1) (λ j l. over-times (c j) (whole (pick (g j))) (g j) (pick (g j)) w (pos 1) (over_c j l) (whole_over (pick (g j))))))
            (over-wider (plus k (sum_to n (λ j. low_of (c j)))) (m +ℤ total_to n (λ j. low_part (g j))) w (pos 1) least)
            (ap (λ t. m *ℤ pos 1 +ℤ t) (total-same n (λ j. g j *ℤ pick (g j)) (λ j. low_part (g j)) (λ j l. chosen_value (g j)))
            ∙ ap (λ t. t +ℤ total_to n (λ j. low_part (g j))) (times_one m) ∙ sym (times_one (m +ℤ total_to n (λ j. low_part (g j))))),
      );
    }
  where
    pick : ℤ → ℤ
    pick z = if is_negative z then pos 1 else pos 0

    one_above : pos 0 <ℤ pos 1
    one_above = omega (arith, ints)

    whole_over : (z : ℤ) → IsOver (whole z) z (pos 1)
    whole_over z = record { positive = omega arith; value = refl }

    pick_within : (z : ℤ) → (pos 0 ≤ℤ pick z) × (pick z ≤ℤ pos 1)
    pick_within z = chosen_within (is_negative z)

    bounded : (x : ℕ → Ratio) → (u : ℕ → ℤ) × (d : ℤ) × Common n x u d → IsOver (plus k (sum_to n (λ j. low_of (c j)))) (m +ℤ total_to n (λ j. low_part (g j))) w →
        IsNoMore (plus k (sum_to n (λ j. low_of (c j)))) (plus k (sum_to n (λ j. times (c j) (x j))))
    bounded x (u, d, is) least =
        let parts : total_to n (λ j. low_part (g j) *ℤ d) ≤ℤ total_to n (λ j. g j *ℤ u j)
        = total-le n (λ j. low_part (g j) *ℤ d) (λ j. g j *ℤ u j) (λ j l. low_le (g j) (u j) d (is.within j l).0 (is.within j l).1) in
        let scaled : total_to n (λ j. low_part (g j) *ℤ d) ≡ total_to n (λ j. low_part (g j)) *ℤ d = total-scale n (λ j. low_part (g j)) d in
        let opened : (m +ℤ total_to n (λ j. low_part (g j))) *ℤ d ≡ m *ℤ d +ℤ total_to n (λ j. low_part (g j)) *ℤ d = add-mul m (total_to n (λ j. low_part (g j))) d in
        let order : ((m +ℤ total_to n (λ j. low_part (g j))) *ℤ d) ≤ℤ (m *ℤ d +ℤ total_to n (λ j. g j *ℤ u j)) = omega (arith, ints) in
        at_most-over (plus k (sum_to n (λ j. low_of (c j)))) (plus k (sum_to n (λ j. times (c j) (x j)))) _ _ (w *ℤ d) (above_times w d above is.above)
        (over-wider (plus k (sum_to n (λ j. low_of (c j)))) (m +ℤ total_to n (λ j. low_part (g j))) w d least)
        (over-plus k (sum_to n (λ j. times (c j) (x j))) (m *ℤ d) (total_to n (λ j. g j *ℤ u j)) (w *ℤ d) (over-wider k m w d over_k)
        (over-sum_to n (λ j. times (c j) (x j)) (λ j. g j *ℤ u j) (w *ℤ d) (λ j l. over-times (c j) (x j) (g j) (u j) w d (over_c j l) (is.over j l))))
        order

pub least_of_form : (n : ℕ) (k : Ratio) (c : ℕ → Ratio) → 0 < k.den → ((j : ℕ) → j < n → 0 < (c j).den) →
    IsLeast n (λ x. plus k (sum_to n (λ j. times (c j) (x j)))) (plus k (sum_to n (λ j. low_of (c j))))
least_of_form n k c above each = from (common_any n c each)
  where
    from : (g : ℕ → ℤ) × (d : ℤ) × CommonAny n c g d → IsLeast n (λ x. plus k (sum_to n (λ j. times (c j) (x j)))) (plus k (sum_to n (λ j. low_of (c j))))
    from (g, d, is) =
        let wide : pos 0 <ℤ pos k.den = omega (arith, ints) in
        scaled_form n k c (k.num *ℤ d) (λ j. pos k.den *ℤ g j) (pos k.den *ℤ d) (above_times (pos k.den) d wide is.above)
        (over-wider k k.num (pos k.den) d (record { positive = above; value = refl })) (λ j l. over-wider_left (c j) (g j) d (pos k.den) (is.over j l))
