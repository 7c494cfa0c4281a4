-- What is checked in whole numbers is what an answer says.
use Rattle.std.proofs.Common.{◌≡◌, ◌&&◌, eqb, true, ℕ, ◌*◌, ◌<◌, List, length, arith, ap, sym, refl, ◌∙◌, subst}
use Rattle.std.specs.Prelude.{ℤ, pos, negsuc, ◌+ℤ◌, ◌-ℤ◌, ◌*ℤ◌, neg_ℤ, ◌≤ℤ◌, ◌<ℤ◌}
use Rattle.std.proofs.Math.IntN.{zero-*ℤ}
use Rattle.std.proofs.Common.{int_eq}
use Rattle.std.proofs.lemmas.Bool.Decides.{Decides-int_eq}
use Rattle.std.proofs.lemmas.Int.{ints}
use Rattle.std.proofs.lemmas.Bool.{and_parts, eqb-true}
use Rattle.xn_frac.specs.Ratio.{Ratio, whole, minus, Same, IsNoMore, IsLess, ratio_of, IsFracOf}
use Rattle.xn_frac.proofs.Gaps.{gaps, gap-same, by_gap3, by_gap4}
use Rattle.xn_frac.proofs.Wholes.{times_one}
use Rattle.xn_frac.proofs.Ratios.{cancel, swapped, above_product}
use Rattle.xn_lp.specs.Box.{entry, IsInBox, IsGreatest}
use Rattle.xn_lp.specs.Program.{term_at, row_at, cost_at, NamesColumns, row_sum, cost_of, IsNatural, surplus_of, priced_cost, combined_sum, combined_least, IsBest, IsRay}
use Rattle.xn_lp.specs.Whole.{total_to, number_at, IsOver, AreOver, AreWithin, AreNatural, MeetsRows, row_total, cost_total, combined_total, combined_reach, priced_total, IsLeastTotal, IsBestTotal}
use Rattle.xn_lp.specs.declared.program.Lp.{Lp}
use Rattle.xn_lp.proofs.Totals.{total-same, total-add, total-neg, total-scale, neg-times, add-mul}
use Rattle.xn_lp.proofs.Over.{over-whole, over-times, over-minus, over-scaled, over-scaled_right, over-wider, over-wider_left, over-sum_to, at_most-over, same-over, below-over, positive_is}
use Rattle.xn_lp.proofs.Boxes.{Common, common, unit_from, whole_common}

-- ---- the values of a program at numbers over one denominator
pub row_over : (lp : Lp) (i : ℕ) (x : ℕ → Ratio) (u : ℕ → ℤ) (d : ℤ) → NamesColumns lp → i < length lp.rows → ((j : ℕ) → j < length lp.cost → IsOver (x j) (u j) d) →
    IsOver (row_sum (row_at lp i) x) (row_total (row_at lp i) u) d
row_over lp i x u d named l over = over-sum_to (length (row_at lp i).terms) _ _ d
    (λ k m. over-scaled (term_at (row_at lp i).terms k).1 (x (term_at (row_at lp i).terms k).0) (u (term_at (row_at lp i).terms k).0) d (over (term_at (row_at lp i).terms k).0 (named i k l m)))

pub cost_over : (lp : Lp) (x : ℕ → Ratio) (u : ℕ → ℤ) (d : ℤ) → ((j : ℕ) → j < length lp.cost → IsOver (x j) (u j) d) → IsOver (cost_of lp x) (cost_total lp u) d
cost_over lp x u d over = over-sum_to (length lp.cost) _ _ d (λ j l. over-scaled (cost_at lp j) (x j) (u j) d (over j l))

pub combined_over : (lp : Lp) (y x : ℕ → Ratio) (q u : ℕ → ℤ) (z d : ℤ) → NamesColumns lp → ((i : ℕ) → i < length lp.rows → IsOver (y i) (q i) z) →
    ((j : ℕ) → j < length lp.cost → IsOver (x j) (u j) d) → IsOver (combined_sum lp y x) (combined_total lp q u) (z *ℤ d)
combined_over lp y x q u z d named over_y over = over-sum_to (length lp.rows) _ _ (z *ℤ d)
    (λ i l. over-times (y i) (row_sum (row_at lp i) x) (q i) (row_total (row_at lp i) u) z d (over_y i l) (row_over lp i x u d named l over))

pub reach_over : (lp : Lp) (y : ℕ → Ratio) (q : ℕ → ℤ) (z : ℤ) → ((i : ℕ) → i < length lp.rows → IsOver (y i) (q i) z) → IsOver (combined_least lp y) (combined_reach lp q) z
reach_over lp y q z over_y = over-sum_to (length lp.rows) _ _ z (λ i l. over-scaled_right (row_at lp i).least (y i) (q i) z (over_y i l))

surplus_terms : (lp : Lp) (q u : ℕ → ℤ) (d : ℤ) →
    total_to (length lp.rows) (λ i. q i *ℤ (row_total (row_at lp i) u -ℤ (row_at lp i).least *ℤ d)) ≡ combined_total lp q u -ℤ combined_reach lp q *ℤ d
surplus_terms lp q u d =
    total-same (length lp.rows) _ (λ i. q i *ℤ row_total (row_at lp i) u +ℤ (neg_ℤ (q i *ℤ (row_at lp i).least)) *ℤ d) (λ i l. opened (q i) (row_total (row_at lp i) u) (row_at lp i).least d)
    ∙ total-add (length lp.rows) (λ i. q i *ℤ row_total (row_at lp i) u) (λ i. (neg_ℤ (q i *ℤ (row_at lp i).least)) *ℤ d)
    ∙ ap (λ t. combined_total lp q u +ℤ t) (total-scale (length lp.rows) (λ i. neg_ℤ (q i *ℤ (row_at lp i).least)) d
    ∙ ap (λ t. t *ℤ d) (total-neg (length lp.rows) (λ i. q i *ℤ (row_at lp i).least)) ∙ neg-times (combined_reach lp q) d)
  where
    opened : (q r l d : ℤ) → q *ℤ (r -ℤ l *ℤ d) ≡ q *ℤ r +ℤ (neg_ℤ (q *ℤ l)) *ℤ d
    opened q r l d = by_gap4 (λ q r l d. q *ℤ (r -ℤ l *ℤ d) ≡ q *ℤ r +ℤ (neg_ℤ (q *ℤ l)) *ℤ d) (λ a b c e f g h i. simp gaps (gap-same _ _ _ _ (omega arith))) q r l d

pub priced_over : (lp : Lp) (y x : ℕ → Ratio) (q u : ℕ → ℤ) (z d : ℤ) → NamesColumns lp → ((i : ℕ) → i < length lp.rows → IsOver (y i) (q i) z) →
    ((j : ℕ) → j < length lp.cost → IsOver (x j) (u j) d) → IsOver (priced_cost lp y x) (priced_total lp z q u d) (z *ℤ d)
priced_over lp y x q u z d named over_y over =
    subst (λ t. IsOver (priced_cost lp y x) t (z *ℤ d)) (ap (λ t. z *ℤ cost_total lp u -ℤ t) (surplus_terms lp q u d) ∙ spread (z *ℤ cost_total lp u) (combined_total lp q u) (combined_reach lp q *ℤ d))
    (over-minus (cost_of lp x) (surplus_of lp y x) (z *ℤ cost_total lp u) _ (z *ℤ d)
    (over-wider_left (cost_of lp x) (cost_total lp u) d z (cost_over lp x u d over))
    (over-sum_to (length lp.rows) _ _ (z *ℤ d)
    (λ i l. over-times (y i) (minus (row_sum (row_at lp i) x) (whole (row_at lp i).least)) (q i) (row_total (row_at lp i) u -ℤ (row_at lp i).least *ℤ d) z d (over_y i l)
    (over-minus (row_sum (row_at lp i) x) (whole (row_at lp i).least) (row_total (row_at lp i) u) ((row_at lp i).least *ℤ d) d (row_over lp i x u d named l over) (over-whole (row_at lp i).least d)))))
  where
    spread : (a b c : ℤ) → a -ℤ (b -ℤ c) ≡ a -ℤ b +ℤ c
    spread a b c = omega (arith, ints)

pub above_times : (z d : ℤ) → pos 0 <ℤ z → pos 0 <ℤ d → pos 0 <ℤ (z *ℤ d)
above_times (pos m) (pos n) h k = let some : 0 < m * n = above_product m n (omega (arith, ints)) (omega (arith, ints)) in omega (arith, ints)
above_times (pos m) (negsuc n) h k = absurd (omega (arith, ints))
above_times (negsuc m) d h k = absurd (omega (arith, ints))

pub from_zero : (d : ℤ) → pos 0 <ℤ d → pos 0 ≤ℤ d
from_zero d h = omega (arith, ints)

cancelled : (a b z : ℤ) → pos 0 <ℤ z → a *ℤ z ≡ b *ℤ z → a ≡ b
cancelled a b z above e = width (positive_is z above)
  where
    width : (n : ℕ) × (z ≡ pos n) × (0 < n) → a ≡ b
    width (n, is, some) = cancel a b n some (subst (λ t. a *ℤ t ≡ b *ℤ t) is e)

-- a number u over p is v over z where u * z and v * p are one
moved : (a : Ratio) (u p v z : ℤ) → pos 0 <ℤ p → IsOver a u p → u *ℤ z ≡ v *ℤ p → IsOver a v z
moved a u p v z above h e = record {
  positive = h.positive;
  value = cancelled (a.num *ℤ z) (v *ℤ pos a.den) p above
      (turned a.num z p ∙ ap (λ t. t *ℤ z) h.value ∙ turned u (pos a.den) z ∙ ap (λ t. t *ℤ pos a.den) e ∙ turned v p (pos a.den));
}
  where
    turned : (a b c : ℤ) → (a *ℤ b) *ℤ c ≡ (a *ℤ c) *ℤ b
    turned a b c = by_gap3 (λ a b c. (a *ℤ b) *ℤ c ≡ (a *ℤ c) *ℤ b) (λ s t u v w x. simp gaps (gap-same _ _ _ _ (omega arith))) a b c

natural_from : (p : Ratio) (u z : ℤ) → pos 0 <ℤ z → IsOver p u z → pos 0 ≤ℤ u → IsNatural p
natural_from p u z above h low = record {
  positive = h.positive;
  low = at_most-over (whole (pos 0)) p (pos 0 *ℤ z) u z above (over-whole (pos 0) z) h (subst (λ t. t ≤ℤ u) (sym (zero-*ℤ z)) low);
}

-- ---- a best answer
pub best_from : (lp : Lp) (point duals : List Ratio) (us qs : List ℤ) (p z v : ℤ) → NamesColumns lp → length point ≡ length lp.cost → length duals ≡ length lp.rows →
    AreOver point us p → AreOver duals qs z → AreWithin (length us) (number_at us) p → AreNatural qs → MeetsRows lp (number_at us) p →
    IsLeastTotal lp z (number_at qs) v → cost_total lp (number_at us) *ℤ z ≡ v *ℤ p → IsBest lp (entry point) (entry duals)
best_from lp point duals us qs p z v named len_point len_duals over_p over_q within natural meets least equal =
    let over_x : (j : ℕ) → j < length lp.cost → IsOver (entry point j) (number_at us j) p = λ j l. over_p.each j (omega arith) in
    let over_y : (i : ℕ) → i < length lp.rows → IsOver (entry duals i) (number_at qs i) z = λ i l. over_q.each i (omega arith) in
    let len_us : length us ≡ length lp.cost = over_p.len ∙ len_point in
    let len_qs : length qs ≡ length lp.rows = over_q.len ∙ len_duals in
    let cost : IsOver (cost_of lp (entry point)) v z
    = moved (cost_of lp (entry point)) (cost_total lp (number_at us)) p v z over_p.positive (cost_over lp (entry point) (number_at us) p over_x) equal in
    record {
      point = record {
        box = λ j l. unit_from (entry point j) (number_at us j) p over_p.positive (over_x j l) (within j (omega arith)).0 (within j (omega arith)).1;
        rows = λ i l. at_most-over (whole (row_at lp i).least) (row_sum (row_at lp i) (entry point)) ((row_at lp i).least *ℤ p) (row_total (row_at lp i) (number_at us)) p
            over_p.positive (over-whole (row_at lp i).least p) (row_over lp i (entry point) (number_at us) p named l over_x) (meets i l);
      };
      duals = λ i l. natural_from (entry duals i) (number_at qs i) z over_q.positive (over_y i l) (natural i (omega arith));
      equal = record {
        positive = cost.positive;
        bound = λ x in_box. bounded x (common (length lp.cost) x in_box) over_y cost;
        reached = reached_at least.reached over_y cost;
      };
    }
  where
    bounded : (x : ℕ → Ratio) → (u : ℕ → ℤ) × (d : ℤ) × Common (length lp.cost) x u d →
        ((i : ℕ) → i < length lp.rows → IsOver (entry duals i) (number_at qs i) z) → IsOver (cost_of lp (entry point)) v z →
        IsNoMore (cost_of lp (entry point)) (priced_cost lp (entry duals) x)
    bounded x (u, d, is) over_y cost =
        at_most-over (cost_of lp (entry point)) (priced_cost lp (entry duals) x) (v *ℤ d) (priced_total lp z (number_at qs) u d) (z *ℤ d)
        (above_times z d over_q.positive is.above) (over-wider (cost_of lp (entry point)) v z d cost)
        (priced_over lp (entry duals) x (number_at qs) u z d named over_y is.over) (least.bound u d (from_zero d is.above) is.within)

    reached_at : (u : ℕ → ℤ) × AreWithin (length lp.cost) u (pos 1) × (priced_total lp z (number_at qs) u (pos 1) ≡ v) →
        ((i : ℕ) → i < length lp.rows → IsOver (entry duals i) (number_at qs i) z) → IsOver (cost_of lp (entry point)) v z →
        (x : ℕ → Ratio) × IsInBox (length lp.cost) x × Same (priced_cost lp (entry duals) x) (cost_of lp (entry point))
    reached_at (u, in_box, is) over_y cost =
        let ones : Common (length lp.cost) (λ j. whole (u j)) u (pos 1) = whole_common (length lp.cost) u in_box in (
          λ j. whole (u j),
          λ j l. unit_from (whole (u j)) (u j) (pos 1) ones.above (ones.over j l) (in_box j l).0 (in_box j l).1,
          same-over (priced_cost lp (entry duals) (λ j. whole (u j))) (cost_of lp (entry point)) (priced_total lp z (number_at qs) u (pos 1)) (v *ℤ pos 1) (z *ℤ pos 1)
              (above_times z (pos 1) over_q.positive ones.above) (priced_over lp (entry duals) (λ j. whole (u j)) (number_at qs) u z (pos 1) named over_y ones.over)
              (over-wider (cost_of lp (entry point)) v z (pos 1) cost) (is ∙ sym (times_one v)),
        )

pub best_is : (lp : Lp) (point duals : List Ratio) (us qs : List ℤ) (p z : ℤ) → NamesColumns lp → length point ≡ length lp.cost → length duals ≡ length lp.rows →
    AreOver point us p → AreOver duals qs z → IsBestTotal lp us p qs z → IsBest lp (entry point) (entry duals)
best_is lp point duals us qs p z named len_point len_duals over_p over_q is = from_value is.equal
  where
    from_value : (v : ℤ) × IsLeastTotal lp z (number_at qs) v × (cost_total lp (number_at us) *ℤ z ≡ v *ℤ p) → IsBest lp (entry point) (entry duals)
    from_value (v, least, equal) =
        best_from lp point duals us qs p z v named len_point len_duals over_p over_q is.point.within is.natural is.point.meets least equal

-- ---- a ray
no_weight : (z : ℤ) → pos 0 *ℤ z ≡ pos 0
no_weight z = zero-*ℤ z

ray_bound : (v d c r t w : ℤ) → pos 0 ≤ℤ d → (v *ℤ d) ≤ℤ (w -ℤ c +ℤ r *ℤ d) → w ≡ pos 0 → v ≡ neg_ℤ t +ℤ r → c ≤ℤ (t *ℤ d)
ray_bound v d c r t w from h e f =
    let opened : v *ℤ d ≡ neg_ℤ (t *ℤ d) +ℤ r *ℤ d = ap (λ s. s *ℤ d) f ∙ add-mul (neg_ℤ t) r d ∙ ap (λ s. s +ℤ r *ℤ d) (neg-times t d) in
    omega (arith, ints)

ray_value : (v c r r1 w : ℤ) → w -ℤ c +ℤ r1 ≡ v → w ≡ pos 0 → r1 ≡ r → v ≡ neg_ℤ c +ℤ r
ray_value v c r r1 w e f g = omega (arith, ints)

ray_passes : (v c r : ℤ) → v ≡ neg_ℤ c +ℤ r → pos 0 <ℤ v → c <ℤ r
ray_passes v c r e h = omega (arith, ints)

pub ray_from : (lp : Lp) (ray : List Ratio) (qs : List ℤ) (z v : ℤ) → NamesColumns lp → length ray ≡ length lp.rows → AreOver ray qs z → AreNatural qs →
    IsLeastTotal lp (pos 0) (number_at qs) v → pos 0 <ℤ v → IsRay lp (entry ray)
ray_from lp ray qs z v named len_ray over_q natural least above =
    let len_qs : length qs ≡ length lp.rows = over_q.len ∙ len_ray in
    let over_y : (i : ℕ) → i < length lp.rows → IsOver (entry ray i) (number_at qs i) z = λ i l. over_q.each i (omega arith) in
    record {
      ray = λ i l. natural_from (entry ray i) (number_at qs i) z over_q.positive (over_y i l) (natural i (omega arith));
      passes = passed least.reached over_y;
    }
  where
    bounded : (g : Ratio) (t : ℤ) → IsOver g t z → v ≡ neg_ℤ t +ℤ combined_reach lp (number_at qs) → ((i : ℕ) → i < length lp.rows → IsOver (entry ray i) (number_at qs i) z) →
        (x : ℕ → Ratio) → (u : ℕ → ℤ) × (d : ℤ) × Common (length lp.cost) x u d → IsNoMore (combined_sum lp (entry ray) x) g
    bounded g t over_g value over_y x (u, d, is) =
        at_most-over (combined_sum lp (entry ray) x) g (combined_total lp (number_at qs) u) (t *ℤ d) (z *ℤ d) (above_times z d over_q.positive is.above)
        (combined_over lp (entry ray) x (number_at qs) u z d named over_y is.over) (over-wider g t z d over_g)
        (ray_bound v d (combined_total lp (number_at qs) u) (combined_reach lp (number_at qs)) t (pos 0 *ℤ cost_total lp u) (from_zero d is.above)
        (least.bound u d (from_zero d is.above) is.within) (no_weight (cost_total lp u)) value)

    passed : (u : ℕ → ℤ) × AreWithin (length lp.cost) u (pos 1) × (priced_total lp (pos 0) (number_at qs) u (pos 1) ≡ v) →
        ((i : ℕ) → i < length lp.rows → IsOver (entry ray i) (number_at qs i) z) →
        (g : Ratio) × IsGreatest (length lp.cost) (combined_sum lp (entry ray)) g × IsLess g (combined_least lp (entry ray))
    passed (u, in_box, is) over_y =
        let ones : Common (length lp.cost) (λ j. whole (u j)) u (pos 1) = whole_common (length lp.cost) u in_box in
        let g : Ratio = combined_sum lp (entry ray) (λ j. whole (u j)) in
        let over_g : IsOver g (combined_total lp (number_at qs) u) z
        = subst (IsOver g (combined_total lp (number_at qs) u)) (times_one z) (combined_over lp (entry ray) (λ j. whole (u j)) (number_at qs) u z (pos 1) named over_y ones.over) in
        let value : v ≡ neg_ℤ (combined_total lp (number_at qs) u) +ℤ combined_reach lp (number_at qs)
        = ray_value v (combined_total lp (number_at qs) u) (combined_reach lp (number_at qs)) (combined_reach lp (number_at qs) *ℤ pos 1) (pos 0 *ℤ cost_total lp u) is
        (no_weight (cost_total lp u)) (times_one (combined_reach lp (number_at qs))) in (
          g,
          record {
            positive = over_g.positive;
            bound = λ x box. bounded g (combined_total lp (number_at qs) u) over_g value over_y x (common (length lp.cost) x box);
            reached = (
              λ j. whole (u j),
              λ j l. unit_from (whole (u j)) (u j) (pos 1) ones.above (ones.over j l) (in_box j l).0 (in_box j l).1,
              same-over g g (combined_total lp (number_at qs) u) (combined_total lp (number_at qs) u) z over_q.positive over_g over_g refl,
            );
          },
          below-over g (combined_least lp (entry ray)) (combined_total lp (number_at qs) u) (combined_reach lp (number_at qs)) z over_q.positive over_g
              (reach_over lp (entry ray) (number_at qs) z over_y) (ray_passes v (combined_total lp (number_at qs) u) (combined_reach lp (number_at qs)) value above),
        )

-- ---- one fraction of two pairs of numbers
one_fraction : (p r : Ratio) → (int_eq p.num r.num && eqb p.den r.den) ≡ true → p ≡ r
one_fraction p r e =
    let both : (int_eq p.num r.num ≡ true) × (eqb p.den r.den ≡ true) = and_parts _ _ e in
    let num : p.num ≡ r.num = (Decides-int_eq p.num r.num).0 both.0 in
    let den : p.den ≡ r.den = eqb-true _ _ both.1 in
    λ i. record { num = num i; den = den i }

crossed : (m n fn : ℤ) (d e fd : ℕ) → 0 < fd → fn *ℤ pos d ≡ m *ℤ pos fd → fn *ℤ pos e ≡ n *ℤ pos fd → m *ℤ pos e ≡ n *ℤ pos d
crossed m n fn d e fd above first second =
    cancel (m *ℤ pos e) (n *ℤ pos d) fd above
    (swapped m e fd ∙ ap (λ t. t *ℤ pos e) (sym first) ∙ swapped fn d e ∙ ap (λ t. t *ℤ pos d) second ∙ swapped n fd d)

pub same_fractions : (m d n e : ℤ) (p r : Ratio) → pos 0 <ℤ d → pos 0 <ℤ e → IsFracOf (ratio_of m d) p → IsFracOf (ratio_of n e) r →
    (int_eq p.num r.num && eqb p.den r.den) ≡ true → m *ℤ e ≡ n *ℤ d
same_fractions m (pos d) n (pos e) p r above above_e first second yes_one =
    let one : p ≡ r = one_fraction p r yes_one in
    crossed m n p.num d e p.den first.frac.positive first.same (subst (λ (t : Ratio). t.num *ℤ pos e ≡ n *ℤ pos t.den) (sym one) second.same)
same_fractions m (pos d) n (negsuc e) p r above above_e first second yes_one = absurd (omega (arith, ints))
same_fractions m (negsuc d) n e p r above above_e first second yes_one = absurd (omega (arith, ints))
