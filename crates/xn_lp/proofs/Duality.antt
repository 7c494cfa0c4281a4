-- Points against multipliers.
use Rattle.std.proofs.Common.{ℕ, ◌<◌, ◌↔◌, length, arith, sym, subst}
use Rattle.std.specs.Prelude.{ℤ, pos, negsuc, ◌*ℤ◌, ◌≤ℤ◌}
use Rattle.std.proofs.Math.IntN.{*ℤ_comm, zero-*ℤ}
use Rattle.std.proofs.lemmas.Int.{ints}
use Rattle.xn_frac.specs.Ratio.{Ratio, whole, IsNoMore, IsLess}
use Rattle.xn_frac.proofs.Ratios.{le_cancel, le_times, swapped}
use Rattle.xn_lp.specs.Box.{entry, IsLeast, IsGreatest}
use Rattle.xn_lp.specs.Program.{row_at, NamesColumns, cost_of, row_sum, IsPoint, AreMultipliers, priced_cost, combined_sum, combined_least, IsRay, AnswerHolds, IsNothing, HasNoPoint}
use Rattle.xn_lp.specs.Whole.{IsOver, row_total, cost_total, combined_total, combined_reach, priced_total}
use Rattle.xn_lp.specs.declared.program.Lp.{Lp}
use Rattle.xn_lp.specs.declared.program.LpAnswer.{LpAnswer}
use Rattle.xn_lp.specs.declared.program.LpAnswer.TheVariants.{Best, Nothing}
use Rattle.xn_lp.proofs.Totals.{total-le, total-scale, mul_assoc}
use Rattle.xn_lp.proofs.Over.{over-whole, over-wider, over-wider_left, at_most-over, over-at_most}
use Rattle.xn_lp.proofs.Boxes.{Common, common, CommonAny, common_any}
use Rattle.xn_lp.proofs.Certificates.{row_over, cost_over, combined_over, reach_over, priced_over, above_times}

IsAtMost-trans : (p q r : Ratio) → 0 < q.den → IsNoMore p q → IsNoMore q r → IsNoMore p r
IsAtMost-trans p q r above h k =
    le_cancel (p.num *ℤ pos r.den) (r.num *ℤ pos p.den) q.den above
    (let first : (p.num *ℤ pos r.den *ℤ pos q.den) ≤ℤ (q.num *ℤ pos p.den *ℤ pos r.den)
    = subst (λ t. t ≤ℤ (q.num *ℤ pos p.den *ℤ pos r.den)) (swapped p.num q.den r.den) (le_times _ _ r.den h) in
    let second : (q.num *ℤ pos p.den *ℤ pos r.den) ≤ℤ (r.num *ℤ pos p.den *ℤ pos q.den)
    = subst (λ t. t ≤ℤ (r.num *ℤ pos p.den *ℤ pos q.den)) (swapped q.num r.den p.den)
    (subst (λ t. (q.num *ℤ pos r.den *ℤ pos p.den) ≤ℤ t) (swapped r.num q.den p.den) (le_times _ _ p.den k)) in
    omega (arith, ints))

times_le : (q a b : ℤ) → pos 0 ≤ℤ q → a ≤ℤ b → (q *ℤ a) ≤ℤ (q *ℤ b)
times_le (pos k) a b low h = subst (λ t. t ≤ℤ (pos k *ℤ b)) (*ℤ_comm a (pos k)) (subst (λ t. (a *ℤ pos k) ≤ℤ t) (*ℤ_comm b (pos k)) (le_times a b k h))
times_le (negsuc k) a b low h = absurd (omega (arith, ints))

-- the rows' combined reach is at most their combined sum at a point
reach_met : (lp : Lp) (x y : ℕ → Ratio) (u q : ℕ → ℤ) (d z : ℤ) → NamesColumns lp → IsPoint lp x → AreMultipliers lp y → Common (length lp.cost) x u d → CommonAny (length lp.rows) y q z →
    (combined_reach lp q *ℤ d) ≤ℤ combined_total lp q u
reach_met lp x y u q d z named point multipliers over_x over_y =
    subst (λ t. t ≤ℤ combined_total lp q u) (total-scale (length lp.rows) (λ i. q i *ℤ (row_at lp i).least) d)
    (total-le (length lp.rows) (λ i. q i *ℤ (row_at lp i).least *ℤ d) (λ i. q i *ℤ row_total (row_at lp i) u)
    (λ i l.
    let natural : pos 0 ≤ℤ q i = subst (λ t. t ≤ℤ q i) (zero-*ℤ z) (over-at_most (whole (pos 0)) (y i) (pos 0 *ℤ z) (q i) z over_y.above (over-whole (pos 0) z) (over_y.over i l) (multipliers i l).low) in
    let met : ((row_at lp i).least *ℤ d) ≤ℤ row_total (row_at lp i) u
    = over-at_most (whole (row_at lp i).least) (row_sum (row_at lp i) x) ((row_at lp i).least *ℤ d) (row_total (row_at lp i) u) d over_x.above
    (over-whole (row_at lp i).least d) (row_over lp i x u d named l over_x.over) (point.rows i l) in
    subst (λ t. t ≤ℤ (q i *ℤ row_total (row_at lp i) u)) (sym (mul_assoc (q i) (row_at lp i).least d)) (times_le (q i) ((row_at lp i).least *ℤ d) (row_total (row_at lp i) u) natural met)))

pub weak_duality : (lp : Lp) (x y : ℕ → Ratio) (v : Ratio) → NamesColumns lp → IsPoint lp x → AreMultipliers lp y →
    IsLeast (length lp.cost) (priced_cost lp y) v → IsNoMore v (cost_of lp x)
weak_duality lp x y v named point multipliers least =
    from (common (length lp.cost) x point.box) (common_any (length lp.rows) y (λ i l. (multipliers i l).positive))
  where
    from : (u : ℕ → ℤ) × (d : ℤ) × Common (length lp.cost) x u d → (q : ℕ → ℤ) × (z : ℤ) × CommonAny (length lp.rows) y q z → IsNoMore v (cost_of lp x)
    from (u, d, over_x) (q, z, over_y) =
        let priced : IsOver (priced_cost lp y x) (priced_total lp z q u d) (z *ℤ d) = priced_over lp y x q u z d named over_y.over over_x.over in
        let met : (combined_reach lp q *ℤ d) ≤ℤ combined_total lp q u = reach_met lp x y u q d z named point multipliers over_x over_y in
        let less : priced_total lp z q u d ≤ℤ (z *ℤ cost_total lp u) = omega (arith, ints) in
        IsAtMost-trans v (priced_cost lp y x) (cost_of lp x) priced.positive (least.bound x point.box)
        (at_most-over (priced_cost lp y x) (cost_of lp x) (priced_total lp z q u d) (z *ℤ cost_total lp u) (z *ℤ d) (above_times z d over_y.above over_x.above) priced
        (over-wider_left (cost_of lp x) (cost_total lp u) d z (cost_over lp x u d over_x.over)) less)

apart : (p q : Ratio) → IsLess p q → IsNoMore q p → ⊥
apart p q h k = omega (arith, ints)

pub ray_excludes : (lp : Lp) (y : ℕ → Ratio) → NamesColumns lp → IsRay lp y → HasNoPoint lp
ray_excludes lp y named is x point =
    from (common (length lp.cost) x point.box) (common_any (length lp.rows) y (λ i l. (is.ray i l).positive)) is.passes
  where
    from : (u : ℕ → ℤ) × (d : ℤ) × Common (length lp.cost) x u d → (q : ℕ → ℤ) × (z : ℤ) × CommonAny (length lp.rows) y q z →
        (g : Ratio) × IsGreatest (length lp.cost) (combined_sum lp y) g × IsLess g (combined_least lp y) → ⊥
    from (u, d, over_x) (q, z, over_y) (g, greatest, passes) =
        let sum : IsOver (combined_sum lp y x) (combined_total lp q u) (z *ℤ d) = combined_over lp y x q u z d named over_y.over over_x.over in
        let reach : IsOver (combined_least lp y) (combined_reach lp q *ℤ d) (z *ℤ d) = over-wider (combined_least lp y) (combined_reach lp q) z d (reach_over lp y q z over_y.over) in
        let met : IsNoMore (combined_least lp y) (combined_sum lp y x)
        = at_most-over (combined_least lp y) (combined_sum lp y x) (combined_reach lp q *ℤ d) (combined_total lp q u) (z *ℤ d) (above_times z d over_y.above over_x.above) reach sum
        (reach_met lp x y u q d z named point is.ray over_x over_y) in
        apart g (combined_least lp y) passes (IsAtMost-trans (combined_least lp y) (combined_sum lp y x) g sum.positive met (greatest.bound x point.box))

pub answer_decides : (lp : Lp) (a : LpAnswer) → NamesColumns lp → AnswerHolds lp a → IsNothing a ↔ HasNoPoint lp
answer_decides lp (Best point duals) named holds = (λ h. absurd h, λ h. h (entry point) holds.2.point)
answer_decides lp (Nothing ray) named holds = (λ h. ray_excludes lp (entry ray) named holds.1, λ h. tt)
