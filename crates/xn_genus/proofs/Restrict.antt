-- A map on any of its segments, where the rotation passes over the others: it stays flat.
use Rattle.std.proofs.Common.{◌≡◌, ◌≢◌, ℕ, zero, suc, ◌+◌, ◌-◌, ◌*◌, ◌/◌, ◌<◌, ◌≤◌, inl, inr, Bool, true, false, not, ◌&&◌, eqb, List, length, refl, sym, ◌∙◌, ap, subst, arith}
use Rattle.std.proofs.lemmas.Bool.{cases_eq, cases_lt, cases_Bool, cond-true, cond-false, and_parts, and_from, and_right, eq-eqb, ne_eqb, eqb-false, not-true, not_from_true, not_from_false}
use Rattle.xn_model.specs.Map.{MeetsEuler, IsMap, component_count, face_step, is_lone}
use Rattle.xn_model.specs.Permutation.{Permutes, count_below, cycle_count, iterate, without}
use Rattle.xn_ring.specs.Removals.{IsNextKept}
use Rattle.xn_genus.specs.Live.{IsFlatOn, IsMapOn, passing_over, without_segment}
use Rattle.xn_model.proofs.Darts.{cases_dart}
use Rattle.xn_ring.proofs.Orbits.{iterate-add, iterate_below}
use Rattle.xn_ring.proofs.Without.{Permutes-without, without-before, without-other}
use Rattle.xn_genus.proofs.Dies.{IsMapOn-deleted}
use Rattle.xn_genus.proofs.Euler.{dies, dies-at, dies-other, flat_dies, kept-all, kept-congr, whole}

-- g leads each number that passes to the first after it
abbrev pub LeadsOn : ℕ → (ℕ → Bool) → (ℕ → ℕ) → (ℕ → ℕ) → Type 0
LeadsOn n passes f g = (d : ℕ) → d < n → passes d ≡ true → IsNextKept f passes d (g d)

abbrev but : ℕ → (ℕ → Bool) → ℕ → Bool
but x passes d = passes d && not (eqb d x)

but_other : (x : ℕ) (passes : ℕ → Bool) (d : ℕ) → passes d ≡ true → d ≢ x → but x passes d ≡ true
but_other x passes d h other = and_from _ _ h (not_from_false _ (ne_eqb _ _ other))

but_at : (x : ℕ) (passes : ℕ → Bool) (d : ℕ) → d ≡ x → but x passes d ≡ false
but_at x passes d same = and_right (passes d) _ (not_from_true _ (eq-eqb d x same))

but_false : (x : ℕ) (passes : ℕ → Bool) (d : ℕ) → passes d ≡ false → but x passes d ≡ false
but_false x passes d h = ap (λ b. b && not (eqb d x)) h

-- one number less passes
pub leads_on_without : (n : ℕ) (passes : ℕ → Bool) (f g : ℕ → ℕ) → Permutes n g → LeadsOn n passes f g → (x : ℕ) → x < n → passes x ≡ true →
    LeadsOn n (but x passes) f (without x g)
leads_on_without n passes f g permutes leads x x_in x_passes d d_in h =
    let parts : (passes d ≡ true) × (not (eqb d x) ≡ true) = and_parts _ _ h in
    let d_other : d ≢ x = eqb-false _ _ (not-true _ parts.1) in
    let one = leads d d_in parts.0 in
    elim (cases_eq (g d) x) [
      | inr other ↦
          let same : without x g d ≡ g d = without-other x g d d_other other in
          record {
            steps = one.steps;
            there = one.there ∙ sym same;
            kept = ap (but x passes) same ∙ but_other x passes (g d) one.kept other;
            passed = λ i early. but_false x passes _ (one.passed i early);
          }
      | inl meets ↦
          let two = leads x x_in x_passes in
          let same : without x g d ≡ g x = without-before x g d d_other meets in
          let x_moves : g x ≢ x = λ e. d_other (permutes.apart d x d_in x_in (meets ∙ sym e)) in
          let at_x : iterate f (suc one.steps) d ≡ x = one.there ∙ meets in
          record {
            steps = two.steps + suc one.steps;
            there =
                let size : suc (two.steps + suc one.steps) ≡ suc two.steps + suc one.steps = omega arith in
                ap (λ k. iterate f k d) size ∙ iterate-add f (suc two.steps) (suc one.steps) d ∙ ap (iterate f (suc two.steps)) at_x ∙ two.there ∙ sym same;
            kept = ap (but x passes) same ∙ but_other x passes (g x) two.kept x_moves;
            passed = λ i early. elim (cases_lt i one.steps) [
              | inl low ↦ but_false x passes _ (one.passed i low)
              | inr high ↦ elim (cases_eq i one.steps) [
                | inl here ↦ but_at x passes _ (ap (λ k. iterate f (suc k) d) here ∙ at_x)
                | inr past ↦
                    let k = i - suc one.steps in
                    let size : suc i ≡ suc k + suc one.steps = omega (arith, high, past) in
                    let is : iterate f (suc i) d ≡ iterate f (suc k) x =
                    ap (λ m. iterate f m d) size ∙ iterate-add f (suc k) (suc one.steps) d ∙ ap (iterate f (suc k)) at_x in
                    ap (but x passes) is ∙ but_false x passes _ (two.passed k (omega (arith, early, high, past)))
              ]
            ];
          }
    ]

-- the tests need only agree below n
pub leads_on-congr : (n : ℕ) (p q : ℕ → Bool) (f g : ℕ → ℕ) → Permutes n f → ((d : ℕ) → d < n → p d ≡ q d) → LeadsOn n p f g → LeadsOn n q f g
leads_on-congr n p q f g permutes same leads d d_in h =
    let one = leads d d_in (same d d_in ∙ h) in
    let in_range = λ (k : ℕ). iterate_below n f permutes k d d_in in
    let end_in : g d < n = let P : ℕ → Type 0 = λ x. x < n in subst P one.there (in_range (suc one.steps)) in
    record {
      steps = one.steps;
      there = one.there;
      kept = sym (same (g d) end_in) ∙ one.kept;
      passed = λ i early. sym (same (iterate f (suc i) d) (in_range (suc i))) ∙ one.passed i early;
    }

-- the dart's segment is live
abbrev pub lives : (ℕ → Bool) → ℕ → Bool
lives live d = live (d / 2)

both_out : (live : ℕ → Bool) (s d : ℕ) → but (2 * s + 1) (but (2 * s) (lives live)) d ≡ lives (dies s live) d
both_out live s d = elim (cases_Bool (live (d / 2))) [
  | inr dead ↦ but_false (2 * s + 1) (but (2 * s) (lives live)) d (but_false (2 * s) (lives live) d dead) ∙ sym (ap (λ b. b && not (eqb (d / 2) s)) dead)
  | inl l ↦ elim (cases_eq (d / 2) s) [
    | inl at_s ↦
        let out : dies s live (d / 2) ≡ false = and_right (live (d / 2)) _ (not_from_true _ (eq-eqb _ _ at_s)) in
        let c = cases_dart d in
        elim c.1 [
          | inl even ↦
              let e : d ≡ 2 * s = omega (arith, even, at_s) in
              but_false (2 * s + 1) (but (2 * s) (lives live)) d (but_at (2 * s) (lives live) d e) ∙ sym out
          | inr odd ↦
              let e : d ≡ 2 * s + 1 = omega (arith, odd, at_s) in
              but_at (2 * s + 1) (but (2 * s) (lives live)) d e ∙ sym out
        ]
    | inr other ↦
        but_other (2 * s + 1) (but (2 * s) (lives live)) d (but_other (2 * s) (lives live) d l (λ e. other (omega (arith, e)))) (λ e. other (omega (arith, e)))
        ∙ sym (and_from _ _ l (not_from_false _ (ne_eqb _ _ other)))
  ]
]

pub leads_on_cut : (ends : List (ℕ × ℕ)) (live : ℕ → Bool) (f g : ℕ → ℕ) → Permutes (2 * length ends) f → Permutes (2 * length ends) g → LeadsOn (2 * length ends) (lives live) f g →
    (s : ℕ) → s < length ends → live s ≡ true → LeadsOn (2 * length ends) (lives (dies s live)) f (without_segment s g)
leads_on_cut ends live f g f_permutes permutes leads s s_in s_live =
    let n = 2 * length ends in
    let half_even : (2 * s) / 2 ≡ s = omega arith in
    let half_odd : (2 * s + 1) / 2 ≡ s = omega arith in
    let first_in : 2 * s < n = omega (arith, s_in) in
    let second_in : 2 * s + 1 < n = omega (arith, s_in) in
    let once = leads_on_without n (lives live) f g permutes leads (2 * s) first_in (ap live half_even ∙ s_live) in
    let second_passes : but (2 * s) (lives live) (2 * s + 1) ≡ true = but_other (2 * s) (lives live) (2 * s + 1) (ap live half_odd ∙ s_live) (λ e. omega (arith, e)) in
    let twice = leads_on_without n (but (2 * s) (lives live)) f (without (2 * s) g) (Permutes-without n (2 * s) g permutes first_in) once (2 * s + 1) second_in second_passes in
    leads_on-congr n _ _ f (without_segment s g) f_permutes (λ d d_in. both_out live s d) twice

-- the map on the segments below k that keep keeps, and on all from k on
pub record IsSoFar (nodes : ℕ) (ends : List (ℕ × ℕ)) (next : ℕ → ℕ) (keep : ℕ → Bool) (k : ℕ) : Type 0 where
  pub now : ℕ → Bool
  pub low : (i : ℕ) → i < k → now i ≡ keep i
  pub high : (i : ℕ) → k ≤ i → now i ≡ true
  pub map : IsMapOn ends now (passing_over keep k next)
  pub flat : MeetsEuler nodes ends next → IsFlatOn nodes ends now (passing_over keep k next)
  pub leads : LeadsOn (2 * length ends) (lives now) next (passing_over keep k next)

module _ (nodes : ℕ) (ends : List (ℕ × ℕ)) (next : ℕ → ℕ) (map : IsMap nodes ends next) (keep : ℕ → Bool) where
  so_far : (k : ℕ) → k ≤ length ends → IsSoFar nodes ends next keep k
  so_far zero k_in =
      let P : List (ℕ × ℕ) → Type 0 = λ xs. nodes + (cycle_count (2 * length ends) (face_step next) + count_below nodes (is_lone xs)) ≡ 2 * component_count nodes xs + length ends in
      record {
        now = λ i. true;
        low = λ i early. absurd (omega arith);
        high = λ i late. refl;
        map = whole nodes ends next map;
        flat = λ flat. subst P (sym (kept-all ends)) flat;
        leads = λ d d_in h. record { steps = 0; there = refl; kept = refl; passed = λ i early. absurd (omega arith) };
      }
  so_far (suc k) k_in =
      let s = so_far k (omega arith) in
      let k_live : s.now k ≡ true = s.high k (omega arith) in
      elim (cases_Bool (keep k)) [
        | inl keeps ↦
            let same : passing_over keep (suc k) next ≡ passing_over keep k next = cond-true _ _ _ keeps in
            let M : (ℕ → ℕ) → Type 0 = λ f. IsMapOn ends s.now f in
            let F : (ℕ → ℕ) → Type 0 = λ f. IsFlatOn nodes ends s.now f in
            let L : (ℕ → ℕ) → Type 0 = λ f. LeadsOn (2 * length ends) (lives s.now) next f in
            record {
              now = s.now;
              low = λ i early. elim (cases_eq i k) [ inl here ↦ ap s.now here ∙ k_live ∙ sym keeps ∙ ap keep (sym here) | inr other ↦ s.low i (omega arith) ];
              high = λ i late. s.high i (omega arith);
              map = subst M (sym same) s.map;
              flat = λ flat. subst F (sym same) (s.flat flat);
              leads = subst L (sym same) s.leads;
            }
        | inr drops ↦
            let same : passing_over keep (suc k) next ≡ without_segment k (passing_over keep k next) = cond-false _ _ _ drops in
            let now = dies k s.now in
            let M : (ℕ → ℕ) → Type 0 = λ f. IsMapOn ends now f in
            let F : (ℕ → ℕ) → Type 0 = λ f. IsFlatOn nodes ends now f in
            let L : (ℕ → ℕ) → Type 0 = λ f. LeadsOn (2 * length ends) (lives now) next f in
            let g = passing_over keep k next in
            record {
              now = now;
              low = λ i early. elim (cases_eq i k) [
                | inl here ↦ ap now here ∙ dies-at k s.now ∙ sym drops ∙ ap keep (sym here)
                | inr other ↦ dies-other k s.now i other ∙ s.low i (omega arith)
              ];
              high = λ i late. dies-other k s.now i (λ e. omega arith) ∙ s.high i (omega arith);
              map = subst M (sym same) (IsMapOn-deleted nodes ends s.now g s.map map.ends_in k (omega arith) k_live);
              flat = λ flat. subst F (sym same) (flat_dies nodes ends map.ends_in s.now g s.map k (omega arith) k_live (s.flat flat));
              leads = subst L (sym same) (leads_on_cut ends s.now next g map.permutes s.map.permutes s.leads k (omega arith) k_live);
            }
      ]

  abbrev passing : ℕ → ℕ
  passing = passing_over keep (length ends) next

  done : IsSoFar nodes ends next keep (length ends)
  done = so_far (length ends) (omega arith)

  pub restricted_map : IsMapOn ends keep passing
  restricted_map =
      let m = done.map in
      record {
        permutes = m.permutes;
        same_node = m.same_node;
        dead = λ d d_in h. m.dead d d_in (done.low (d / 2) (omega arith) ∙ h);
        one_ring = λ d e d_in e_in d_live e_live tails. m.one_ring d e d_in e_in (done.low (d / 2) (omega arith) ∙ d_live) (done.low (e / 2) (omega arith) ∙ e_live) tails;
      }

  pub restricted_flat : MeetsEuler nodes ends next → IsFlatOn nodes ends keep passing
  restricted_flat flat =
      let P : List (ℕ × ℕ) → Type 0 = λ xs. nodes + (cycle_count (2 * length ends) (face_step passing) + count_below nodes (is_lone xs)) ≡ 2 * component_count nodes xs + length ends in
      subst P (kept-congr done.now keep ends done.low) (done.flat flat)

  pub restricted_leads : LeadsOn (2 * length ends) (lives keep) next passing
  restricted_leads = leads_on-congr (2 * length ends) (lives done.now) (lives keep) next passing map.permutes (λ d d_in. done.low (d / 2) (omega arith)) done.leads
