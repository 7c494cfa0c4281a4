-- Marks of the segments of a list and of their ends, and where a segment fits.
use Rattle.std.proofs.Common.{◌≡◌, ◌≢◌, ℕ, suc, ◌+◌, ◌<◌, ◌≤◌, ◌⊎◌, ◌^◌, inl, inr, Bool, true, false, not, eqb, set, take, replicate, get_or, ◌∷◌, [], List, length, length-set, refl, sym, ap, subst, ◌∙◌, arith}
use Rattle.std.specs.Prelude.{◌↔◌}
use Rattle.std.specs.List.{IsDistinct, list_any}
use Rattle.std.proofs.lemmas.Bool.{both_ways, cases_eq, cases_lt, eq-eqb, eqb-true, ne_eqb, or_cases, or_left, or_right}
use Rattle.std.proofs.lemmas.List.{get_or-replicate, get_or-take, length-take-le}
use Rattle.std.proofs.lemmas.Grind.{get_or_default_zero}
use Rattle.std.proofs.lemmas.Map.Keys.{IsDistinct-from_apart}
use Rattle.std.proofs.lemmas.Map.Steps.{length-le_from_distinct_below}
use Rattle.xn_model.specs.Graph.{Graph, ends_at, touches}
use Rattle.xn_model.specs.Lists.{at}
use Rattle.xn_map.specs.Marks.{is_marked}
use Rattle.xn_map.proofs.Marking.{is_marked-set}
use Rattle.xn_extend.specs.ListFlaw.{FrontMarked, IsMisfit, Repeats, SharesNode}

-- no place is marked
unmarked : (n x : ℕ) → is_marked (replicate n false) x ≡ true → x < n → ⊥
unmarked n x met below = both_ways _ (get_or-replicate n x false false below) met

-- some element passes
pub any_at : (p : ℕ → Bool) (xs : List ℕ) → list_any p xs ≡ true → (i : ℕ) × (i < length xs) × (p (at xs i) ≡ true)
any_at p [] h = absurd (both_ways false refl h)
any_at p (x ∷ xs) h = elim (or_cases (p x) (list_any p xs) h) [
  | inl here ↦ (0, omega arith, here)
  | inr later ↦ let found = any_at p xs later in (suc found.0, omega (arith, found.1), found.2)
]

-- different numbers below n are at most n
pub few_different : (list : List ℕ) (p n : ℕ) → p ≤ length list → ((i : ℕ) → i < p → at list i < n) → ((i j : ℕ) → i < j → j < p → at list i ≢ at list j) → p ≤ n
few_different list p n within low differ =
    let front = take p list in
    let size : length front ≡ p = length-take-le p list within in
    let distinct : IsDistinct eqb front = IsDistinct-from_apart eqb front (λ i j d before below.
    let i_in : i < p = omega (arith, before, below, size) in
    let j_in : j < p = omega (arith, below, size) in
    ne_eqb _ _ (λ same. differ i j before j_in (read i d i_in ∙ same ∙ sym (read j d j_in)))) in
    let below_n : (q : ℕ) → list_any (eqb q) front ≡ true → q < n = λ q h.
    let found = any_at (eqb q) front h in
    let j_in : found.0 < p = omega (arith, found.1, size) in
    let is : q ≡ at list found.0 = eqb-true q (at front found.0) found.2 ∙ sym (read found.0 0 j_in) in
    omega (arith, is, low found.0 j_in) in
    let bound = length-le_from_distinct_below front n distinct below_n in
    omega (arith, bound, size)
  where
    read : (i d : ℕ) → i < p → at list i ≡ get_or (take p list) i d
    read i d below = sym (get_or_default_zero list i d (omega (arith, below, within))) ∙ sym (get_or-take p list i d below)

module _ (web : Graph) (list : List ℕ) (p : ℕ) (used met : List Bool) (marked : FrontMarked web list p used met) where
  abbrev s : ℕ
  s = at list p

  abbrev u : ℕ
  u = (ends_at web.ends s).0

  abbrev v : ℕ
  v = (ends_at web.ends s).1

  pub repeats_where_used : s < length web.ends → is_marked used s ≡ true → Repeats list p
  repeats_where_used low h = (marked.marks_used s (omega (arith, low, marked.used_size))).0 h

  pub used_where_repeats : s < length web.ends → Repeats list p → is_marked used s ≡ true
  used_where_repeats low r = (marked.marks_used s (omega (arith, low, marked.used_size))).1 r

  pub shares_where_met : u < web.nodes → v < web.nodes → (is_marked met u ≡ true) ⊎ (is_marked met v ≡ true) → SharesNode web.ends list p
  shares_where_met u_in v_in h = elim h [
    | inl first ↦ let found = (marked.marks_met u (omega (arith, u_in, marked.met_size))).0 first in
        (found.0, found.1, or_left (touches (ends_at web.ends (at list found.0)) u) (touches (ends_at web.ends (at list found.0)) v) found.2)
    | inr second ↦ let found = (marked.marks_met v (omega (arith, v_in, marked.met_size))).0 second in
        (found.0, found.1, or_right (touches (ends_at web.ends (at list found.0)) u) (touches (ends_at web.ends (at list found.0)) v) found.2)
  ]

  pub met_where_shares : u < web.nodes → v < web.nodes → SharesNode web.ends list p → (is_marked met u ≡ true) ⊎ (is_marked met v ≡ true)
  met_where_shares u_in v_in shares =
      let e = ends_at web.ends (at list shares.0) in
      elim (or_cases (touches e u) (touches e v) shares.2) [
        | inl first ↦ inl ((marked.marks_met u (omega (arith, u_in, marked.met_size))).1 (shares.0, shares.1, first))
        | inr second ↦ inr ((marked.marks_met v (omega (arith, v_in, marked.met_size))).1 (shares.0, shares.1, second))
      ]

  -- a segment that isn't used, and the first or with an end that is met, fits
  pub fits_fresh : s < length web.ends → (is_marked used s ≡ true → ⊥) → (p ≡ 0) ⊎ SharesNode web.ends list p → ¬ (IsMisfit web.ends list p)
  fits_fresh low fresh known misfit = elim misfit [
    | inl far ↦ omega (arith, far, low)
    | inr (inl repeats) ↦ fresh (used_where_repeats low repeats)
    | inr (inr away) ↦ elim known [ inl first ↦ omega (arith, away.0, first) | inr shares ↦ away.1 shares ]
  ]

  -- neither end of a later segment is met exactly where it doesn't fit
  pub misfit_where_unmet : (known : Bool) → s < length web.ends → u < web.nodes → v < web.nodes → is_marked used s ≡ false → 0 < p →
      (known ≡ true → (is_marked met u ≡ true) ⊎ (is_marked met v ≡ true)) → (known ≡ false → (is_marked met u ≡ false) × (is_marked met v ≡ false)) →
      (not known ≡ true) ↔ IsMisfit web.ends list p
  misfit_where_unmet true low u_in v_in fresh later met_one unmet = (
    λ h. absurd (both_ways false refl h),
    λ misfit. absurd (fits_fresh low (both_ways _ fresh) (inr (shares_where_met u_in v_in (met_one refl))) misfit),
  )
  misfit_where_unmet false low u_in v_in fresh later met_one unmet = (
    λ h. inr (inr (later, λ shares. elim (met_where_shares u_in v_in shares) [ inl first ↦ both_ways _ (unmet refl).0 first | inr second ↦ both_ways _ (unmet refl).1 second ])),
    λ misfit. refl,
  )

  -- few segments are passed, since they differ
  pub few_passed : length web.ends ≤ 2 ^ 30 → p ≤ length list → p ≤ 2 ^ 30
  few_passed few within =
      let low : (i : ℕ) → i < p → at list i < length web.ends = λ i i_in. elim (cases_lt (at list i) (length web.ends)) [
        | inl below ↦ below
        | inr far ↦ absurd (marked.fit i i_in (inl far))
      ] in
      let bound = few_different list p (length web.ends) within low (λ i j before j_in same. marked.fit j j_in (inr (inl (i, before, same)))) in
      omega (arith, bound, few)

  pub FrontMarked-more : u < web.nodes → v < web.nodes → ¬ (IsMisfit web.ends list p) → FrontMarked web list (p + 1) (set used s true) (set (set met u true) v true)
  FrontMarked-more u_in v_in fits =
      let s_in : s < length used = elim (cases_lt s (length web.ends)) [ inl below ↦ omega (arith, below, marked.used_size) | inr far ↦ absurd (fits (inl far)) ] in
      let u_low : u < length met = omega (arith, u_in, marked.met_size) in
      let half = set met u true in
      let v_low : v < length half = omega (arith, v_in, marked.met_size, length-set met u true) in
      record {
        used_size = length-set used s true ∙ marked.used_size;
        met_size = length-set half v true ∙ length-set met u true ∙ marked.met_size;
        marks_used = λ x x_in.
            let old = marked.marks_used x (omega (arith, x_in, length-set used s true)) in (
              λ now. elim (is_marked-set used s x s_in) [
                | inl here ↦ (p, omega arith, sym here.0)
                | inr there ↦ let found = old.0 (sym there.1 ∙ now) in (found.0, omega (arith, found.1), found.2)
              ],
              λ found. elim (is_marked-set used s x s_in) [
                | inl here ↦ here.1
                | inr there ↦ elim (cases_eq found.0 p) [
                  | inl last ↦ absurd (there.0 (sym found.2 ∙ ap (at list) last))
                  | inr earlier ↦ there.1 ∙ old.1 (found.0, omega (arith, found.1, earlier), found.2)
                ]
              ],
            );
        marks_met = λ x x_in.
            let old = marked.marks_met x (omega (arith, x_in, length-set half v true, length-set met u true)) in
            let P : ℕ → Type 0 = λ y. touches (ends_at web.ends s) y ≡ true in (
              λ now. elim (is_marked-set half v x v_low) [
                | inl here ↦ (p, omega arith, subst P (sym here.0) (or_right (eqb u v) (eqb v v) (eq-eqb v v refl)))
                | inr there ↦ elim (is_marked-set met u x u_low) [
                  | inl here ↦ (p, omega arith, subst P (sym here.0) (or_left (eqb u u) (eqb v u) (eq-eqb u u refl)))
                  | inr neither ↦ let found = old.0 (sym neither.1 ∙ sym there.1 ∙ now) in (found.0, omega (arith, found.1), found.2)
                ]
              ],
              λ found. elim (is_marked-set half v x v_low) [
                | inl here ↦ here.1
                | inr there ↦ elim (is_marked-set met u x u_low) [
                  | inl here ↦ there.1 ∙ here.1
                  | inr neither ↦ elim (cases_eq found.0 p) [
                    | inr earlier ↦ there.1 ∙ neither.1 ∙ old.1 (found.0, omega (arith, found.1, earlier), found.2)
                    | inl last ↦ elim (or_cases (eqb u x) (eqb v x) (ap (λ i. touches (ends_at web.ends (at list i)) x) (sym last) ∙ found.2)) [
                      | inl first ↦ absurd (neither.0 (sym (eqb-true u x first)))
                      | inr second ↦ absurd (there.0 (sym (eqb-true v x second)))
                    ]
                  ]
                ]
              ],
            );
        fit = λ q below. elim (cases_eq q p) [
          | inl here ↦ λ misfit. fits (subst (λ i. IsMisfit web.ends list i) here misfit)
          | inr earlier ↦ marked.fit q (omega (arith, below, earlier))
        ];
      }
