-- Where a row's value is 0, its orders are those of the drawing on its edges.
use Rattle.std.proofs.Common.{◌≡◌, ◌≢◌, ℕ, ◌-◌, ◌<◌, ◌≤◌, inl, inr, Bool, true, false, cond, eqb, ltb, List, [], ◌∷◌, refl, sym, ◌∙◌, ap, ap₂, arith}
use Rattle.std.specs.List.{IsDistinct}
use Rattle.std.specs.Prelude.{filter, nat_eq}
use Rattle.std.proofs.lemmas.Bool.{cases_lt, cases_order, cases_Bool, both_ways, and_parts, or_cases, eqb-false, eqb-true, lt-ltb, le-ltb, cond-true, cond-false}
use Rattle.xn_model.specs.Graph.{independent, each_two, pairs_of}
use Rattle.xn_model.specs.Lists.{has, neighbours, one_if, position_in, stands_before, total}
use Rattle.xn_model.specs.Orders.{IsOrders}
use Rattle.xn_kinds.specs.Row.{literal, values_in}
use Rattle.xn_fewer.proofs.Crossings.{has_pair, is_pair, left_pair, not_of_itself, two_in}
use Rattle.xn_fewer.proofs.Rising.{Rises, Rising, all_made, own_order, rises-filter, same_position, same_rising}
use Rattle.xn_fewer.proofs.Has.{has-kept, has-picked}
use Rattle.xn_model.proofs.Has.{all_of, has-first, has-later}

-- ---- sums that are 0

total_zero-pair : (h : ℕ → ℕ → ℕ) (ps : List (ℕ × ℕ)) (x y : ℕ) → total (λ p. h p.0 p.1) ps ≡ 0 → has_pair ps x y ≡ true → h x y ≡ 0
total_zero-pair h [] x y none t = absurd (both_ways false refl t)
total_zero-pair h (p ∷ ps) x y none t = elim (or_cases (is_pair x y p) (has_pair ps x y) t) [
  | inl here ↦
      let parts : (eqb p.0 x ≡ true) × (eqb p.1 y ≡ true) = and_parts _ _ here in
      let same : h p.0 p.1 ≡ h x y = ap₂ h (eqb-true _ _ parts.0) (eqb-true _ _ parts.1) in
      omega (arith, none, same)
  | inr later ↦ total_zero-pair h ps x y (omega (arith, none)) later
]

total_zero-at : (h : ℕ → ℕ) (xs : List ℕ) (x : ℕ) → total h xs ≡ 0 → has xs x ≡ true → h x ≡ 0
total_zero-at h [] x none t = absurd (both_ways false refl t)
total_zero-at h (y ∷ ys) x none t = elim (or_cases (eqb y x) (has ys x) t) [
  | inl here ↦ let same : h y ≡ h x = ap h (eqb-true _ _ here) in omega (arith, none, same)
  | inr later ↦ total_zero-at h ys x (omega (arith, none)) later
]

module _ (ends : List (ℕ × ℕ)) (edges small : List ℕ) (rises : Rising small) (ord less : ℕ → List ℕ) (all : IsOrders ends edges ord) (some : IsOrders ends small less)
    (zero_pairs : total (λ p. cond (has (less p.0) p.1) (1 - one_if (has (ord p.0) p.1)) (one_if (has (ord p.0) p.1))) (pairs_of ends small) ≡ 0)
    (zero_turns : total (λ e. total (λ p. 1 - literal (values_in ord) e p.0 p.1) (neighbours (less e))) small ≡ 0) where
  -- ---- the same edges cross

  abbrev term : ℕ → ℕ → ℕ
  term x y = cond (has (less x) y) (1 - one_if (has (ord x) y)) (one_if (has (ord x) y))

  bits : (a b : Bool) → cond a (1 - one_if b) (one_if b) ≡ 0 → a ≡ b
  bits true true none = refl
  bits true false none = absurd (omega arith)
  bits false true none = absurd (omega arith)
  bits false false none = refl

  both_false : (a b : Bool) → (a ≡ true → ⊥) → (b ≡ true → ⊥) → a ≡ b
  both_false true b one two = absurd (one refl)
  both_false false true one two = absurd (two refl)
  both_false false false one two = refl

  same_if_low : (x y : ℕ) → has small x ≡ true → has small y ≡ true → x < y → has (less x) y ≡ has (ord x) y
  same_if_low x y x_in y_in low = elim (cases_Bool (independent ends x y)) [
    | inl free ↦ bits _ _ (total_zero-pair term (pairs_of ends small) x y zero_pairs (left_pair (independent ends) (each_two small) x y (two_in small rises x y x_in y_in low) free))
    | inr bound ↦ both_false _ _ (λ h. both_ways _ bound (some.independent x y h)) (λ h. both_ways _ bound (all.independent x y h))
  ]

  less_both : (e f : ℕ) → has (less e) f ≡ has (less f) e
  less_both e f = elim (cases_Bool (has (less f) e)) [
    | inl crosses ↦ some.both_ways f e crosses ∙ sym crosses
    | inr misses ↦ both_false _ _ (λ h. both_ways _ misses (some.both_ways e f h)) (λ h. both_ways _ misses h)
  ]

  ord_both : (e f : ℕ) → has (ord e) f ≡ has (ord f) e
  ord_both e f = elim (cases_Bool (has (ord f) e)) [
    | inl crosses ↦ all.both_ways f e crosses ∙ sym crosses
    | inr misses ↦ both_false _ _ (λ h. both_ways _ misses (all.both_ways e f h)) (λ h. both_ways _ misses h)
  ]

  same_crossers : (e f : ℕ) → has small e ≡ true → has small f ≡ true → has (less e) f ≡ has (ord e) f
  same_crossers e f e_in f_in = elim (cases_order e f) [
    | inl same ↦ both_false _ _ (λ h. not_of_itself ends e f (some.independent e f h) same) (λ h. not_of_itself ends e f (all.independent e f h) same)
    | inr (inl low) ↦ same_if_low e f e_in f_in low
    | inr (inr high) ↦ less_both e f ∙ same_if_low f e f_in e_in high ∙ ord_both f e
  ]

  crosser_in : (e f : ℕ) → has (less e) f ≡ true → has small f ≡ true
  crosser_in e f crosses = some.within f e (some.both_ways e f crosses)

  -- ---- in the same order

  stands : (e f h : ℕ) → has (ord e) f ≡ true → has (ord e) h ≡ true → stands_before (ord e) f h ≡ ltb (position_in (ord e) f) (position_in (ord e) h)
  stands e f h f_in h_in = rw (f_in, h_in) refl

  before : (e f h : ℕ) → has (ord e) f ≡ true → has (ord e) h ≡ true → f ≢ h → 1 ≤ literal (values_in ord) e f h → position_in (ord e) f < position_in (ord e) h
  before e f h f_in h_in differ order = elim (cases_lt (position_in (ord e) f) (position_in (ord e) h)) [
    | inl low ↦ low
    | inr high ↦
        let apart : position_in (ord e) f ≢ position_in (ord e) h = λ same. differ (same_position (ord e) f h f_in h_in same) in
        let not_before : one_if (stands_before (ord e) f h) ≡ 0 = ap one_if (stands e f h f_in h_in ∙ le-ltb _ _ high) in
        let turned : one_if (stands_before (ord e) h f) ≡ 1 = ap one_if (stands e h f h_in f_in ∙ lt-ltb _ _ (omega (arith, high, apart))) in
        elim (cases_Bool (ltb f h)) [
          | inl up ↦ let is : literal (values_in ord) e f h ≡ one_if (stands_before (ord e) f h) = cond-true _ _ _ up in absurd (omega (arith, order, is, not_before))
          | inr down ↦ let is : literal (values_in ord) e f h ≡ 1 - one_if (stands_before (ord e) h f) = cond-false _ _ _ down in absurd (omega (arith, order, is, turned))
        ]
  ]

  neighbours_rise : (e f : ℕ) (fs : List ℕ) → IsDistinct nat_eq (f ∷ fs) → ((y : ℕ) → has (f ∷ fs) y ≡ true → has (ord e) y ≡ true) →
      total (λ p. 1 - literal (values_in ord) e p.0 p.1) (neighbours (f ∷ fs)) ≡ 0 → Rises (position_in (ord e)) (f ∷ fs)
  unfolding IsDistinct
  neighbours_rise e f [] distinct crosses none = (tt, tt)
  neighbours_rise e f (h ∷ hs) distinct crosses none =
      let rest = neighbours_rise e h hs distinct.1 (λ y y_in. crosses y (has-later f (h ∷ hs) y y_in)) (omega (arith, none)) in
      let order : 1 ≤ literal (values_in ord) e f h = omega (arith, none) in
      let low : position_in (ord e) f < position_in (ord e) h =
      before e f h (crosses f (has-first f (h ∷ hs))) (crosses h (has-later f (h ∷ hs) h (has-first h hs))) (eqb-false f h distinct.0.0) order in (
        (
          low,
          all_made (λ y. position_in (ord e) f < position_in (ord e) y) hs (λ y y_in.
              let more = all_of (λ q. position_in (ord e) h < position_in (ord e) q) hs rest.0 y y_in in omega (arith, low, more)),
        ),
        rest,
      )

  list_rises : (e : ℕ) (xs : List ℕ) → IsDistinct nat_eq xs → ((y : ℕ) → has xs y ≡ true → has (ord e) y ≡ true) →
      total (λ p. 1 - literal (values_in ord) e p.0 p.1) (neighbours xs) ≡ 0 → Rises (position_in (ord e)) xs
  list_rises e [] distinct crosses none = tt
  list_rises e (f ∷ fs) distinct crosses none = neighbours_rise e f fs distinct crosses none

  -- the row's lists are those of the drawing without the other edges
  pub less_is : (e : ℕ) → has small e ≡ true → filter (has small) (ord e) ≡ less e
  less_is e e_in =
      same_rising (position_in (ord e)) (filter (has small) (ord e)) (less e)
      (rises-filter (position_in (ord e)) (has small) (ord e) (own_order (ord e) (all.no_repeats e)))
      (list_rises e (less e) (some.no_repeats e) (λ y y_in. sym (same_crossers e y e_in (crosser_in e y y_in)) ∙ y_in)
      (total_zero-at (λ x. total (λ p. 1 - literal (values_in ord) x p.0 p.1) (neighbours (less x))) small e zero_turns e_in))
      (λ z z_in. let parts = has-picked (has small) (ord e) z z_in in same_crossers e z e_in parts.1 ∙ parts.0)
      (λ z z_in. let kept = crosser_in e z z_in in has-kept (has small) (ord e) z (sym (same_crossers e z e_in kept) ∙ z_in) kept)
