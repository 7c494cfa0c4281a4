-- The least over values that are as known, where one more variable is tried.
use Rattle.std.proofs.Common.{◌≡◌, ℕ, ◌≤◌, ◌⊎◌, inl, inr, Bool, true, false, ◌&&◌, List, [], refl, sym, ap, ◌∙◌, subst, arith}
use Rattle.std.specs.Prelude.{ℤ, ◌≤ℤ◌, Option, Some, None, MatchOption}
use Rattle.std.proofs.lemmas.Bool.{cases_Bool, cases_eq, and_parts}
use Rattle.std.proofs.lemmas.Int.{ints}
use Rattle.xn_model.specs.Graph.{Graph}
use Rattle.xn_model.specs.Lists.{has, one_if, stands_before}
use Rattle.xn_kinds.specs.Bound.{IsBound, leaf_value, IsLeastOver}
use Rattle.xn_kinds.specs.Row.{Values}
use Rattle.xn_kinds.specs.State.{InBox, State}
use Rattle.xn_kinds.specs.declared.rows.Row.{Row}
use Rattle.xn_kinds.specs.declared.trees.Var.{Var}
use Rattle.xn_kinds.specs.declared.trees.Var.TheVariants.{Cross, Before}
use Rattle.xn_model.proofs.Tests.{one_if-le}
use Rattle.xn_brute.specs.Known.{FitsKnown, given_by, is_same, known_in, order_in, value_at}
use Rattle.xn_brute.proofs.Unknown.{IsStep, same_of_test}

-- what a value is of a variable of which this is known
abbrev Fits : Option Bool → ℕ → Type 0
Fits o n = MatchOption o (n ≤ 1) (λ is. n ≡ one_if is)

bit_cases : (n : ℕ) → n ≤ 1 → (n ≡ 0) ⊎ (n ≡ 1)
bit_cases n small = elim (cases_eq n 0) [ inl is_zero ↦ inl is_zero | inr above ↦ inr (omega (arith, small, above)) ]

-- ---- all that is known

or_zero : Option Bool → ℕ
or_zero None = 0
or_zero (Some is) = one_if is

or_zero-fits : (o : Option Bool) → Fits o (or_zero o)
unfolding or_zero
or_zero-fits None = omega arith
or_zero-fits (Some is) = refl

-- the known values, and 0 elsewhere
values_by : (Var → Option Bool) → Values
values_by known = record { crosses = λ e f. or_zero (known (Cross e f)); before = λ e f g. or_zero (known (Before e f g)) }

values_fit : (known : Var → Option Bool) → FitsKnown known (values_by known)
unfolding values_by
values_fit known = record { fits = go }
  where
    go : (x : Var) → Fits (known x) (value_at (values_by known) x)
    go (Cross e f) = or_zero-fits (known (Cross e f))
    go (Before e f g) = or_zero-fits (known (Before e f g))

-- a number that is the same for all values is their least
pub least_of_all : (known : Var → Option Bool) (f : Values → ℤ) (b : ℤ) → ((v : Values) → FitsKnown known v → f v ≡ b) → IsLeastOver (FitsKnown known) f b
least_of_all known f b same = record {
  below_all = λ v fits. omega (arith, ints, same v fits);
  met = (values_by known, values_fit known, same (values_by known) (values_fit known));
}

-- ---- one more variable

module _ (old new : Var → Option Bool) (x : Var) (is : Bool) (step : IsStep old new x is) (v : Values) where
  fits_new : FitsKnown old v → value_at v x ≡ one_if is → FitsKnown new v
  fits_new fits value = record {
    fits = λ y. elim (cases_Bool (is_same x y)) [
      | inl same ↦ subst (λ z. Fits (new z) (value_at v z)) (same_of_test x y same) (subst (λ o. Fits o (value_at v x)) (sym step.here) value)
      | inr other ↦ subst (λ o. Fits o (value_at v y)) (sym (step.others y other)) (fits.fits y)
    ];
  }

  pub fits_old : old x ≡ None → FitsKnown new v → FitsKnown old v
  fits_old open_var fits =
      let value : value_at v x ≡ one_if is = let P : Option Bool → Type 0 = λ o. Fits o (value_at v x) in subst P step.here (fits.fits x) in
      record {
        fits = λ y. elim (cases_Bool (is_same x y)) [
          | inl same ↦ subst (λ z. Fits (old z) (value_at v z)) (same_of_test x y same) (subst (λ o. Fits o (value_at v x)) (sym open_var) (omega (arith, value, one_if-le is)))
          | inr other ↦ subst (λ o. Fits o (value_at v y)) (step.others y other) (fits.fits y)
        ];
      }

module _ (old if_zero if_one : Var → Option Bool) (x : Var) (zero_step : IsStep old if_zero x false) (one_step : IsStep old if_one x true) (open_var : old x ≡ None) (f : Values → ℤ) where
  either : (v : Values) → FitsKnown old v → FitsKnown if_zero v ⊎ FitsKnown if_one v
  either v fits =
      let small : value_at v x ≤ 1 = let P : Option Bool → Type 0 = λ o. Fits o (value_at v x) in subst P open_var (fits.fits x) in
      elim (bit_cases (value_at v x) small) [
        | inl is_zero ↦ inl (fits_new old if_zero x false zero_step v fits is_zero)
        | inr is_one ↦ inr (fits_new old if_one x true one_step v fits is_one)
      ]

  pub least_at_zero : (a b : ℤ) → IsLeastOver (FitsKnown if_zero) f a → IsLeastOver (FitsKnown if_one) f b → a ≤ℤ b → IsLeastOver (FitsKnown old) f a
  least_at_zero a b at_zero at_one less = record {
    below_all = λ v fits. elim (either v fits) [
      | inl fits_zero ↦ at_zero.below_all v fits_zero
      | inr fits_one ↦ omega (arith, ints, less, at_one.below_all v fits_one)
    ];
    met = (at_zero.met.0, fits_old old if_zero x false zero_step at_zero.met.0 open_var at_zero.met.1, at_zero.met.2);
  }

  pub least_at_one : (a b : ℤ) → IsLeastOver (FitsKnown if_zero) f a → IsLeastOver (FitsKnown if_one) f b → b ≤ℤ a → IsLeastOver (FitsKnown old) f b
  least_at_one a b at_zero at_one less = record {
    below_all = λ v fits. elim (either v fits) [
      | inl fits_zero ↦ omega (arith, ints, less, at_zero.below_all v fits_zero)
      | inr fits_one ↦ at_one.below_all v fits_one
    ];
    met = (at_one.met.0, fits_old old if_one x true one_step at_one.met.0 open_var at_one.met.1, at_one.met.2);
  }

-- ---- the box of a state

fits_option : (o : Option Bool) (n : ℕ) → n ≤ 1 → ((is : Bool) → o ≡ Some is → n ≡ one_if is) → Fits o n
fits_option None n small given = small
fits_option (Some is) n small given = given is refl

small_option : (o : Option Bool) (n : ℕ) → Fits o n → n ≤ 1
small_option None n fits = fits
small_option (Some is) n fits = omega (arith, fits, one_if-le is)

given_option : (o : Option Bool) (n : ℕ) → Fits o n → (is : Bool) → o ≡ Some is → n ≡ one_if is
given_option o n fits is given = let P : Option Bool → Type 0 = λ p. Fits p n in subst P given fits

-- the order of two placed edges
order_in-is : (xs : List ℕ) (f g : ℕ) → has xs f ≡ true → has xs g ≡ true → order_in xs f g ≡ Some (stands_before xs f g)
order_in-is xs f g f_in g_in = rw (f_in, g_in) refl

order_in-both : (xs : List ℕ) (f g : ℕ) (is : Bool) → order_in xs f g ≡ Some is → (has xs f ≡ true) × (has xs g ≡ true)
order_in-both xs f g is given = elim (cases_Bool (has xs f && has xs g)) [
  | inl both ↦ and_parts _ _ both
  | inr not_both ↦ let none : order_in xs f g ≡ None = rw not_both refl in absurd (cc)
]

module _ (s : State) (v : Values) where
  pub fits_of_box : InBox s v → FitsKnown (known_in s []) v
  fits_of_box box = record { fits = go }
    where
      go : (x : Var) → Fits (given_by s x) (value_at v x)
      go (Cross e f) = fits_option (s.decided e f) _ (box.crosses_small e f) (box.decided e f)
      go (Before e f g) = fits_option (order_in (s.placed e) f g) _ (box.before_small e f g) (λ is given.
          let both = order_in-both (s.placed e) f g is given in
          let order = order_in-is (s.placed e) f g both.0 both.1 in
          let same : stands_before (s.placed e) f g ≡ is = cc in
          box.placed e f g both.0 both.1 ∙ ap one_if same)

  pub box_of_fits : FitsKnown (known_in s []) v → InBox s v
  box_of_fits fits = record {
    crosses_small = λ e f. small_option (s.decided e f) _ (fits.fits (Cross e f));
    before_small = λ e f g. small_option (order_in (s.placed e) f g) _ (fits.fits (Before e f g));
    decided = λ e f. given_option (s.decided e f) _ (fits.fits (Cross e f));
    placed = λ e f g f_in g_in. given_option (order_in (s.placed e) f g) _ (fits.fits (Before e f g)) _ (order_in-is (s.placed e) f g f_in g_in);
  }

-- the least over all that is as given is the bound
pub bound_of_least : (g : Graph) (rows : List Row) (s : State) (d : ℕ) (parts : List (ℕ × ℕ)) (b : ℤ) →
    IsLeastOver (FitsKnown (known_in s [])) (leaf_value g rows d parts) b → IsBound g rows s d parts b
bound_of_least g rows s d parts b least = record {
  below_all = λ v box. least.below_all v (fits_of_box s v box);
  met = (least.met.0, box_of_fits s least.met.0 least.met.1, least.met.2);
}
