-- How many variables are unknown: each variable that is tried makes one less.
use Rattle.std.proofs.Common.{◌≡◌, ℕ, zero, suc, ◌+◌, ◌^◌, ◌<◌, ◌≤◌, inl, inr, Bool, true, false, ◌&&◌, eqb, List, ◌∷◌, refl, sym, ap, ◌∙◌, subst, arith}
use Rattle.std.specs.Prelude.{Option, Some, None, is_none}
use Rattle.std.proofs.lemmas.Bool.{both_ways, cases_Bool, cases_eq, eq-eqb, eqb-true, and_parts}
use Rattle.xn_model.specs.Lists.{one_if}
use Rattle.xn_kinds.specs.State.{State}
use Rattle.xn_kinds.specs.declared.trees.Var.{Var}
use Rattle.xn_kinds.specs.declared.trees.Var.TheVariants.{Cross, Before}
use Rattle.xn_brute.specs.Known.{IsSmallVar, IsUnknown, is_same, known_in}

-- variables that pass the test are the same
pub same_of_test : (x y : Var) → is_same x y ≡ true → x ≡ y
same_of_test (Cross a b) (Cross c d) h =
    let parts : (eqb a c ≡ true) × (eqb b d ≡ true) = and_parts _ _ h in
    let first = eqb-true a c parts.0 in
    let second = eqb-true b d parts.1 in
    cc
same_of_test (Cross a b) (Before d e f) h = absurd (both_ways false refl h)
same_of_test (Before a b c) (Cross d e) h = absurd (both_ways false refl h)
same_of_test (Before a b c) (Before d e f) h =
    let parts : ((eqb a d && eqb b e) ≡ true) × (eqb c f ≡ true) = and_parts _ _ h in
    let front : (eqb a d ≡ true) × (eqb b e ≡ true) = and_parts _ _ parts.0 in
    let first = eqb-true a d front.0 in
    let second = eqb-true b e front.1 in
    let third = eqb-true c f parts.1 in
    cc

eqb-same : (a : ℕ) → eqb a a ≡ true
eqb-same a = eq-eqb a a refl

-- a variable passes the test with itself
pub test_of_same : (x : Var) → is_same x x ≡ true
test_of_same (Cross a b) = rw (eqb-same a, eqb-same b) refl
test_of_same (Before a b c) = rw (eqb-same a, eqb-same b, eqb-same c) refl

-- more is known: x, and nothing else
pub record IsStep (old new : Var → Option Bool) (x : Var) (is : Bool) : Type 0 where
  pub here : new x ≡ Some is
  pub others : (y : Var) → is_same x y ≡ false → new y ≡ old y

pub tried_step : (s : State) (tried : List (Var × Bool)) (x : Var) (is : Bool) → IsStep (known_in s tried) (known_in s ((x, is) ∷ tried)) x is
tried_step s tried x is = record {
  here = rw (test_of_same x) refl;
  others = λ y other. rw other refl;
}

-- ---- the count

sum_below : ℕ → (ℕ → ℕ) → ℕ
sum_below zero f = 0
sum_below (suc n) f = sum_below n f + f n

sum_below-le : (n : ℕ) (f g : ℕ → ℕ) → ((i : ℕ) → f i ≤ g i) → sum_below n f ≤ sum_below n g
unfolding sum_below
sum_below-le zero f g less = omega arith
sum_below-le (suc n) f g less = omega (arith, sum_below-le n f g less, less n)

sum_below-lt : (n : ℕ) (f g : ℕ → ℕ) → ((i : ℕ) → f i ≤ g i) → (i : ℕ) → i < n → f i < g i → sum_below n f < sum_below n g
unfolding sum_below
sum_below-lt zero f g less i low strict = absurd (omega arith)
sum_below-lt (suc n) f g less i low strict = elim (cases_eq i n) [
  | inl last ↦
      let at_last : f n < g n = subst (λ j. f j < g j) last strict in
      omega (arith, sum_below-le n f g less, at_last)
  | inr early ↦ omega (arith, sum_below-lt n f g less i (omega (arith, low, early)) strict, less n)
]

-- 1 where the variable isn't known
abbrev unknown : (Var → Option Bool) → Var → ℕ
unknown known x = one_if (is_none (known x))

triples_at : ℕ → (Var → Option Bool) → ℕ → ℕ → ℕ
triples_at n known e f = unknown known (Cross e f) + sum_below n (λ g. unknown known (Before e f g))

pairs_at : ℕ → (Var → Option Bool) → ℕ → ℕ
pairs_at n known e = sum_below n (triples_at n known e)

-- the number of unknown variables with numbers below n
unknown_below : ℕ → (Var → Option Bool) → ℕ
unknown_below n known = sum_below n (pairs_at n known)

module _ (old new : Var → Option Bool) (x : Var) (is : Bool) (step : IsStep old new x is) where
  less_unknown : (y : Var) → unknown new y ≤ unknown old y
  less_unknown y = elim (cases_Bool (is_same x y)) [
    | inl same ↦
        let known : new y ≡ Some is = ap new (sym (same_of_test x y same)) ∙ step.here in
        omega (arith, ap (λ o. one_if (is_none o)) known)
    | inr other ↦ omega (arith, ap (λ o. one_if (is_none o)) (step.others y other))
  ]

  one_less : old x ≡ None → unknown new x < unknown old x
  one_less open_var = omega (arith, ap (λ o. one_if (is_none o)) step.here, ap (λ o. one_if (is_none o)) open_var)

  less_triples : (n e f : ℕ) → triples_at n new e f ≤ triples_at n old e f
  unfolding triples_at
  less_triples n e f = omega (arith, less_unknown (Cross e f), sum_below-le n (λ g. unknown new (Before e f g)) (λ g. unknown old (Before e f g)) (λ g. less_unknown (Before e f g)))

  less_pairs : (n e : ℕ) → pairs_at n new e ≤ pairs_at n old e
  unfolding pairs_at
  less_pairs n e = sum_below-le n (triples_at n new e) (triples_at n old e) (less_triples n e)

  falls_at : (n e f : ℕ) → e < n → f < n → triples_at n new e f < triples_at n old e f → unknown_below n new < unknown_below n old
  unfolding unknown_below pairs_at
  falls_at n e f e_low f_low strict =
      sum_below-lt n (pairs_at n new) (pairs_at n old) (less_pairs n) e e_low
      (sum_below-lt n (triples_at n new e) (triples_at n old e) (less_triples n e) f f_low strict)

-- the numbers of a variable are below n
abbrev IsVarBelow : ℕ → Var → Type 0
IsVarBelow n (Cross e f) = (e < n) × (f < n)
IsVarBelow n (Before e f g) = (e < n) × (f < n) × (g < n)

falls : (n : ℕ) (old new : Var → Option Bool) (x : Var) (is : Bool) → IsStep old new x is → old x ≡ None → IsVarBelow n x → unknown_below n new < unknown_below n old
unfolding triples_at
falls n old new (Cross e f) is step open_var low =
    falls_at old new (Cross e f) is step n e f low.0 low.1
    (omega (arith, one_less old new (Cross e f) is step open_var, sum_below-le n (λ g. unknown new (Before e f g)) (λ g. unknown old (Before e f g)) (λ g. less_unknown old new (Cross e f) is step (Before e f g))))
falls n old new (Before e f g) is step open_var low =
    falls_at old new (Before e f g) is step n e f low.0 low.1
    (omega (arith, less_unknown old new (Before e f g) is step (Cross e f), sum_below-lt n (λ h. unknown new (Before e f h)) (λ h. unknown old (Before e f h)) (λ h. less_unknown old new (Before e f g) is step (Before e f h)) g low.2 (one_less old new (Before e f g) is step open_var)))

-- the number of unknown variables of a program
pub unknown_count : (Var → Option Bool) → ℕ
unknown_count known = unknown_below (2 ^ 32) known

small_below : (x : Var) → IsSmallVar x → IsVarBelow (2 ^ 32) x
small_below (Cross e f) small = small
small_below (Before e f g) small = small

pub unknown_count-falls : (s : State) (tried : List (Var × Bool)) (x : Var) (is : Bool) → IsUnknown (known_in s tried) x → unknown_count (known_in s ((x, is) ∷ tried)) < unknown_count (known_in s tried)
unfolding unknown_count
unknown_count-falls s tried x is open_var = falls (2 ^ 32) _ _ x is (tried_step s tried x is) open_var.unknown (small_below x open_var.small)
