-- Lists of four numbers.
use Rattle.std.proofs.Common.{◌≡◌, ◌≢◌, ℕ, ◌<◌, ◌⊎◌, inl, inr, true, false, eqb, List, [], ◌∷◌, length, refl, sym, subst}
use Rattle.std.specs.List.{IsDistinct}
use Rattle.std.specs.Prelude.{nat_eq}
use Rattle.std.proofs.lemmas.Bool.{both_ways, eqb-true, ne_eqb, or_cases}
use Rattle.xn_model.specs.Lists.{at, has}
use Rattle.xn_track.proofs.Places.{has-at}

pub four_distinct : (a b c e : ℕ) → a ≢ b → a ≢ c → a ≢ e → b ≢ c → b ≢ e → c ≢ e → IsDistinct nat_eq (a ∷ b ∷ c ∷ e ∷ [])
unfolding IsDistinct
four_distinct a b c e ab ac ae bc be ce =
    ((ne_eqb a b ab, (ne_eqb a c ac, (ne_eqb a e ae, tt))), ((ne_eqb b c bc, (ne_eqb b e be, tt)), ((ne_eqb c e ce, tt), (tt, tt))))

pub listed_has : (xs : List ℕ) (i k : ℕ) → i < length xs → at xs i ≡ k → has xs k ≡ true
listed_has xs i k i_in same = subst (λ z. has xs z ≡ true) same (has-at xs i i_in)

pub of_four : (a b c e k : ℕ) → has (a ∷ b ∷ c ∷ e ∷ []) k ≡ true → ((k ≡ a) ⊎ (k ≡ b)) ⊎ ((k ≡ c) ⊎ (k ≡ e))
of_four a b c e k h = elim (or_cases (eqb a k) (has (b ∷ c ∷ e ∷ []) k) h) [
  | inl is ↦ inl (inl (sym (eqb-true a k is)))
  | inr h2 ↦ elim (or_cases (eqb b k) (has (c ∷ e ∷ []) k) h2) [
    | inl is ↦ inl (inr (sym (eqb-true b k is)))
    | inr h3 ↦ elim (or_cases (eqb c k) (has (e ∷ []) k) h3) [
      | inl is ↦ inr (inl (sym (eqb-true c k is)))
      | inr h4 ↦ elim (or_cases (eqb e k) (has [] k) h4) [ inl is ↦ inr (inr (sym (eqb-true e k is))) | inr no_more ↦ absurd (both_ways false refl no_more) ]
    ]
  ]
]
