-- The first number of which something is true.
use Rattle.std.proofs.Common.{◌≡◌, ℕ, zero, suc, ◌+◌, ◌<◌, ◌⊎◌, inl, inr, subst, arith}
use Rattle.std.proofs.lemmas.Bool.{cases_eq, cases_order}
use Rattle.xn_model.specs.First.{IsFirst}

-- it is so, or it isn't
abbrev pub Decided : Type 0 → Type 0
Decided P = P ⊎ (P → ⊥)

-- none so far, and not the next
pub none_more : (P : ℕ → Type 0) (i : ℕ) → ((j : ℕ) → j < i → ¬ (P j)) → ¬ (P i) → (j : ℕ) → j < i + 1 → ¬ (P j)
none_more P i none away j low here = elim (cases_eq j i) [
  | inl same ↦ away (subst P same here)
  | inr other ↦ none j (omega (arith, low, other)) here
]

-- the first number below n of which P is true, if there is one
pub first_so : (P : ℕ → Type 0) (n : ℕ) → ((i : ℕ) → i < n → Decided (P i)) → ((i : ℕ) × (i < n) × IsFirst P i) ⊎ ((i : ℕ) → i < n → ¬ (P i))
first_so P zero decide = inr (λ i low. absurd (omega (arith, low)))
first_so P (suc n) decide = elim (first_so P n (λ i low. decide i (omega (arith, low)))) [
  | inl found ↦ inl (found.0, omega (arith, found.1), found.2)
  | inr none ↦ elim (decide n (omega arith)) [
    | inl here ↦ inl (n, omega arith, record { here = here; before = none })
    | inr away ↦ inr (none_yet none away)
  ]
]
  where
    none_yet : ((i : ℕ) → i < n → ¬ (P i)) → (P n → ⊥) → (i : ℕ) → i < suc n → ¬ (P i)
    none_yet none away i low here = elim (cases_eq i n) [
      | inl same ↦ away (subst P same here)
      | inr other ↦ none i (omega (arith, low, other)) here
    ]

-- there is one first
pub first_same : (P : ℕ → Type 0) (a b : ℕ) → IsFirst P a → IsFirst P b → a ≡ b
first_same P a b first second = elim (cases_order a b) [
  | inl same ↦ same
  | inr other ↦ elim other [ inl below ↦ absurd (second.before a below first.here) | inr above ↦ absurd (first.before b above second.here) ]
]
