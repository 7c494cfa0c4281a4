-- Walks and inner nodes, step by step.
use Rattle.std.proofs.Common.{◌≡◌, ℕ, suc, ◌+◌, ◌<◌, ◌≤◌, inl, inr, true, eqb, get_or, take, drop, List, [], ◌∷◌, ◌++◌, length, refl, sym, ◌∙◌, ap, subst, arith, drop-cons}
use Rattle.std.proofs.lemmas.Bool.{cases_Bool, cond-false, cond-true}
use Rattle.std.proofs.lemmas.List.{take-append-drop}
use Rattle.xn_model.specs.Evidence.{LeadsTo, far_end, inner_nodes}
use Rattle.xn_model.specs.Graph.{ends_at, touches}

-- what is from a place on
pub drop_at : {A : Type 0} (xs : List A) (i : ℕ) (d : A) → i < length xs → drop i xs ≡ get_or xs i d ∷ drop (i + 1) xs
drop_at xs i d i_in = let more : suc i ≡ i + 1 = omega arith in drop-cons xs i d i_in ∙ ap (λ j. get_or xs i d ∷ drop j xs) more

-- a list is what is before a place, what is there, and what comes after
pub around : {A : Type 0} (xs : List A) (i : ℕ) (d : A) → i < length xs → xs ≡ take i xs ++ get_or xs i d ∷ drop (i + 1) xs
around xs i d i_in = sym (take-append-drop i xs) ∙ ap (λ ys. take i xs ++ ys) (drop_at xs i d i_in)

-- a node of a web leads along its segments to nodes
pub far_end_in : (n : ℕ) (p : ℕ × ℕ) (u : ℕ) → p.0 < n → p.1 < n → far_end p u < n
far_end_in n p u one two = elim (cases_Bool (eqb p.0 u)) [
  | inl first ↦ let is : far_end p u ≡ p.1 = cond-true _ _ _ first in omega (arith, is, two)
  | inr second ↦ let is : far_end p u ≡ p.0 = cond-false _ _ _ second in omega (arith, is, one)
]

-- the last segment leads to no inner node
pub no_inner_left : (ends : List (ℕ × ℕ)) (u : ℕ) (path : List ℕ) → length path ≤ 1 → inner_nodes ends u path ≡ []
no_inner_left ends u [] few = refl
no_inner_left ends u (s ∷ []) few = refl
no_inner_left ends u (s ∷ t ∷ path) few = absurd (omega (arith, few))

module _ (ends : List (ℕ × ℕ)) (path : List ℕ) (k u : ℕ) (k_in : k < length path) where
  abbrev s : ℕ
  s = get_or path k 0

  abbrev w : ℕ
  w = far_end (ends_at ends s) u

  here : drop k path ≡ s ∷ drop (k + 1) path
  here = drop_at path k 0 k_in

  -- a step of a walk
  pub step : (v : ℕ) → LeadsTo ends u (drop k path) v → (s < length ends) × (touches (ends_at ends s) u ≡ true) × LeadsTo ends w (drop (k + 1) path) v
  step v leads = let P : List ℕ → Type 0 = λ xs. LeadsTo ends u xs v in subst P here leads

  pub step_back : (v : ℕ) → s < length ends → touches (ends_at ends s) u ≡ true → LeadsTo ends w (drop (k + 1) path) v → LeadsTo ends u (drop k path) v
  step_back v s_in t leads = let P : List ℕ → Type 0 = λ xs. LeadsTo ends u xs v in subst P (sym here) (s_in, t, leads)

  -- the node after a segment that is not the last is an inner one
  pub inner_step : k + 1 < length path → inner_nodes ends u (drop k path) ≡ w ∷ inner_nodes ends w (drop (k + 1) path)
  inner_step more =
      let next = drop_at path (k + 1) 0 more in
      ap (inner_nodes ends u) here ∙ ap (λ xs. inner_nodes ends u (s ∷ xs)) next ∙ ap (λ xs. w ∷ inner_nodes ends w xs) (sym next)
