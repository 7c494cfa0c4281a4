-- The table of the numbers and the list of the rows that have one.
use Rattle.std.proofs.Common.{◌≡◌, ◌≢◌, ℕ, zero, suc, ◌<◌, ◌≤◌, inl, inr, true, false, eqb, List, [], ◌∷◌, ◌++◌, length, get_or, set, refl, sym, ◌∙◌, ap, subst, arith}
use Rattle.std.specs.Prelude.{All, Option, Some, None, replicate}
use Rattle.std.specs.List.{list_any}
use Rattle.std.proofs.lemmas.Bool.{both_ways, cases_Bool, cases_eq, cond-true, cond-false, eqb-true, ne_eqb, or_cases}
use Rattle.std.proofs.lemmas.List.{get_or_append_left, get_or_default, get_or_push, get_or-set_other, get_or-set_same, length-set, length_push}
use Rattle.std.proofs.lemmas.List.Elements.{All-head, All-push, All-tail}
use Rattle.std.proofs.lemmas.Map.Keys.{IsDistinct-from_apart}
use Rattle.std.proofs.lemmas.Map.Steps.{length-le_from_distinct_below}
use Rattle.xn_model.specs.Lists.{at, has, position_in}
use Rattle.xn_tidy.specs.Numbering.{AreNumbered, HasNumber}
use Rattle.xn_tidy.proofs.Positions.{at_position, has-get_or, position-last}

any_below : (n : ℕ) (xs : List ℕ) → All (λ x. x < n) xs → (q : ℕ) → list_any (eqb q) xs ≡ true → q < n
any_below n [] all q h = absurd (both_ways false refl h)
any_below n (x ∷ xs) all q h = elim (or_cases (eqb q x) (list_any (eqb q) xs) h) [
  | inl here ↦ omega (arith, eqb-true q x here, All-head (λ y. y < n) x xs all)
  | inr later ↦ any_below n xs (All-tail (λ y. y < n) x xs all) q later
]

no_number : (count i n : ℕ) → get_or (replicate count None) i None ≡ Some n → ⊥
no_number zero i n h = cc
no_number (suc count) zero n h = cc
no_number (suc count) (suc i) n h = no_number count i n h

-- at first there is no number
pub nothing_numbered : (numbers : List (Option ℕ)) (order : List ℕ) (count : ℕ) → numbers ≡ replicate count None → order ≡ [] → AreNumbered numbers order
nothing_numbered numbers order count numbers_are order_is = subst (λ (o : List ℕ). AreNumbered numbers o) (sym order_is) (record {
  below = λ i d small. absurd (omega (arith, small));
  numbered = λ i n has_it. absurd (no_number count i n (ap (λ xs. get_or xs i None) (sym numbers_are) ∙ has_it));
  ordered = λ n small. absurd (omega (arith, small));
})

module _ (numbers : List (Option ℕ)) (order : List ℕ) (inverse : AreNumbered numbers order) where
  -- no row has two numbers
  one_number : (m n : ℕ) → m < length order → n < length order → at order m ≡ at order n → m ≡ n
  one_number m n m_in n_in same =
      let both : Some m ≡ Some n = sym (inverse.ordered m m_in) ∙ ap (λ i. get_or numbers i None) same ∙ inverse.ordered n n_in in
      cc

  -- so there are no more numbers than rows
  pub few_numbers : length order ≤ length numbers
  few_numbers =
      length-le_from_distinct_below order (length numbers)
      (IsDistinct-from_apart eqb order (λ i j d less j_in. ne_eqb _ _ (λ same.
      let equal : i ≡ j = one_number i j (omega (arith, less, j_in)) j_in (at_any i j d (omega (arith, less, j_in)) j_in same) in omega (arith, less, equal))))
      (any_below (length numbers) order inverse.below)
    where
      at_any : (i j d : ℕ) → i < length order → j < length order → get_or order i d ≡ get_or order j d → at order i ≡ at order j
      at_any i j d i_in j_in same = get_or_default order i 0 d i_in ∙ same ∙ get_or_default order j d 0 j_in

  -- a row with a number
  pub known_number : (i n : ℕ) → get_or numbers i None ≡ Some n → HasNumber order order i n
  known_number i n known =
      let there = inverse.numbered i n known in
      let in_order : has order i ≡ true = subst (λ x. has order x ≡ true) there.1 (has-get_or order n 0 there.0) in
      let place = at_position order i in_order in
      record {
        order = sym (cond-true _ _ _ in_order);
        number = one_number n (position_in order i) there.0 place.0 (there.1 ∙ sym place.1);
      }

  module _ (i : ℕ) (unknown : get_or numbers i None ≡ None) where
    not_there : has order i ≡ false
    not_there = elim (cases_Bool (has order i)) [
      | inl yes_there ↦
          let place = at_position order i yes_there in
          let some : get_or numbers i None ≡ Some (position_in order i) = ap (λ x. get_or numbers x None) (sym place.1) ∙ inverse.ordered (position_in order i) place.0 in
          let both : None ≡ Some (position_in order i) = sym unknown ∙ some in
          absurd cc
      | inr no_there ↦ no_there
    ]

    -- gets the next one
    pub next_number : HasNumber order (order ++ i ∷ []) i (length order)
    next_number = record {
      order = sym (cond-false _ _ _ not_there);
      number = sym (position-last order i not_there);
    }

    module _ (below : i < length numbers) where
      numbered_then : (j n : ℕ) → get_or (set numbers i (Some (length order))) j None ≡ Some n → (n < length (order ++ i ∷ [])) × (at (order ++ i ∷ []) n ≡ j)
      numbered_then j n is = elim (cases_eq j i) [
        | inl here ↦
            let set_here : get_or (set numbers i (Some (length order))) j None ≡ Some (length order) =
            ap (λ x. get_or (set numbers i (Some (length order))) x None) here ∙ get_or-set_same numbers i (Some (length order)) None below in
            let both : Some (length order) ≡ Some n = sym set_here ∙ is in
            let last : length order ≡ n = cc in
            (omega (arith, last, length_push order i), get_or_push order i 0 n last ∙ sym here)
        | inr elsewhere ↦
            let old = inverse.numbered j n (sym (get_or-set_other numbers i j (Some (length order)) None elsewhere) ∙ is) in
            (omega (arith, old.0, length_push order i), get_or_append_left order (i ∷ []) 0 n old.0 ∙ old.1)
      ]

      ordered_then : (n : ℕ) → n < length (order ++ i ∷ []) → get_or (set numbers i (Some (length order))) (at (order ++ i ∷ []) n) None ≡ Some n
      ordered_then n low = elim (cases_eq n (length order)) [
        | inl last ↦
            ap (λ x. get_or (set numbers i (Some (length order))) x None) (get_or_push order i 0 n (sym last))
            ∙ get_or-set_same numbers i (Some (length order)) None below ∙ ap Some (sym last)
        | inr before ↦
            let n_in : n < length order = omega (arith, low, before, length_push order i) in
            let same : at (order ++ i ∷ []) n ≡ at order n = get_or_append_left order (i ∷ []) 0 n n_in in
            let other : at order n ≢ i = λ e. (let both : None ≡ Some n = sym unknown ∙ ap (λ x. get_or numbers x None) (sym e) ∙ inverse.ordered n n_in in absurd cc) in
            ap (λ x. get_or (set numbers i (Some (length order))) x None) same
            ∙ get_or-set_other numbers i (at order n) (Some (length order)) None other ∙ inverse.ordered n n_in
      ]

      pub still_inverse : AreNumbered (set numbers i (Some (length order))) (order ++ i ∷ [])
      still_inverse = record {
        below = λ k d k_in. omega (arith, All-push (λ x. x < length numbers) order i inverse.below below k d k_in, length-set numbers i (Some (length order)));
        numbered = numbered_then;
        ordered = ordered_then;
      }
